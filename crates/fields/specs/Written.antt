-- A value as it is written, column by column: "Fortran F7.2: seven characters, right-justified, blank-padded on the left, the decimal point in the
-- fifth column of the field, two decimals after it", with a zero before the point where there is no other digit, as the published files have it.
-- What such a value says when it is read is Field; that the two are inverse is in proofs/Inverse.antt. Assumes nothing.
use Rattle.std.specs.Prelude.{ℕ, suc, ◌+◌, ◌/◌, ◌%◌, Bool, true, false, cond, List, [], ◌∷◌, ℤ, pos, negsuc, leb, eqb}
use Rattle.text.specs.Bytes.{space, minus_sign, point, digit_zero}

-- the last digit of a number
abbrev pub last_digit : ℕ → ℕ
last_digit n = digit_zero + n % 10

-- a column before the units: q is the number without the columns to its right, and next without those but one. A digit, or the minus just
-- before the first digit, or a space
unfoldable pub before_units : Bool → ℕ → ℕ → ℕ
before_units minus q next = cond (eqb q 0) (cond (eqb next 0) space (cond minus minus_sign space)) (last_digit q)

-- hundredths, with a minus or without
unfoldable pub field_text : Bool → ℕ → List ℕ
field_text minus n =
    before_units minus (n / 100000) (n / 10000) ∷ before_units minus (n / 10000) (n / 1000) ∷ before_units minus (n / 1000) 1 ∷ last_digit (n / 100) ∷ point ∷ last_digit (n / 10) ∷ last_digit n ∷ []

-- ---- a signed value: 0 has no minus
unfoldable pub value_text : ℤ → List ℕ
value_text (pos n) = field_text false n
value_text (negsuc n) = field_text true (suc n)

-- the hundredths that seven characters hold: -999.99 to 9999.99
abbrev pub most_above : ℕ
most_above = 999999

abbrev pub most_below : ℕ
most_below = 99999

abbrev pub size_fits : Bool → ℕ → Bool
size_fits minus n = leb n (cond minus most_below most_above)

abbrev pub value_fits : ℤ → Bool
value_fits (pos n) = size_fits false n
value_fits (negsuc n) = size_fits true (suc n)
