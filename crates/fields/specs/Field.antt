-- A value: "Fortran F7.2: seven characters, right-justified, blank-padded on the left, the decimal point in the fifth column of the field, two
-- decimals after it". As other writers print it, "a zero before the point may be left out". So the four columns before the point hold spaces,
-- then perhaps a minus, then the digits of a whole number with no zero too many in front, or no digit. Assumes nothing.
use Rattle.std.specs.Prelude.{ℕ, ◌+◌, ◌*◌, Bool, true, cond, not, ◌&&◌, List, [], ◌∷◌, Option, Some, None, get_or, eqb}
use Rattle.text.specs.Bytes.{space, point, digit_zero, all_digits, negative, body, natural}
use Rattle.fields.specs.Columns.{columns}
use Rattle.fields.specs.declared.Number.{Number}

-- the number that bytes make, if they are digits
unfoldable pub digits_of : List ℕ → Option ℕ
digits_of bs = cond (all_digits bs) (Some (natural bs)) None

-- ---- "blank-padded on the left"
unfoldable pub unpadded : List ℕ → List ℕ
unpadded [] = []
unpadded (b ∷ bs) = cond (eqb b space) (unpadded bs) (b ∷ bs)

-- ---- the digits before the point: none, or a number's own, so that 0 begins no other number
unfoldable pub plain : List ℕ → Bool
plain [] = true
plain (d ∷ []) = true
plain (d ∷ e ∷ ds) = not (eqb d digit_zero)

-- ---- the four columns before the point, and the two after it
unfoldable pub ahead : List ℕ → List ℕ
ahead f = unpadded (columns 1 4 f)

unfoldable pub units : List ℕ → List ℕ
units f = body (ahead f)

abbrev pub decimals : List ℕ → List ℕ
decimals f = columns 6 7 f

unfoldable pub well_formed : List ℕ → Bool
well_formed f = eqb (get_or f 4 0) point && plain (units f) && all_digits (units f) && all_digits (decimals f)

unfoldable pub hundredths : List ℕ → ℕ
hundredths f = 100 * natural (units f) + natural (decimals f)

-- whether it has a minus, and its hundredths
abbrev pub numbered : Bool → ℕ → Option Number
numbered minus n = Some (record { minus = minus; hundredths = n })

unfoldable pub field_of : List ℕ → Option Number
field_of f = cond (well_formed f) (numbered (negative (ahead f)) (hundredths f)) None
