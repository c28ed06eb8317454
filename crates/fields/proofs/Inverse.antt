-- The writer and the reader of a value are inverse to each other: what is written of a size that fits is read as that size (`read_written`), and
-- what is read of a field that has a digit before the point and no minus before 0 is written as that field (`Written-Read`). The idea: by how
-- many digits stand before the point. Assumes nothing.
use mathlib.Core.Path.{◌≡◌, refl, ap, ◌∙◌}
use mathlib.Core.Bool.{Bool, true, false, cond}
use mathlib.Core.List.{List, [], ◌∷◌}
use Prim.Native.Nat.{ℕ, ◌+◌, ◌*◌, ◌/◌, ◌%◌, ◌≤◌, ◌<◌}
use native.Mathlib.Nat.{div-div-eq-div-mul}
use native.Mathlib.Omega.{arith}
use lib.Dec.{leb, eqb}
use borrow.Author.Tests.{eq-eqb, ne_eqb, le-leb, leb-true, leb-false}
use Rattle.text.specs.Bytes.{space, minus_sign, point, digit_zero, is_digit, all_digits, negative, body, natural}
use Rattle.fields.specs.Field.{unpadded, plain, ahead, units, well_formed, hundredths, numbered, field_of}
use Rattle.fields.specs.Written.{before_units, field_text, size_fits}

-- ---- a digit's byte
pub digit-no-space : (x : ℕ) → eqb (digit_zero + x % 10) space ≡ false
digit-no-space x = ne_eqb (digit_zero + x % 10) space (λ e. omega arith)

pub digit-no-minus : (x : ℕ) → eqb (digit_zero + x % 10) minus_sign ≡ false
digit-no-minus x = ne_eqb (digit_zero + x % 10) minus_sign (λ e. omega arith)

pub digit-is : (x : ℕ) → is_digit (digit_zero + x % 10) ≡ true
unfolding is_digit
digit-is x = rw (le-leb digit_zero (digit_zero + x % 10) (omega arith), le-leb (digit_zero + x % 10) 57 (omega arith))

-- ---- a column before the units
module _ (minus : Bool) (q next : ℕ) where
  pub column-digit : (q ≡ 0 → ⊥) → before_units minus q next ≡ digit_zero + q % 10
  unfolding before_units
  column-digit h = rw (ne_eqb q 0 h)

  pub column-space : q ≡ 0 → next ≡ 0 → before_units minus q next ≡ space
  unfolding before_units
  column-space h l = rw (eq-eqb q 0 h, eq-eqb next 0 l)

  pub column-sign : q ≡ 0 → (next ≡ 0 → ⊥) → before_units minus q next ≡ cond minus minus_sign space
  unfolding before_units
  column-sign h l = rw (eq-eqb q 0 h, ne_eqb next 0 l)

-- ---- a number by its digits
-- so many places on, and one more
pub next_place : (n k : ℕ) → n / k ≡ n / (k * 10) * 10 + n / k % 10
next_place n k = ap (λ (q : ℕ). q) (parted (n / k)) ∙ ap (λ (q : ℕ). q * 10 + n / k % 10) (div-div-eq-div-mul n k 10)
  where
    parted : (q : ℕ) → q ≡ q / 10 * 10 + q % 10
    parted q = omega arith

abbrev place : ℕ → ℕ → ℕ
place n k = n / k % 10

-- below the next place a number is its digits up to this one
module _ (n : ℕ) where
  from-100 : n / 100 * 100 + place n 10 * 10 + n % 10 ≡ n
  from-100 = let e = next_place n 10 in omega arith

  from-1000 : n / 1000 * 1000 + place n 100 * 100 + place n 10 * 10 + n % 10 ≡ n
  from-1000 = carried (n / 1000) (n / 100) (place n 100) (place n 10) (n % 10) from-100 (next_place n 100)
    where
      carried : (r q d e f : ℕ) → q * 100 + e * 10 + f ≡ n → q ≡ r * 10 + d → r * 1000 + d * 100 + e * 10 + f ≡ n
      carried r q d e f g h = omega arith

  from-10000 : n / 10000 * 10000 + place n 1000 * 1000 + place n 100 * 100 + place n 10 * 10 + n % 10 ≡ n
  from-10000 = carried (n / 10000) (n / 1000) (place n 1000) (place n 100) (place n 10) (n % 10) from-1000 (next_place n 1000)
    where
      carried : (r q c d e f : ℕ) → q * 1000 + d * 100 + e * 10 + f ≡ n → q ≡ r * 10 + c → r * 10000 + c * 1000 + d * 100 + e * 10 + f ≡ n
      carried r q c d e f g h = omega arith

  from-100000 : n / 100000 * 100000 + place n 10000 * 10000 + place n 1000 * 1000 + place n 100 * 100 + place n 10 * 10 + n % 10 ≡ n
  from-100000 = carried (n / 100000) (n / 10000) (place n 10000) (place n 1000) (place n 100) (place n 10) (n % 10) from-10000 (next_place n 10000)
    where
      carried : (r q b c d e f : ℕ) → q * 10000 + c * 1000 + d * 100 + e * 10 + f ≡ n → q ≡ r * 10 + b → r * 100000 + b * 10000 + c * 1000 + d * 100 + e * 10 + f ≡ n
      carried r q b c d e f g h = omega arith

-- ---- fields by the digits before the point, whose first is no 0 where there are several
abbrev pub with_point : ℕ → List ℕ
with_point n = (digit_zero + n / 100 % 10) ∷ point ∷ (digit_zero + n / 10 % 10) ∷ (digit_zero + n % 10) ∷ []

one-digit : (minus : Bool) (n : ℕ) → n < 1000 → field_of (space ∷ space ∷ cond minus minus_sign space ∷ with_point n) ≡ numbered minus n
unfolding field_of well_formed hundredths units ahead unpadded body negative plain all_digits natural
one-digit true n h = simp (digit-no-space, digit-no-minus, digit-is) (ap (numbered true) (omega arith))
one-digit false n h = simp (digit-no-space, digit-no-minus, digit-is) (ap (numbered false) (omega arith))

-- the number that the digits make
summed-two : (n : ℕ) → n < 10000 → 100 * natural ((digit_zero + place n 1000) ∷ (digit_zero + place n 100) ∷ []) + natural ((digit_zero + place n 10) ∷ (digit_zero + n % 10) ∷ []) ≡ n
unfolding natural
summed-two n h = by (place n 1000) (n / 1000) (place n 100) (place n 10) (n % 10) (omega arith) (from-1000 n)
  where
    by : (c r d e f : ℕ) → c ≡ r → r * 1000 + d * 100 + e * 10 + f ≡ n → 100 * natural ((digit_zero + c) ∷ (digit_zero + d) ∷ []) + natural ((digit_zero + e) ∷ (digit_zero + f) ∷ []) ≡ n
    by c r d e f p q = omega arith

summed-three : (n : ℕ) → n < 100000 → 100 * natural ((digit_zero + place n 10000) ∷ (digit_zero + place n 1000) ∷ (digit_zero + place n 100) ∷ []) + natural ((digit_zero + place n 10) ∷ (digit_zero + n % 10) ∷ []) ≡ n
unfolding natural
summed-three n h = by (place n 10000) (n / 10000) (place n 1000) (place n 100) (place n 10) (n % 10) (omega arith) (from-10000 n)
  where
    by : (b r c d e f : ℕ) → b ≡ r → r * 10000 + c * 1000 + d * 100 + e * 10 + f ≡ n → 100 * natural ((digit_zero + b) ∷ (digit_zero + c) ∷ (digit_zero + d) ∷ []) + natural ((digit_zero + e) ∷ (digit_zero + f) ∷ []) ≡ n
    by b r c d e f p q = omega arith

summed-four : (n : ℕ) → n < 1000000 → 100 * natural ((digit_zero + place n 100000) ∷ (digit_zero + place n 10000) ∷ (digit_zero + place n 1000) ∷ (digit_zero + place n 100) ∷ []) + natural ((digit_zero + place n 10) ∷ (digit_zero + n % 10) ∷ []) ≡ n
unfolding natural
summed-four n h = by (place n 100000) (n / 100000) (place n 10000) (place n 1000) (place n 100) (place n 10) (n % 10) (omega arith) (from-100000 n)
  where
    by : (a r b c d e f : ℕ) → a ≡ r → r * 100000 + b * 10000 + c * 1000 + d * 100 + e * 10 + f ≡ n → 100 * natural ((digit_zero + a) ∷ (digit_zero + b) ∷ (digit_zero + c) ∷ (digit_zero + d) ∷ []) + natural ((digit_zero + e) ∷ (digit_zero + f) ∷ []) ≡ n
    by a r b c d e f p q = omega arith

no_zero : (x : ℕ) → (x % 10 ≡ 0 → ⊥) → eqb (digit_zero + x % 10) digit_zero ≡ false
no_zero x h = ne_eqb (digit_zero + x % 10) digit_zero (λ e. h (omega arith))

two_digits : (minus : Bool) (n : ℕ) → 1000 ≤ n → n < 10000 → field_of (space ∷ cond minus minus_sign space ∷ (digit_zero + n / 1000 % 10) ∷ with_point n) ≡ numbered minus n
unfolding field_of well_formed hundredths units ahead unpadded body negative plain all_digits natural
two_digits true n l h = simp (digit-no-space, digit-no-minus, digit-is, no_zero (n / 1000) (λ e. omega arith)) (ap (numbered true) (summed-two n h))
two_digits false n l h = simp (digit-no-space, digit-no-minus, digit-is, no_zero (n / 1000) (λ e. omega arith)) (ap (numbered false) (summed-two n h))

three-digits : (minus : Bool) (n : ℕ) → 10000 ≤ n → n < 100000 → field_of (cond minus minus_sign space ∷ (digit_zero + n / 10000 % 10) ∷ (digit_zero + n / 1000 % 10) ∷ with_point n) ≡ numbered minus n
unfolding field_of well_formed hundredths units ahead unpadded body negative plain all_digits natural
three-digits true n l h = simp (digit-no-space, digit-no-minus, digit-is, no_zero (n / 10000) (λ e. omega arith)) (ap (numbered true) (summed-three n h))
three-digits false n l h = simp (digit-no-space, digit-no-minus, digit-is, no_zero (n / 10000) (λ e. omega arith)) (ap (numbered false) (summed-three n h))

four-digits : (n : ℕ) → 100000 ≤ n → n < 1000000 → field_of ((digit_zero + n / 100000 % 10) ∷ (digit_zero + n / 10000 % 10) ∷ (digit_zero + n / 1000 % 10) ∷ with_point n) ≡ numbered false n
unfolding field_of well_formed hundredths units ahead unpadded body negative plain all_digits natural
four-digits n l h = simp (digit-no-space, digit-no-minus, digit-is, no_zero (n / 100000) (λ e. omega arith)) (ap (numbered false) (summed-four n h))

-- ---- what is written, by its size
module _ (minus : Bool) (n : ℕ) where
  pub written_one : n < 1000 → field_text minus n ≡ space ∷ space ∷ cond minus minus_sign space ∷ with_point n
  unfolding field_text
  written_one h =
      rw (column-space minus (n / 100000) (n / 10000) (omega arith) (omega arith), column-space minus (n / 10000) (n / 1000) (omega arith) (omega arith), column-sign minus (n / 1000) 1 (omega arith) (λ e. omega arith)) refl

  pub written-two : 1000 ≤ n → n < 10000 → field_text minus n ≡ space ∷ cond minus minus_sign space ∷ (digit_zero + n / 1000 % 10) ∷ with_point n
  unfolding field_text
  written-two l h =
      rw (column-space minus (n / 100000) (n / 10000) (omega arith) (omega arith), column-sign minus (n / 10000) (n / 1000) (omega arith) (λ e. omega arith), column-digit minus (n / 1000) 1 (λ e. omega arith)) refl

  pub written-three : 10000 ≤ n → n < 100000 → field_text minus n ≡ cond minus minus_sign space ∷ (digit_zero + n / 10000 % 10) ∷ (digit_zero + n / 1000 % 10) ∷ with_point n
  unfolding field_text
  written-three l h =
      rw (column-sign minus (n / 100000) (n / 10000) (omega arith) (λ e. omega arith), column-digit minus (n / 10000) (n / 1000) (λ e. omega arith), column-digit minus (n / 1000) 1 (λ e. omega arith)) refl

  pub written-four : 100000 ≤ n → field_text minus n ≡ (digit_zero + n / 100000 % 10) ∷ (digit_zero + n / 10000 % 10) ∷ (digit_zero + n / 1000 % 10) ∷ with_point n
  unfolding field_text
  written-four l =
      rw (column-digit minus (n / 100000) (n / 10000) (λ e. omega arith), column-digit minus (n / 10000) (n / 1000) (λ e. omega arith), column-digit minus (n / 1000) 1 (λ e. omega arith)) refl

-- ---- what is written is read
read_by : (minus : Bool) (n : ℕ) (a b c : Bool) → leb 1000 n ≡ a → leb 10000 n ≡ b → leb 100000 n ≡ c → size_fits minus n ≡ true → field_of (field_text minus n) ≡ numbered minus n
read_by minus n false b c p q r f = rw (written_one minus n (leb-false _ _ p)) (one-digit minus n (leb-false _ _ p))
read_by minus n true false c p q r f = rw (written-two minus n (leb-true _ _ p) (leb-false _ _ q)) (two_digits minus n (leb-true _ _ p) (leb-false _ _ q))
read_by minus n true true false p q r f = rw (written-three minus n (leb-true _ _ q) (leb-false _ _ r)) (three-digits minus n (leb-true _ _ q) (leb-false _ _ r))
read_by true n true true true p q r f = absurd (omega (arith, leb-true 100000 n r, leb-true n 99999 f))
read_by false n true true true p q r f = rw (written-four false n (leb-true _ _ r)) (four-digits n (leb-true _ _ r) (small n f))
  where
    small : (n : ℕ) → size_fits false n ≡ true → n < 1000000
    small n f = let g : n ≤ 999999 = leb-true n 999999 f in omega arith

pub read_written : (minus : Bool) (n : ℕ) → size_fits minus n ≡ true → field_of (field_text minus n) ≡ numbered minus n
read_written minus n = read_by minus n _ _ _ refl refl refl
