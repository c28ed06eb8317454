-- The digits of a number: the last is its rest by ten and those before it are those of its tenth, and a u32 has at most ten. The idea: places
-- beyond those that the number takes change nothing. Assumes nothing.
use mathlib.Core.Path.{◌≡◌, refl, sym, ap, ◌∙◌}
use mathlib.Core.Bool.{Bool, true, false}
use mathlib.Core.List.{[], ◌∷◌, ◌++◌}
use Prim.Native.Nat.{ℕ, zero, suc, ◌+◌, ◌/◌, ◌%◌, ◌^◌, ◌≤◌, ◌<◌}
use native.Mathlib.Nat.{pow-suc}
use native.Mathlib.Omega.{arith}
use lib.Dec.{ltb}
use lib.IntN.{ℤ, pos, negsuc, nat_abs}
use lib.Signed.{lt_z}
use lib.ListN.{length, length-append}
use borrow.Author.Tests.{ltb-true, ltb-false, lt-ltb, le-ltb}
use mir.Syntax.{w32}
use mir.Val.{SFits}
use Rattle.text.specs.Bytes.{minus_sign, digit_zero}
use Rattle.rows.specs.Text.{digits_within, numeral, integer}

-- ---- one place
small : (k n : ℕ) → n < 10 → digits_within k n ≡ (digit_zero + n) ∷ []
unfolding digits_within
small zero n h = refl
small (suc k) n h = rw (lt-ltb n 10 h)

large : (k n : ℕ) → 10 ≤ n → digits_within (suc k) n ≡ digits_within k (n / 10) ++ ((digit_zero + n % 10) ∷ [])
unfolding digits_within
large k n h = rw (le-ltb n 10 h)

-- ---- more places than the number has change nothing
same_by : (j k n : ℕ) (t : Bool) → ltb n 10 ≡ t → (n / 10 ≤ j → n / 10 ≤ k → digits_within j (n / 10) ≡ digits_within k (n / 10)) → n ≤ suc j → n ≤ suc k → digits_within (suc j) n ≡ digits_within (suc k) n
same_by j k n true e tenth f g = let h = ltb-true n 10 e in small (suc j) n h ∙ sym (small (suc k) n h)
same_by j k n false e tenth f g =
    let h = ltb-false n 10 e in
    large j n h ∙ ap (λ s. s ++ ((digit_zero + n % 10) ∷ [])) (tenth (omega arith) (omega arith)) ∙ sym (large k n h)

same : (j k n : ℕ) → n ≤ j → n ≤ k → digits_within j n ≡ digits_within k n
same zero k n f g = small zero n (omega arith) ∙ sym (small k n (omega arith))
same (suc j) zero n f g = small (suc j) n (omega arith) ∙ sym (small zero n (omega arith))
same (suc j) (suc k) n f g = same_by j k n (ltb n 10) refl (same j k (n / 10)) f g

pub numeral-one : (n : ℕ) → n < 10 → numeral n ≡ (digit_zero + n % 10) ∷ []
unfolding numeral
numeral-one n h = small n n h ∙ ap (λ d. (digit_zero + d) ∷ []) (omega arith)

pub numeral-ten : (n : ℕ) → 10 ≤ n → numeral n ≡ numeral (n / 10) ++ ((digit_zero + n % 10) ∷ [])
unfolding numeral
numeral-ten zero h = absurd (omega arith)
numeral-ten (suc m) h =
    large m (suc m) h ∙ ap (λ s. s ++ ((digit_zero + suc m % 10) ∷ [])) (same m (suc m / 10) (suc m / 10) (omega arith) (omega arith))

-- ---- how many digits
one_place : (m n : ℕ) → length (digits_within zero n) ≤ suc m
unfolding digits_within
one_place m n = omega arith

few-by : (k m n : ℕ) (t : Bool) → ltb n 10 ≡ t → ((l : ℕ) → n / 10 < 10 ^ suc l → length (digits_within k (n / 10)) ≤ suc l) → n < 10 ^ suc m → length (digits_within (suc k) n) ≤ suc m
few-by k m n true e tenth h = rw (small (suc k) n (ltb-true n 10 e)) (omega arith)
few-by k zero n false e tenth h = let g = ltb-false n 10 e in absurd (omega arith)
few-by k (suc m) n false e tenth h =
    let g = ltb-false n 10 e in
    let f = tenth m (omega (arith, pow-suc 10 (suc m))) in
    rw (large k n g, length-append) (omega arith)

few : (k m n : ℕ) → n < 10 ^ suc m → length (digits_within k n) ≤ suc m
few zero m n h = one_place m n
few (suc k) m n h = few-by k m n (ltb n 10) refl (λ l. few k l (n / 10)) h

pub numeral-length : (n : ℕ) → n < 2 ^ 32 → length (numeral n) ≤ 10
unfolding numeral
numeral-length n h = few n 9 n (omega arith)

-- ---- whole numbers
-- a number below zero is a minus and the digits of its size
pub integer-below : (x : ℤ) → lt_z x (pos 0) ≡ true → integer x ≡ minus_sign ∷ numeral (nat_abs x)
unfolding integer
integer-below (pos n) e = let h = ltb-true n 0 e in absurd (omega arith)
integer-below (negsuc n) e = refl

pub integer-above : (x : ℤ) → lt_z x (pos 0) ≡ false → integer x ≡ numeral (nat_abs x)
unfolding integer
integer-above (pos n) e = refl
integer-above (negsuc n) e = let z : ◌≡◌ {A = ℕ} 0 1 = cc in absurd (omega arith)

pub integer-length : (x : ℤ) → SFits w32 x → length (integer x) ≤ 11
unfolding integer
integer-length (pos n) f = omega (arith, numeral-length n (omega (arith, f.sfits)))
integer-length (negsuc n) f = omega (arith, numeral-length (suc n) (omega (arith, f.sfits)))
