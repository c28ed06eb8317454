-- What is written of a number that has so many digits is read as that number. Assumes nothing.
use mathlib.Core.Path.{◌≡◌}
use mathlib.Core.Bool.{true}
use mathlib.Core.List.{[], ◌∷◌}
use Prim.Native.Nat.{ℕ, ◌+◌, ◌*◌, ◌/◌, ◌%◌, ◌<◌}
use native.Mathlib.Omega.{arith}
use Rattle.text.specs.Bytes.{digit_zero, all_digits, natural}
use Rattle.fields.proofs.Inverse.{digit-is, next_place}
use Rattle.layout_heading.specs.Written.{two_digits, four_digits}

pub two-digits : (n : ℕ) → all_digits (two_digits n) ≡ true
unfolding all_digits
two-digits n = simp digit-is

pub four-digits : (n : ℕ) → all_digits (four_digits n) ≡ true
unfolding all_digits
four-digits n = simp digit-is

pub two_back : (n : ℕ) → n < 100 → natural (two_digits n) ≡ n
unfolding natural
two_back n h = omega arith

pub four-back : (n : ℕ) → n < 10000 → natural (four_digits n) ≡ n
unfolding natural
four-back n h = by (n / 1000 % 10) (n / 1000) (n / 100 % 10) (n / 100) (n / 10 % 10) (n / 10) (n % 10) (omega arith) (next_place n 100) (next_place n 10) (omega arith)
  where
    by : (a r b q c p d : ℕ) → a ≡ r → q ≡ r * 10 + b → p ≡ q * 10 + c → n ≡ p * 10 + d → natural ((digit_zero + a) ∷ (digit_zero + b) ∷ (digit_zero + c) ∷ (digit_zero + d) ∷ []) ≡ n
    by a r b q c p d e f g k = omega arith
