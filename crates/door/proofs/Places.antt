-- The sizes about the one division, of a number below 2 ^ 37 by k * 2 ^ s, and that division by one shift. Assumes nothing.
use mathlib.Core.Path.{◌≡◌, sym, ap, subst, ◌∙◌}
use Prim.Native.Nat.{ℕ, ◌+◌, ◌*◌, ◌/◌, ◌%◌, ◌^◌, ◌≤◌, ◌<◌}
use native.Mathlib.Nat.{mul-pos, mul-le-mul, one-mul, mul_assoc, mul_comm, lt_of_lt_of_le, div-div-eq-div-mul, add-mul-div_right}
use native.Mathlib.Omega.{arith}
use lib.Pow.{pow_pos, pow_mono, shr_lt}
use Rattle.exact.specs.Nearest.{nearest_ℕ}
use Rattle.exact.proofs.Nearest.{near_within}

at_least : (k s j : ℕ) → 0 < k → j ≤ s → 2 ^ j ≤ k * 2 ^ s
at_least k s j K S = subst (λ (z : ℕ). z ≤ k * 2 ^ s) (one-mul (2 ^ j)) (mul-le-mul K (pow_mono S))

-- with 38 places or more the number is below half of the divisor
pub nearer-zero : (n k s : ℕ) → n < 2 ^ 37 → 0 < k → 38 ≤ s → nearest_ℕ n (k * 2 ^ s) ≡ 0
nearer-zero n k s N K S = none (near_within n (k * 2 ^ s) 0 (mul-pos K (pow_pos s)) (half (k * 2 ^ s) (at_least k s 38 K S)))
  where
    half : (d : ℕ) → 2 ^ 38 ≤ d → 2 * n < 2 * (0 * d) + d
    half d h = omega arith

    none : {m : ℕ} → m ≤ 0 → m ≡ 0
    none h = omega arith

-- 24 digits times a number up to 5000
product : (q per : ℕ) → q < 2 ^ 24 → per ≤ 5000 → q * per < 2 ^ 37
product q per Q P = go (q * per) (mul-le-mul (le_pred q Q) P)
  where
    le_pred : (q : ℕ) → q < 2 ^ 24 → q ≤ 16777215
    le_pred q h = omega arith

    go : (p : ℕ) → p ≤ 16777215 * 5000 → p < 2 ^ 37
    go p h = omega arith

-- the digits that stand in the pattern b, and with the hidden one
pub low-digits : (b per : ℕ) → per ≤ 5000 → b % 8388608 * per < 2 ^ 37
low-digits b per P = product (b % 8388608) per (go b) P
  where
    go : (b : ℕ) → b % 8388608 < 2 ^ 24
    go b = omega arith

pub all_digits : (b per : ℕ) → per ≤ 5000 → (b % 8388608 + 8388608) * per < 2 ^ 37
all_digits b per P = product (b % 8388608 + 8388608) per (go b) P
  where
    go : (b : ℕ) → b % 8388608 + 8388608 < 2 ^ 24
    go b = omega arith

-- nearest to a / (of * 2 ^ k), with one shift: twice a, cut to whole numbers, and of more, over twice of
pub by-halves : (a of k : ℕ) → nearest_ℕ a (of * 2 ^ k) ≡ (2 * a / 2 ^ k + of) / (2 * of)
unfolding nearest_ℕ
by-halves a of k =
    let n = 2 * a + of * 2 ^ k in
    let e : 2 * (of * 2 ^ k) ≡ 2 ^ k * (2 * of) = simp (mul_assoc, mul_comm) in
    ap (λ (d : ℕ). n / d) e ∙ sym (div-div-eq-div-mul n (2 ^ k) (2 * of)) ∙ ap (λ (q : ℕ). q / (2 * of)) (add-mul-div_right (2 * a) of (pow_pos k))

-- what is shifted is small
pub shifted-lt : (a k : ℕ) → a < 2 ^ 37 → 12 ≤ k → 2 * a / 2 ^ k < 2 ^ 26
shifted-lt a k h l = shr_lt 26 k (lt_of_lt_of_le (double a h) (pow_mono {i = 38} {j = 26 + k} (omega arith)))
  where
    double : (a : ℕ) → a < 2 ^ 37 → 2 * a < 2 ^ 38
    double a h = omega arith
