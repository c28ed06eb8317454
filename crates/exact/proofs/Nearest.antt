-- The laws of `nearest`: that it is the nearest whole number, halves away from zero (`near-only`, `nearest-near`, `nearest-half`), that it
-- is odd, rises, keeps a bound and is the same for equal fractions. Naturals first; a signed number is its size with the sign put back.
-- Assumes nothing.
use mathlib.Core.Path.{◌≡◌, refl, sym, ◌∙◌, ap, subst}
use mathlib.Core.Logic.{◌↔◌}
use Prim.Native.Nat.{ℕ, zero, suc, ◌+◌, ◌*◌, ◌/◌, ◌≤◌, ◌<◌}
use native.Mathlib.Nat.{div-eq_of_lt-le, le-div_iff_mul-le, div-lt_iff_lt-mul, div-zero, div-mul-le_self, le_refl, add-mul, mul_assoc, mul_comm, mul_left_comm, mul-pos, zero-lt-suc}
use native.Mathlib.Omega.{arith}
use lib.Ieee.Nearest.{div_same}
use lib.IntN.{ℤ, pos, negsuc, neg_ℤ, nat_abs, neg_ℤ-neg_ℤ, ◌+ℤ◌, ◌*ℤ◌}
use lib.Signed.{◌≤ℤ◌}
use Rattle.exact.specs.Nearest.{nearest, nearest_ℕ}
use Rattle.exact.proofs.Z.{Z, zs, Z-pos, Z-negsuc, Z-minus, abs-minus}

-- ---- of naturals
pub near-is : (n d k : ℕ) → k * (2 * d) ≤ 2 * n + d → 2 * n + d < (k + 1) * (2 * d) → nearest_ℕ n d ≡ k
unfolding nearest_ℕ
near-is n d k lo hi = div-eq_of_lt-le (2 * d) lo hi

pub near_down : (n d q r : ℕ) → d * q + r ≡ n → r + r < d → nearest_ℕ n d ≡ q
near_down n d q r e h = near-is n d q (omega arith) (omega arith)

pub near_up : (n d q r : ℕ) → d * q + r ≡ n → r < d → d ≤ r + r → nearest_ℕ n d ≡ q + 1
near_up n d q r e l h = near-is n d (q + 1) (omega arith) (omega arith)

-- by one division
pub near-half-added : (n d : ℕ) → 0 < d → nearest_ℕ n d ≡ (n + d / 2) / d
near-half-added n d p = near-is n d _ (lo ((n + d / 2) / d) (div-mul-le_self (n + d / 2) d)) (hi ((n + d / 2) / d) ((div-lt_iff_lt-mul {k = d} {x = n + d / 2} {y = suc ((n + d / 2) / d)} p).0 (le_refl _)))
  where
    lo : (k : ℕ) → k * d ≤ n + d / 2 → k * (2 * d) ≤ 2 * n + d
    lo k h = omega arith

    hi : (k : ℕ) → n + d / 2 < suc k * d → 2 * n + d < (k + 1) * (2 * d)
    hi k h = omega arith

pub near-zero : (d : ℕ) → nearest_ℕ 0 d ≡ 0
unfolding nearest_ℕ
near-zero zero = refl
near-zero (suc d) = near_down 0 (suc d) 0 0 (omega arith) (omega arith)

pub near_none : (n : ℕ) → nearest_ℕ n 0 ≡ 0
unfolding nearest_ℕ
near_none n = div-zero (2 * n + 0)

-- twice the error is at most d
pub near-lo : (n d : ℕ) → nearest_ℕ n d * (2 * d) ≤ 2 * n + d
unfolding nearest_ℕ
near-lo n d = div-mul-le_self (2 * n + d) (2 * d)

pub near-hi : (n d : ℕ) → 0 < d → 2 * n + d < nearest_ℕ n d * (2 * d) + 2 * d
unfolding nearest_ℕ
near-hi n d h = go ((div-lt_iff_lt-mul {k = 2 * d} {x = 2 * n + d} {y = suc ((2 * n + d) / (2 * d))} (omega arith)).0 (le_refl _))
  where
    go : 2 * n + d < suc ((2 * n + d) / (2 * d)) * (2 * d) → 2 * n + d < (2 * n + d) / (2 * d) * (2 * d) + 2 * d
    go g = omega arith

-- it is k exactly where (2 k - 1) d ≤ 2 n < (2 k + 1) d
pub near-only : (n d k : ℕ) → 0 < d → (nearest_ℕ n d ≡ k) ↔ ((k * (2 * d) ≤ 2 * n + d) × (2 * n + d < (k + 1) * (2 * d)))
near-only n d k p = ((λ e. subst Within e (near-lo n d, high (nearest_ℕ n d) (near-hi n d p))), (λ h. near-is n d k h.0 h.1))
  where
    Within : ℕ → Type 0
    Within k = (k * (2 * d) ≤ 2 * n + d) × (2 * n + d < (k + 1) * (2 * d))

    high : (k : ℕ) → 2 * n + d < k * (2 * d) + 2 * d → 2 * n + d < (k + 1) * (2 * d)
    high k h = omega arith

-- equal fractions have the same nearest whole number
four : (a b d : ℕ) → (2 * a + b) * (2 * d) ≡ 4 * (a * d) + 2 * (b * d)
four a b d =
    let p : (2 * a + b) * (2 * d) ≡ 2 * a * (2 * d) + b * (2 * d) = add-mul (2 * a) b (2 * d) in
    let q : 2 * a * (2 * d) ≡ 2 * (2 * (a * d)) = mul_assoc 2 a (2 * d) ∙ ap (λ (z : ℕ). 2 * z) (mul_left_comm a 2 d) in
    let r : b * (2 * d) ≡ 2 * (b * d) = mul_left_comm b 2 d in
    omega arith

pub near_same : (a b c d : ℕ) → 0 < b → 0 < d → a * d ≡ c * b → nearest_ℕ a b ≡ nearest_ℕ c d
unfolding nearest_ℕ
near_same a b c d B D e = div_same (2 * a + b) (2 * b) (2 * c + d) (2 * d) (mul-pos (zero-lt-suc 1) B) (mul-pos (zero-lt-suc 1) D) cross
  where
    cross : (2 * a + b) * (2 * d) ≡ (2 * c + d) * (2 * b)
    cross =
        let l = four a b d in
        let r = four c d b in
        let k : b * d ≡ d * b = mul_comm b d in
        omega arith

pub near-mono : (n m d : ℕ) → n ≤ m → nearest_ℕ n d ≤ nearest_ℕ m d
unfolding nearest_ℕ
near-mono n m zero h = omega (arith, near_none n, near_none m)
near-mono n m (suc d) h = (le-div_iff_mul-le {k = 2 * suc d} {x = (2 * n + suc d) / (2 * suc d)} {y = 2 * m + suc d} (omega arith)).1 (omega (arith, near-lo n (suc d)))

-- ---- of signed numbers
pub nearest-none : (z : ℤ) → nearest z 0 ≡ pos 0
unfolding nearest
nearest-none (pos n) = ap pos (near_none n)
nearest-none (negsuc n) = ap (λ (m : ℕ). neg_ℤ (pos m)) (near_none (suc n))

pub nearest-neg : (z : ℤ) (d : ℕ) → nearest (neg_ℤ z) d ≡ neg_ℤ (nearest z d)
unfolding nearest
nearest-neg (pos zero) d = ap pos (near-zero d) ∙ sym (ap (λ (m : ℕ). neg_ℤ (pos m)) (near-zero d))
nearest-neg (pos (suc n)) d = refl
nearest-neg (negsuc n) d = sym (neg_ℤ-neg_ℤ (pos (nearest_ℕ (suc n) d)))

pub nearest-mono : (a b : ℤ) (d : ℕ) → a ≤ℤ b → nearest a d ≤ℤ nearest b d
unfolding nearest
nearest-mono (pos a) (pos b) d = simp zs (λ h. omega (arith, near-mono a b d (le h)))
  where
    le : a + 0 ≤ b + 0 → a ≤ b
    le h = omega arith
nearest-mono (pos a) (negsuc b) d = simp zs (λ h. absurd (no h))
  where
    no : a + suc b ≤ 0 + 0 → ⊥
    no h = omega arith
nearest-mono (negsuc a) (pos b) d = simp zs (omega arith)
nearest-mono (negsuc a) (negsuc b) d = simp zs (λ h. omega (arith, near-mono (suc b) (suc a) d (le h)))
  where
    le : 0 + suc b ≤ 0 + suc a → suc b ≤ suc a
    le h = omega arith

pub nearest-abs : (z : ℤ) (d : ℕ) → nat_abs (nearest z d) ≡ nearest_ℕ (nat_abs z) d
unfolding nearest
nearest-abs (pos n) d = refl
nearest-abs (negsuc n) d = abs-minus (nearest_ℕ (suc n) d)

-- a size below k and a half is rounded to at most k
pub near_within : (n d k : ℕ) → 0 < d → 2 * n < 2 * (k * d) + d → nearest_ℕ n d ≤ k
unfolding nearest_ℕ
near_within n d k p h = omega (arith, (div-lt_iff_lt-mul {k = 2 * d} {x = 2 * n + d} {y = suc k} (omega arith)).1 (omega arith))

pub nearest-within : (z : ℤ) (d k : ℕ) → 0 < d → 2 * nat_abs z < 2 * (k * d) + d → nat_abs (nearest z d) ≤ k
nearest-within z d k p h = rw nearest-abs (near_within (nat_abs z) d k p h)

-- twice the error is at most d: linear facts of z and r, where d is a numeral
abbrev pub Near : ℤ → ℤ → ℕ → Type 0
Near z r d = ((pos (2 * d) *ℤ r) ≤ℤ (pos 2 *ℤ z +ℤ pos d)) × ((pos 2 *ℤ z) ≤ℤ (pos (2 * d) *ℤ r +ℤ pos d))

near-above : (n d : ℕ) (z r : ℤ) → 0 < d → z ≡ Z n 0 → r ≡ Z (nearest_ℕ n d) 0 → Near z r d
near-above n d z r p e f = let lo = near-lo n d in let hi = near-hi n d p in rw (e, f) (simp zs (omega arith))

near-below : (n d : ℕ) (z r : ℤ) → 0 < d → z ≡ Z 0 n → r ≡ Z 0 (nearest_ℕ n d) → Near z r d
near-below n d z r p e f = let lo = near-lo n d in let hi = near-hi n d p in rw (e, f) (simp zs (omega arith))

pub nearest-near : (z : ℤ) (d : ℕ) → 0 < d → Near z (nearest z d) d
unfolding nearest
nearest-near (pos n) d p = near-above n d (pos n) (pos (nearest_ℕ n d)) p (Z-pos n) (Z-pos (nearest_ℕ n d))
nearest-near (negsuc n) d p = near-below (suc n) d (negsuc n) (neg_ℤ (pos (nearest_ℕ (suc n) d))) p (Z-negsuc n) (Z-minus (nearest_ℕ (suc n) d))

-- a multiple is its own
near-exact : (m d : ℕ) → 0 < d → nearest_ℕ (d * m) d ≡ m
near-exact m d p = near-is (d * m) d m (omega arith) (omega arith)

pub nearest-exact : (k : ℤ) (d : ℕ) → 0 < d → nearest (pos d *ℤ k) d ≡ k
unfolding nearest
nearest-exact (pos m) d p = ap pos (near-exact m d p)
nearest-exact (negsuc m) d p = nearest-neg (pos (d * suc m)) d ∙ ap (λ (n : ℕ). neg_ℤ (pos n)) (near-exact (suc m) d p)

-- a half goes away from zero, on both sides
pub near-half : (k : ℕ) → nearest_ℕ (2 * k + 1) 2 ≡ k + 1
near-half k = near-is (2 * k + 1) 2 (k + 1) (omega arith) (omega arith)

pub nearest-half : (k : ℕ) → (nearest (pos (2 * k + 1)) 2 ≡ pos (k + 1)) × (nearest (neg_ℤ (pos (2 * k + 1))) 2 ≡ neg_ℤ (pos (k + 1)))
unfolding nearest
nearest-half k = (ap pos (near-half k), nearest-neg (pos (2 * k + 1)) 2 ∙ ap (λ (n : ℕ). neg_ℤ (pos n)) (near-half k))
