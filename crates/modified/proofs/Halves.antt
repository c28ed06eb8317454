-- A fraction known by its whole number from above and what is left of it: q y - r over q, to the nearest, halves away from zero. Where y is above 0 a
-- half goes to y, elsewhere to y - 1. Assumes nothing.
use mathlib.Core.Path.{◌≡◌, sym, ap, subst, ◌∙◌}
use Prim.Native.Nat.{ℕ, suc, ◌+◌, ◌*◌, ◌-◌, ◌≤◌, ◌<◌}
use native.Mathlib.Omega.{arith}
use lib.IntN.{ℤ, pos, neg_ℤ, ◌-ℤ◌}
use lib.Signed.{◌≤ℤ◌, ◌<ℤ◌}
use Rattle.exact.specs.Nearest.{nearest, nearest_ℕ}
use Rattle.exact.proofs.Z.{zs}
use Rattle.exact.proofs.Nearest.{near-is, nearest-neg}

-- a difference of naturals, at its sign
diff-above : (a b n : ℕ) → a ≡ b + n → pos a -ℤ pos b ≡ pos n
diff-above a b n = simp zs (omega arith)

diff-below : (a b n : ℕ) → a + n ≡ b → pos a -ℤ pos b ≡ neg_ℤ (pos n)
diff-below a b n = simp zs (omega arith)

module _ (a b q r : ℕ) where
  above : (n y : ℕ) → a ≡ b + n → nearest_ℕ n q ≡ y → nearest (pos a -ℤ pos b) q ≡ pos y
  unfolding nearest
  above n y e f = rw (diff-above a b n e) (ap pos f)

  below : (n y : ℕ) → a + n ≡ b → nearest_ℕ n q ≡ y → nearest (pos a -ℤ pos b) q ≡ neg_ℤ (pos y)
  unfolding nearest
  below n y e f = rw (diff-below a b n e) (nearest-neg (pos n) q ∙ ap (λ (k : ℕ). neg_ℤ (pos k)) f)

  -- y is above 0
  pub high-kept : (y : ℕ) → a + r ≡ b + q * suc y → r + r ≤ q → r < q → nearest (pos a -ℤ pos b) q ≡ pos (suc y)
  high-kept y e h l = above (q * y + (q - r)) (suc y) (omega arith) (near-is (q * y + (q - r)) q (suc y) (omega arith) (omega arith))

  pub high-left : (y : ℕ) → a + r ≡ b + q * suc y → q < r + r → r < q → nearest (pos a -ℤ pos b) q ≡ pos y
  high-left y e h l = above (q * y + (q - r)) y (omega arith) (near-is (q * y + (q - r)) q y (omega arith) (omega arith))

  -- y is at most 0
  pub low-kept : (y : ℕ) → a + (q * y + r) ≡ b → r + r < q → nearest (pos a -ℤ pos b) q ≡ neg_ℤ (pos y)
  low-kept y e h = below (q * y + r) y e (near-is (q * y + r) q y (omega arith) (omega arith))

  pub low-left : (y : ℕ) → a + (q * y + r) ≡ b → q ≤ r + r → r < q → nearest (pos a -ℤ pos b) q ≡ neg_ℤ (pos (suc y))
  low-left y e h l = below (q * y + r) (suc y) e (near-is (q * y + r) q (suc y) (omega arith) (omega arith))

-- ---- high less k, where d (high + low) is k (w + d) with r left
module _ (high low w d k r : ℕ) (e : (w + d) * k + r ≡ d * (high + low)) (l : r < w + d) where
  abbrev x : ℤ
  x = pos high -ℤ pos k

  abbrev value : ℤ
  value = nearest (pos (w * high) -ℤ pos (d * low)) (w + d)

  -- how far high is above k, or k from high
  far : pos 0 <ℤ x → high ≡ k + suc (high - suc k)
  far = simp zs (omega arith)

  near : x ≤ℤ pos 0 → k ≡ high + (k - high)
  near = simp zs (omega arith)

  over : (y : ℕ) → high ≡ k + suc y → (x ≡ pos (suc y)) × (w * high + r ≡ d * low + (w + d) * suc y)
  over y f = (diff-above high k (suc y) f, sum (subst (λ (n : ℕ). (w + d) * k + r ≡ d * (n + low)) f e))
    where
      go : (w + d) * k + r ≡ d * (k + suc y + low) → w * (k + suc y) + r ≡ d * low + (w + d) * suc y
      go g = omega arith

      sum : (w + d) * k + r ≡ d * (k + suc y + low) → w * high + r ≡ d * low + (w + d) * suc y
      sum g = rw f (go g)

  under : (y : ℕ) → k ≡ high + y → (x ≡ neg_ℤ (pos y)) × (w * high + ((w + d) * y + r) ≡ d * low)
  under y f = (diff-below high k y (sym f), go (subst (λ (n : ℕ). (w + d) * n + r ≡ d * (high + low)) f e))
    where
      go : (w + d) * (high + y) + r ≡ d * (high + low) → w * high + ((w + d) * y + r) ≡ d * low
      go g = omega arith

  pub kept_above : pos 0 <ℤ x → r + r ≤ w + d → x ≡ value
  kept_above h g = let o = over (high - suc k) (far h) in o.0 ∙ sym (high-kept (w * high) (d * low) (w + d) r (high - suc k) o.1 g l)

  pub left-above : pos 0 <ℤ x → w + d < r + r → x -ℤ pos 1 ≡ value
  left-above h g = let o = over (high - suc k) (far h) in ap (λ (n : ℤ). n -ℤ pos 1) o.0 ∙ diff-above (suc (high - suc k)) 1 (high - suc k) (omega arith) ∙ sym (high-left (w * high) (d * low) (w + d) r (high - suc k) o.1 g l)

  pub kept-below : x ≤ℤ pos 0 → r + r < w + d → x ≡ value
  kept-below h g = let o = under (k - high) (near h) in o.0 ∙ sym (low-kept (w * high) (d * low) (w + d) r (k - high) o.1 g)

  pub left_below : x ≤ℤ pos 0 → w + d ≤ r + r → x -ℤ pos 1 ≡ value
  left_below h g = let o = under (k - high) (near h) in ap (λ (n : ℤ). n -ℤ pos 1) o.0 ∙ less (k - high) ∙ sym (low-left (w * high) (d * low) (w + d) r (k - high) o.1 g l)
    where
      less : (y : ℕ) → neg_ℤ (pos y) -ℤ pos 1 ≡ neg_ℤ (pos (suc y))
      less y = simp zs (omega arith)
