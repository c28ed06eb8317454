-- The laws of next(x): it is within a half of its fraction, stays within 13,000,000 in size, rises with x and with Z, and is odd.
-- Each follows from the same law of `nearest` and a linear fact of 2691 x + 1000 Z. Assumes nothing.
use mathlib.Core.Path.{◌≡◌, ◌∙◌, ap}
use Prim.Native.Nat.{◌≤◌, ◌<◌, ◌*◌, ◌+◌}
use native.Mathlib.Omega.{arith}
use lib.IntN.{ℤ, pos, neg_ℤ, nat_abs, ◌+ℤ◌, ◌*ℤ◌}
use lib.Signed.{◌≤ℤ◌}
use Rattle.exact.specs.Nearest.{nearest}
use Rattle.exact.specs.Next.{next_of}
use Rattle.outline.specs.Numbers.{weight, most_x, most_z}
use Rattle.exact.proofs.Nearest.{Near, nearest-near, nearest-within, nearest-mono, nearest-neg}
use Rattle.exact.proofs.Z.{zs, zs-abs, is-Z}

-- 2691 x + 1000 Z
abbrev pub sum : ℤ → ℤ → ℤ
sum x z = pos weight *ℤ x +ℤ pos 1000 *ℤ z

pub next-near : (x z : ℤ) → Near (sum x z) (next_of x z) 3000
unfolding next_of
next-near x z = nearest-near (sum x z) 3000 (omega arith)

pub next-within : (x z : ℤ) → nat_abs x ≤ most_x → nat_abs z ≤ most_z → nat_abs (next_of x z) ≤ most_x
unfolding next_of
next-within x z hx hz = nearest-within _ 3000 most_x (omega arith) (size x z hx hz)
  where
    size : (x z : ℤ) → nat_abs x ≤ most_x → nat_abs z ≤ most_z → 2 * nat_abs (sum x z) < 2 * (most_x * 3000) + 3000
    size x z = rw (is-Z x, is-Z z) (simp zs-abs (omega arith))

-- it rises with x and with Z
pub next-rises : (x y z w : ℤ) → x ≤ℤ y → z ≤ℤ w → next_of x z ≤ℤ next_of y w
unfolding next_of
next-rises x y z w h g = nearest-mono _ _ 3000 (sums x y z w h g)
  where
    sums : (x y z w : ℤ) → x ≤ℤ y → z ≤ℤ w → sum x z ≤ℤ sum y w
    sums x y z w = rw (is-Z x, is-Z y, is-Z z, is-Z w) (simp zs (omega arith))

pub next-odd : (x z : ℤ) → next_of (neg_ℤ x) (neg_ℤ z) ≡ neg_ℤ (next_of x z)
unfolding next_of
next-odd x z = ap (λ (n : ℤ). nearest n 3000) (turned x z) ∙ nearest-neg (sum x z) 3000
  where
    turned : (x z : ℤ) → sum (neg_ℤ x) (neg_ℤ z) ≡ neg_ℤ (sum x z)
    turned x z = rw (is-Z x, is-Z z) (simp zs (omega arith))
