-- The room that U, V, E and Q need, and the percent, held within 1 to 99. Assumes nothing.
use mathlib.Core.Path.{◌≡◌, refl}
use mathlib.Core.Bool.{Bool, true, false}
use Prim.Native.Nat.{ℕ, ◌*◌, ◌≤◌, min, max}
use native.Mathlib.Omega.{arith}
use borrow.Author.Rules.{rules}
use lib.IntN.{ℤ, pos, negsuc, neg_ℤ, nat_abs, ◌+ℤ◌, ◌-ℤ◌, ◌*ℤ◌}
use Rattle.std.specs.Int.{int_min, int_max}
use Rattle.exact.specs.Nearest.{clip}
use Rattle.outline.specs.Numbers.{weight, most_x, most_z, most_u}
use Rattle.exact.proofs.Z.{zs, is-Z}
use Rattle.exact.proofs.Held.{wide}
use Rattle.ending.specs.Ending.{turn, u_of, v_of, e_of}
use Rattle.ending.specs.Bounds.{most_v}

-- ---- turned signs
pub turn-size : (wet : Bool) (n : ℤ) (k : ℕ) → nat_abs n ≤ k → nat_abs (turn wet n) ≤ k
unfolding turn
turn-size false n k h = h
turn-size true n k h = go n h
  where
    go : (n : ℤ) → nat_abs n ≤ k → nat_abs (neg_ℤ n) ≤ k
    go n = rw (is-Z n) (simp zs (omega arith))

-- ---- U, V and E
pub u-size : (wet : Bool) (z : ℤ) → nat_abs z ≤ most_z → nat_abs (u_of (turn wet z)) ≤ most_u
unfolding u_of
u-size wet z h = go (turn wet z) (turn-size wet z most_z h)
  where
    go : (d : ℤ) → nat_abs d ≤ most_z → nat_abs (d +ℤ pos 150) ≤ most_u
    go d = rw (is-Z d) (simp zs (omega arith))

pub v_size : (wet : Bool) (v z : ℤ) → nat_abs v ≤ most_v → nat_abs z ≤ most_z → nat_abs (v_of (turn wet v) (turn wet z)) ≤ 2 * most_v
unfolding v_of
v_size wet v z hv hz = go (u_of (turn wet z)) (turn wet v) (u-size wet z hz) (turn-size wet v most_v hv)
  where
    go : (u b : ℤ) → nat_abs u ≤ most_u → nat_abs b ≤ most_v → nat_abs (u +ℤ b) ≤ 2 * most_v
    go u b = rw (is-Z u, is-Z b) (simp zs (omega arith))

-- a bound of E, with room to spare
abbrev pub most_e : ℕ
most_e = 40000000000

pub e-size : (wet : Bool) (x3 : ℤ) → nat_abs x3 ≤ most_x → nat_abs (e_of (turn wet x3)) ≤ most_e
unfolding e_of
e-size wet x3 h = go (turn wet x3) (turn-size wet x3 most_x h)
  where
    go : (a : ℤ) → nat_abs a ≤ most_x → nat_abs (neg_ℤ (pos weight *ℤ a) -ℤ pos 1500000) ≤ most_e
    go a = rw (is-Z a) (simp zs (omega arith))

-- ---- the percent, held within 1 to 99
pub percent-held : (p : ℤ) → nat_abs (int_max (pos 1) (int_min p (pos 99))) ≡ min 99 (max 1 (clip p))
percent-held (pos n) = grind arith
percent-held (negsuc n) = refl

-- ---- what each sum and product of the code keeps within
pub room-x3 : (a : ℤ) → nat_abs a ≤ most_x → nat_abs a ≤ 2 * most_v
room-x3 a h = omega arith

pub room-v : (a : ℤ) → nat_abs a ≤ most_v → nat_abs a ≤ 2 * most_v
room-v a h = omega arith

pub room-z : (a : ℤ) → nat_abs a ≤ most_z → nat_abs a ≤ 2 * most_v
room-z a h = omega arith

pub ruleset rooms = (room-x3, room-v, room-z, wide, rules)
