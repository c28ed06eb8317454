-- `exact::nearest_of_next` meets its contract: n moved away from zero by half of the divisor, and divided toward zero.
-- Assumes nothing.
use native.Mathlib.Omega.{arith}
use lib.IntN.{pos, ◌+ℤ◌, ◌-ℤ◌}
use mir.Syntax.{w64}
use mir.Val.{SFits}
use mir.Facts.{to_z-of_z}
use Rattle.exact.proofs.Held.{held}
use Rattle.exact.proofs.Moved.{Moved, moved_up, moved_down}
use Rattle.exact.proofs.nearest_of_next.Goals as goal

divisor : SFits w64 (pos 3000)
divisor = record { sfits = omega arith }

down : (c : goal.Then-n-lt0) → Moved c.args.n (pos 3000) (c.args.n -ℤ pos 1500)
down c =
    let f = c.ranges.n in
    moved_down c.args.n 3000 (omega arith) divisor c.requires (simp to_z-of_z at c.if-n-lt0.true)

up : (c : goal.Else-n-lt0) → Moved c.args.n (pos 3000) (c.args.n +ℤ pos 1500)
up c =
    let f = c.ranges.n in
    moved_up c.args.n 3000 (omega arith) divisor c.requires (simp to_z-of_z at c.if-n-lt0.false)

pub overflow_sub-result : goal.overflow_sub-result
overflow_sub-result c = let m = (down c).0 in search held

pub nonzero_div-result : goal.nonzero_div-result
nonzero_div-result c = let m = (down c).0 in search held

pub overflow_add-result : goal.overflow_add-result
overflow_add-result c = let m = (up c).0 in search held

pub nonzero_div-result-else-n-lt0 : goal.nonzero_div-result-else-n-lt0
nonzero_div-result-else-n-lt0 c = let m = (up c).0 in search held

pub returns-then-n-lt0 : goal.returns-then-n-lt0
returns-then-n-lt0 c = let m = down c in search held

pub returns-else-n-lt0 : goal.returns-else-n-lt0
returns-else-n-lt0 c = let m = up c in search held
