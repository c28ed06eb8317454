-- `sides::settle_sides` meets its contract. Invariants: `Settling` of the loop over the months, `Unsided` of the scan for the side. Assumes nothing.
use mathlib.Core.Path.{◌≡◌, refl, ◌∙◌}
use Prim.Native.Nat.{◌-◌, ◌≤◌}
use native.Mathlib.Omega.{arith}
use borrow.Author.Rules.{rules}
use lib.IntN.{pos}
use lib.ListN.{length, get_or}
use mir.Syntax.{w32}
use mir.Val.{SFits}
use mir.Facts.{to_z-of_z}
use Rattle.sides.proofs.Rewriting.{part, rewriting-all}
use Rattle.sides.proofs.Settling.{first_side, side-found, side-out, turn}
use Rattle.sides.proofs.settle_sides.Goals as goal
use Rattle.sides.proofs.settle_sides.Goals.{else-side-test, then-side-test+in-Some, in-First, in-Second}

-- the scan is left in two ways, and then X1 or X2 taken
pub loop-i-preserved : goal.loop-i-preserved
loop-i-preserved c =
    let i = c.loop-i.i in
    let mark = c.loop-i.mark in
    let fz : SFits w32 (get_or c.args.z.now i (pos 0)) = search rules in
    let long : c.args.at ≤ length mark = omega arith in
    let side_is : c.side-test.side ≡ first_side (part i c.args.at mark) c.args.by =
    elim c.side-test.branch [
      | else-side-test w ↦ w.side-is ∙ c.side.invariant.2 ∙ side-out mark c.args.at c.args.by long i c.side.sided (omega arith) w.side-test.false c.side.invariant.1
      | then-side-test+in-Some w ↦ w.side-is ∙ side-found mark c.args.at c.args.by long i c.side.sided w.in-Some.told c.side.invariant.0 w.side-test.true c.side.invariant.1 (search rules)
    ] in
    turn c.loop-i.invariant (omega arith) (omega arith) (omega arith) (omega arith) (c.requires.x1_bound.2 i (omega arith))
    (to_z-of_z {w = w32} (record { sfits = c.raised_next-a.type_inv }) ∙ (rw (to_z-of_z fz) at c.raised_next-a.ensures))
    (to_z-of_z {w = w32} (record { sfits = c.lowered_next-b.type_inv }) ∙ (rw (to_z-of_z fz) at c.lowered_next-b.ensures))
    c.side.invariant.1 side_is
    (elim c.match-side.branch [
      | in-First w ↦ rw (w.index-is, w.in-First.is) refl
      | in-Second w ↦ rw (w.index-is, w.in-Second.is) refl
    ])

pub returns-clause-indexes : goal.returns-clause-indexes
returns-clause-indexes c =
    let e : c.args.at - c.loop-i.i ≡ 0 = omega arith in
    rw (to_z-of_z c.ranges.x1, to_z-of_z c.ranges.x2) at (rewriting-all c.loop-i.invariant.index_left (omega arith) (rw e refl))

pub returns-clause-marks : goal.returns-clause-marks
returns-clause-marks c = let e : c.args.at - c.loop-i.i ≡ 0 = omega arith in rewriting-all c.loop-i.invariant.mark_left (omega arith) (rw e refl)
