use mathlib.Core.Path.{◌≡◌}
use mathlib.Core.List.{◌++◌}
use Prim.Native.Nat.{◌-◌, ◌≤◌}
use lib.ListN.{take, drop, replicate}
use Rattle.hindsight.specs.Adding.{settled_all}
use Rattle.sides.specs.Sides.{sides_of, with_side}
use Rattle.sides.proofs.Rewriting.{part}
use Rattle.sides.proofs.Settling.{Unsided, Settling}
use Rattle.sides.proofs.settle_sides.Given as goal

abbrev pub invariant-side : goal.invariant-side
invariant-side l = (l.i ≤ l.sided) × Unsided l.mark l.i l.sided × (l.side ≡ l.by)

abbrev pub decreases-side : goal.decreases-side
decreases-side l = l.at - l.sided

abbrev pub invariant-loop-i : goal.invariant-loop-i
invariant-loop-i l =
    Settling l.z l.initial.index (take l.from l.initial.index ++ (settled_all (with_side l.by) (sides_of l.x1 l.x2 (part l.from l.at l.z)) ++ drop l.at l.initial.index))
    l.initial.mark (take l.from l.initial.mark ++ (replicate (l.at - l.from) 2 ++ drop l.at l.initial.mark)) l.at l.by l.index l.mark l.a l.b l.sided l.i
