use mathlib.Core.List.{◌++◌}
use Prim.Native.Nat.{◌-◌}
use lib.ListN.{take, drop, replicate}
use Rattle.sides.proofs.Rewriting.{Rewriting}
use Rattle.sides.proofs.mark_all.Given as goal

abbrev pub invariant-loop-i : goal.invariant-loop-i
invariant-loop-i l =
    Rewriting l.initial.mark (take l.from l.initial.mark ++ (replicate (l.to - l.from) l.m ++ drop l.to l.initial.mark)) l.to l.i l.mark (replicate (l.to - l.i) l.m)
