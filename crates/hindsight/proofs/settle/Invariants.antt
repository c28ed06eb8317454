use Rattle.hindsight.specs.Columns.{x_at}
use Rattle.hindsight.proofs.Back.{Going}
use Rattle.hindsight.proofs.settle.Given as goal

abbrev pub invariant-loop-i : goal.invariant-loop-i
invariant-loop-i l = Going (x_at l.x1 l.x2 l.x3) l.by l.initial.index l.initial.mark l.from l.at l.index l.mark l.side l.i
