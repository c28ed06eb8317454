use Rattle.report.proofs.Gathering.{Going}
use Rattle.report.proofs.gather.Given as goal

abbrev pub invariant-loop-i : goal.invariant-loop-i
invariant-loop-i l = Going l.initial.report l.index l.mark l.months l.report l.k l.i
