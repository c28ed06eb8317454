use mathlib.Core.Path.{◌≡◌}
use Rattle.sums.specs.Sums.{row_in, sums_of}
use Rattle.sums.specs.SumsFit.{without_pr}
use Rattle.sums.proofs.sums_of.Given as goal

abbrev pub invariant-loop-y : goal.invariant-loop-y
invariant-loop-y l = l.s ≡ without_pr (sums_of (row_in l.month.capacity l.month.records.now l.month.at) l.y)
