use mathlib.Core.Path.{◌≡◌}
use mathlib.Core.Bool.{not}
use Rattle.years.specs.Years.{all_water}
use Rattle.years.proofs.all_water.Given as goal

abbrev pub invariant-loop-k : goal.invariant-loop-k
invariant-loop-k l = l.bad ≡ not (all_water l.records l.first l.k)
