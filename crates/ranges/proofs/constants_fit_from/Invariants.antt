-- Whether some month passed is beyond is known. Assumes nothing.
use mathlib.Core.Path.{◌≡◌}
use mathlib.Core.Bool.{not}
use mir.Syntax.{w32}
use mir.Val.{to_z}
use Rattle.ranges.specs.Five.{fit_from}
use Rattle.ranges.proofs.constants_fit_from.Given as goal

abbrev pub invariant-loop-month : goal.invariant-loop-month
invariant-loop-month g l = l.bad ≡ not (fit_from (to_z w32 g.row.LEAST_K) l.c l.month)
