use mathlib.Core.Path.{◌≡◌}
use Rattle.sums.specs.Sums.{row_in}
use Rattle.departures.specs.Departures.{departures_of}
use Rattle.departures.proofs.departures_of.Given as goal

abbrev pub invariant-loop-y : goal.invariant-loop-y
invariant-loop-y l = l.sum ≡ departures_of l.k (row_in l.month.capacity l.month.records.now l.month.at) l.y
