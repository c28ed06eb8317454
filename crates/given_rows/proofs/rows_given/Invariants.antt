use mathlib.Core.Path.{◌≡◌}
use mathlib.Core.Bool.{true}
use Rattle.given_rows.specs.GivenRows.{rows_given}
use Rattle.given_rows.proofs.rows_given.Given as goal

abbrev pub invariant-loop-row : goal.invariant-loop-row
invariant-loop-row l = rows_given l.capacity l.records l.row ≡ true
