-- What is left of each row passed fits. Assumes nothing.
use mathlib.Core.Path.{◌≡◌}
use mathlib.Core.Bool.{true}
use Rattle.outline.specs.Every.{all_of}
use Rattle.kept_rows.specs.Lists.{rest_at}
use Rattle.kept_rows.proofs.rest_fits.Given as goal

abbrev pub invariant-loop-row : goal.invariant-loop-row
invariant-loop-row l = all_of (rest_at l.capacity l.x3 l.records l.v) l.row ≡ true
