-- What has come out so far, and the test of the Z left, are the test of all. Assumes nothing.
use mathlib.Core.Path.{◌≡◌}
use mathlib.Core.Bool.{◌&&◌}
use lib.ListN.{drop}
use Rattle.series.specs.Series.{all_z_fit}
use Rattle.series.proofs.all_z_fit.Given as goal

abbrev pub invariant-loop-t : goal.invariant-loop-t
invariant-loop-t l = (l.fit && all_z_fit (drop l.t-index l.z)) ≡ all_z_fit l.z
