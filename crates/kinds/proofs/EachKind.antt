-- The card's kinds: one table, one claim, by computation. Assumes nothing.
use mathlib.Core.Path.{◌≡◌, refl}
use mathlib.Core.Bool.{true}
use Rattle.exact.specs.Nearest.{nearest_ℕ}
use Rattle.exact.specs.Worked.{agree}
use Rattle.door.specs.Exact.{within, above_zero, nearest_to}
use Rattle.door.specs.Readings.{whole, converted, inches, millimetres, reading}
use Rattle.kinds.specs.FromC.{reading_of_c}
use Rattle.kinds.specs.Worked.{kind_table}

pub kinds : agree kind_table ≡ true
unfolding nearest_ℕ within above_zero nearest_to whole converted inches millimetres reading reading_of_c
kinds = refl
