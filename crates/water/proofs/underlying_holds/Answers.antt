-- `water::underlying_holds` meets its contract: what is left beside the smaller of the two. Assumes nothing.
use native.Mathlib.Omega.{arith}
use Rattle.water.specs.Layers.{surface_holds, underlying_holds}
use Rattle.water.proofs.underlying_holds.Goals as goal

pub returns : goal.returns
unfolding surface_holds underlying_holds
returns c = omega arith
