-- `water::surface_holds` meets its contract: the smaller of the two. Assumes nothing.
use Rattle.water.specs.Layers.{surface_holds}
use Rattle.water.proofs.surface_holds.Goals as goal

pub returns : goal.returns
unfolding surface_holds
returns c = c.min.ensures
