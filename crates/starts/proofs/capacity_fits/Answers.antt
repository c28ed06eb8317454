-- `starts::capacity_fits` meets its contract. Assumes nothing.
use mir.Facts.{to_z-of_z}
use Rattle.starts.specs.Start.{capacity_fits}
use Rattle.starts.proofs.capacity_fits.Goals as goal

pub returns : goal.returns
unfolding capacity_fits
returns c = let f = c.ranges.c in simp to_z-of_z at c.signed_between.ensures
