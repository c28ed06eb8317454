-- `starts::month_fits` meets its contract. Assumes nothing.
use mir.Facts.{to_z-of_z}
use Rattle.starts.specs.Start.{month_fits}
use Rattle.starts.proofs.month_fits.Goals as goal

pub returns : goal.returns
unfolding month_fits
returns c = let f = c.ranges.m in simp to_z-of_z at c.signed_between.ensures
