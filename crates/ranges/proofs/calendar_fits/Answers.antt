-- `ranges::calendar_fits` meets its contract. Assumes nothing.
use Rattle.ranges.specs.Ranges.{calendar_fits}
use Rattle.ranges.proofs.calendar_fits.Goals as goal

pub returns : goal.returns
unfolding calendar_fits
returns c = c.between.ensures
