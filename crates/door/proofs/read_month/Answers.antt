-- `door::read_month` meets its contract: each reading by itself. Assumes nothing.
use Rattle.door.specs.Readings.{month}
use Rattle.door.proofs.read_month.Goals as goal

pub returns : goal.returns
unfolding month
returns c = cc
