-- `records::amounts` meets its contract: bits of one width are compared. Assumes nothing.
use Rattle.records.proofs.Fitting.{amounts-is}
use Rattle.records.proofs.amounts.Goals as goal

pub returns : goal.returns
returns c = amounts-is c.args.n c.args.k c.ranges.n c.requires
