-- `door::above_zero` meets its contract: the comparison is the definition, of every float. Assumes nothing.
use mathlib.Core.Path.{sym}
use Rattle.door.proofs.Range.{above-is}
use Rattle.door.proofs.above_zero.Goals as goal

pub returns : goal.returns
returns c = sym (above-is c.args.x)
