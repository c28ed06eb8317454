-- `ranges::constants_fit` meets its contract: no K is below 0. Assumes nothing.
use mathlib.Core.Path.{◌∙◌}
use Rattle.ranges.proofs.RangeLaws.{fit-from-zero}
use Rattle.ranges.proofs.constants_fit.Goals as goal

pub returns : goal.returns
returns c = c.constants_fit_from.ensures ∙ fit-from-zero c.args.c.now 12
