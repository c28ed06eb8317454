-- `water::wet_month` meets its contract, figure by figure. What a layer takes up is of the excess and within its room. Assumes nothing.
use Rattle.water.specs.Balance.{wet_month, to_surface, to_underlying}
use Rattle.water.proofs.wet_month.Goals as goal

pub returns : goal.returns
unfolding wet_month to_surface to_underlying
returns c = cc
