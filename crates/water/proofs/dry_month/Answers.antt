-- `water::dry_month` meets its contract, figure by figure. What each layer loses it held, so no difference wraps. Assumes nothing.
use Prim.Native.Nat.{◌≤◌}
use native.Mathlib.Omega.{arith}
use Rattle.water.specs.Balance.{dry_month, loss_surface, loss_underlying}
use Rattle.water.proofs.LayerLaws.{soil-sum, soil-under}
use Rattle.water.proofs.WaterLaws.{under-held}
use Rattle.water.proofs.dry_month.Goals as goal

pub under_loss-lu-requires : goal.under_loss-lu-requires
under_loss-lu-requires c = omega (arith, soil-under c.args.s c.requires.soil_fits)

-- the loss was held
held-under : (c : goal.After-under_loss-lu) → c.under_loss-lu.result ≤ c.args.s.underlying
held-under c = rw c.under_loss-lu.ensures (under-held _ _ _)

pub overflow_add-result-2 : goal.overflow_add-result-2
overflow_add-result-2 c = omega (arith, held-under c, soil-sum c.args.s c.requires.soil_fits)

pub overflow_sub-result-2 : goal.overflow_sub-result-2
overflow_sub-result-2 c = omega (arith, held-under c.before.before)

pub returns : goal.returns
unfolding dry_month loss_surface loss_underlying
returns c = cc
