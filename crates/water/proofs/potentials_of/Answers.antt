-- `water::potentials_of` meets its contract, figure by figure. What the soil holds is within its capacity. Assumes nothing.
use Prim.Native.Nat.{◌≤◌}
use native.Mathlib.Omega.{arith}
use Rattle.water.specs.Expected.{potentials_of, potential_surface, potential_underlying}
use Rattle.water.proofs.LayerLaws.{soil-sum, soil-under}
use Rattle.water.proofs.WaterLaws.{under-held}
use Rattle.water.proofs.potentials_of.Goals as goal

pub under_loss-plu-requires : goal.under_loss-plu-requires
under_loss-plu-requires c = omega (arith, soil-under c.args.s c.requires.soil_fits)

pub overflow_sub-result : goal.overflow_sub-result
overflow_sub-result c = omega (arith, soil-sum c.args.s c.requires.soil_fits)

pub overflow_sub-result-2 : goal.overflow_sub-result-2
overflow_sub-result-2 c = omega (arith, soil-sum c.args.s c.requires.soil_fits)

pub overflow_add-result : goal.overflow_add-result
overflow_add-result c = omega (arith, soil-sum c.args.s c.requires.soil_fits)

pub overflow_add-result-2 : goal.overflow_add-result-2
overflow_add-result-2 c =
    let h : c.under_loss-plu.result ≤ c.args.s.underlying = rw c.under_loss-plu.ensures (under-held _ _ _) in
    omega (arith, soil-sum c.args.s c.requires.soil_fits)

pub returns : goal.returns
unfolding potentials_of potential_surface potential_underlying
returns c = cc
