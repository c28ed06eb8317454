-- The laws of the two layers, for every capacity. With specs/Layers.antt, `surface_holds` and `underlying_holds` and their proofs,
-- this is all that knows how much the surface layer holds: other proofs keep `surface_holds` and `underlying_holds` shut and use these laws, but
-- for months with given numbers, which are computed. Assumes nothing.
use mathlib.Core.Path.{◌≡◌}
use Prim.Native.Nat.{ℕ, ◌+◌, ◌≤◌, ◌<◌}
use native.Mathlib.Omega.{arith}
use Rattle.water.specs.Layers.{surface_holds, underlying_holds, SoilFits}
use Rattle.water.specs.declared.Soil.{Soil}

-- the layers share the capacity, thin or deep
pub layers-sum : (c : ℕ) → surface_holds c + underlying_holds c ≡ c
unfolding surface_holds underlying_holds
layers-sum c = omega arith

-- so what a soil that fits holds is not above it
pub soil-sum : (s : Soil) → SoilFits s → s.surface + s.underlying ≤ s.capacity
soil-sum s f = omega (arith, layers-sum s.capacity)

-- the capacity is not 0
pub soil-some : (s : Soil) → SoilFits s → 0 < s.capacity
soil-some s f = omega arith

-- the underlying layer's share of it is at most 1
pub soil-under : (s : Soil) → SoilFits s → s.underlying ≤ s.capacity
soil-under s f = omega (arith, soil-sum s f)
