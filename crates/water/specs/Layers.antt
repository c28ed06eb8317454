-- Document 01, "Quantities", as document 02, E5, has it since: the capacity and the two layers. Every other file and proof goes by these
-- names and the laws of proofs/LayerLaws.antt, so that other layer sizes are a change of this file alone. Assumes nothing.
use Rattle.std.specs.Prelude.{ℕ, ◌-◌, ◌≤◌, min}
use Rattle.water.specs.declared.Soil.{Soil}

-- "C may be 100 to 30,000."
abbrev pub least_capacity : ℕ
least_capacity = 100

abbrev pub most_capacity : ℕ
most_capacity = 30000

-- "the surface layer holds the smaller of 1,000 and C,
unfoldable pub surface_holds : ℕ → ℕ
surface_holds c = min 1000 c

-- the underlying layer the rest, possibly nothing"
unfoldable pub underlying_holds : ℕ → ℕ
underlying_holds c = c - surface_holds c

-- a soil whose capacity is in range and neither of whose layers is above its own
pub record SoilFits (s : Soil) : Type 0 where
  pub least : least_capacity ≤ s.capacity
  pub most : s.capacity ≤ most_capacity
  pub surface : s.surface ≤ surface_holds s.capacity
  pub underlying : s.underlying ≤ underlying_holds s.capacity
