-- A proof's vocabulary, which a `requires` cites: a month whose amounts a record can hold, as facts. Assumes nothing.
use Rattle.std.specs.Prelude.{ℕ, ◌≤◌}
use Rattle.door.specs.Readings.{most_reading}
use Rattle.water.specs.Layers.{most_capacity, SoilFits}
use Rattle.water.specs.declared.Soil.{Soil}
use Rattle.water.specs.declared.Month.{Month}

pub record Recordable (s : Soil) (p pe : ℕ) (m : Month) : Type 0 where
  pub soil : SoilFits s
  pub precipitation : p ≤ most_reading
  pub potential : pe ≤ most_reading
  pub ls : m.ls ≤ most_capacity
  pub lu : m.lu ≤ most_capacity
  pub et : m.et ≤ most_reading
  pub r : m.r ≤ most_capacity
  pub ro : m.ro ≤ most_reading
  pub surface : m.surface ≤ most_capacity
  pub underlying : m.underlying ≤ most_capacity
