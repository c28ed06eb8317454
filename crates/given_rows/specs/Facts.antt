-- A proof's vocabulary, which `requires` cite: a row of water in its ranges and within its potentials, and the rows of one calendar month over the
-- years. Assumes nothing.
use Rattle.std.specs.Prelude.{ℕ, ◌+◌, ◌*◌, ◌≤◌, ◌<◌, ◌≡◌, true, List, ℤ, length}
use Rattle.outline.specs.Numbers.{last_month}
use Rattle.door.specs.Readings.{most_reading}
use Rattle.water.specs.Layers.{least_capacity, most_capacity, SoilFits}
use Rattle.water.specs.Expected.{potentials_of}
use Rattle.records.specs.Record.{record_at}
use Rattle.given_rows.specs.GivenRows.{given_by_add}
use Rattle.given_rows.specs.declared.WaterRow.{WaterRow}

-- ET at most PE, R at most PR, L at most PL, RO at most P
pub record RowFits (w : WaterRow) : Type 0 where
  pub soil : SoilFits w.soil
  pub p : w.p ≤ most_reading
  pub pe : w.pe ≤ most_reading
  pub et : w.et ≤ w.pe
  pub r : w.r ≤ (potentials_of w.soil w.pe).pr
  pub l : w.l ≤ (potentials_of w.soil w.pe).pl
  pub ro : w.ro ≤ w.p

-- the most years that lent lists hold
abbrev pub most_years : ℕ
most_years = 1000

-- the rows of a calendar month, the first of which stands at a place: each is in the list, and one that an add gives
pub record Watered (capacity : ℕ) (records : List (List ℤ)) (at years : ℕ) : Type 0 where
  pub least : least_capacity ≤ capacity
  pub most : capacity ≤ most_capacity
  pub few : years ≤ most_years
  pub inside : (y : ℕ) → y < years → at + last_month * y < length records
  pub given : (y : ℕ) → y < years → given_by_add capacity (record_at records (at + last_month * y)) ≡ true
