-- Document 02, E10: "7 (here also any water row whose six figures and end storages no add gives from its start storages)". A row of water is given by an add
-- where its precipitation, PE and start storages are such as an add can start from, and ET, R, L, RO and the end storages are what the
-- month of water makes of them. Nothing is asked of a row without water. Assumes nothing.
use Rattle.std.specs.Prelude.{ℕ, ◌+◌, Bool, true, cond, ◌&&◌, List, ℤ, nat_abs}
use Rattle.outline.specs.Every.{all_of}
use Rattle.door.specs.Readings.{most_reading}
use Rattle.water.specs.Layers.{surface_holds, underlying_holds}
use Rattle.water.specs.Balance.{balance_of}
use Rattle.water.specs.declared.Balance.{Balance}
use Rattle.records.specs.Record.{record_at}
use Rattle.records.specs.Ends.{amounts}
use Rattle.records.specs.Water.{had_water}
use Rattle.records.specs.declared.Record.{Record}
use Rattle.kept_rows.specs.KeptRows.{amount_fits}
use Rattle.reopening.specs.Before.{soil_of}
use Rattle.given_rows.specs.declared.WaterRow.{WaterRow}

-- a month of water as its record has it, without the signs
abbrev pub water_of : ℕ → Record → WaterRow
water_of capacity m =
    record {
      p = nat_abs m.p;
      pe = nat_abs m.pe;
      et = nat_abs m.et;
      r = nat_abs m.r;
      l = nat_abs m.l;
      ro = nat_abs m.ro;
      soil = soil_of capacity m;
    }

-- what an add can start from: P and PE "0 to 100,000", and neither start storage "negative or above its layer"
unfoldable pub addable : ℕ → Record → Bool
addable capacity m =
    amount_fits most_reading m.p
    && amount_fits most_reading m.pe
    && amount_fits (surface_holds capacity) m.ss
    && amount_fits (underlying_holds capacity) m.su

-- a record holds this balance: ET, R, L = Ls + Lu, RO and the end storages
unfoldable pub holds : Record → Balance → Bool
holds m b =
    amounts m.et b.et
    && amounts m.r b.r
    && amounts m.l (b.ls + b.lu)
    && amounts m.ro b.ro
    && amounts m.surface b.surface
    && amounts m.underlying b.underlying

-- what the month of water makes of a record's P, PE and start storages
abbrev pub balance_from : ℕ → Record → Balance
balance_from capacity m = balance_of (soil_of capacity m) (nat_abs m.p) (nat_abs m.pe)

-- a row of water that an add gives
unfoldable pub given_by_add : ℕ → Record → Bool
given_by_add capacity m = addable capacity m && holds m (balance_from capacity m)

-- a row without water is asked nothing
unfoldable pub row_given : ℕ → Record → Bool
row_given capacity m = cond (had_water m) (given_by_add capacity m) true

-- so of the first k rows
abbrev pub rows_given : ℕ → List (List ℤ) → ℕ → Bool
rows_given capacity records = all_of (λ i. row_given capacity (record_at records i))
