-- Document 02, E8: "7 here also covers any recorded figure outside its range (ET, R, L, RO 0 to 100,000; index as X; V by its row)". Every figure that the
-- lent lists have of a month, as tests: X1, X2, X3 and V as a run's after so many months; both indexes; the mark; and the record. Assumes nothing.
use Rattle.std.specs.Prelude.{ℕ, zero, suc, Bool, true, ◌&&◌, ℤ, pos, nat_abs, leb, get_or}
use Rattle.std.specs.Int.Signed.{le_z}
use Rattle.outline.specs.Numbers.{most_x, z_fits}
use Rattle.door.specs.Outcome.{measured}
use Rattle.door.specs.Readings.{most_reading}
use Rattle.water.specs.Layers.{surface_holds, underlying_holds}
use Rattle.runs.specs.Runs.{sizes_fit, signs_fit, v_fits}
use Rattle.records.specs.Record.{record_at}
use Rattle.records.specs.declared.Record.{Record}
use Rattle.refusals.specs.Book.{Book, values_at}

-- "index as X": at most 13,000,000 in size
unfoldable pub index_fits : ℤ → Bool
index_fits x = leb (nat_abs x) most_x

-- "mark (1 open, 2 settled)"
unfoldable pub mark_fits : ℕ → Bool
mark_fits m = leb 1 m && leb m 2

-- from 0 to the most
unfoldable pub amount_fits : ℕ → ℤ → Bool
amount_fits most n = le_z (pos 0) n && le_z n (pos most)

-- "0 to 100,000": the six water figures
unfoldable pub water_fits : Record → Bool
water_fits m =
    amount_fits most_reading m.p
    && amount_fits most_reading m.pe
    && amount_fits most_reading m.et
    && amount_fits most_reading m.r
    && amount_fits most_reading m.l
    && amount_fits most_reading m.ro

-- the storages within their layers, at the start and at the end
unfoldable pub storages_fit : ℕ → Record → Bool
storages_fit capacity m =
    amount_fits (surface_holds capacity) m.ss
    && amount_fits (underlying_holds capacity) m.su
    && amount_fits (surface_holds capacity) m.surface
    && amount_fits (underlying_holds capacity) m.underlying

-- a record: its Z, its water, its storages, whether it had water, its modified index and the kind of its precipitation
unfoldable pub record_fits : ℕ → Record → Bool
record_fits capacity m = z_fits m.z && water_fits m && storages_fit capacity m && amount_fits 1 m.water && index_fits m.modified && amount_fits measured m.kind

-- the row of the month at place i: "V by its row", which is the last of i + 1 months
unfoldable pub row_fits : ℕ → Book → ℕ → Bool
row_fits capacity cs i =
    sizes_fit (values_at cs i)
    && signs_fit (values_at cs i)
    && v_fits (suc i) (values_at cs i)
    && index_fits (get_or cs.index i (pos 0))
    && mark_fits (get_or cs.mark i 0)
    && record_fits capacity (record_at cs.records i)

-- so do the first k rows
unfoldable pub rows_fit : ℕ → Book → ℕ → Bool
rows_fit capacity cs zero = true
rows_fit capacity cs (suc k) = rows_fit capacity cs k && row_fits capacity cs k
