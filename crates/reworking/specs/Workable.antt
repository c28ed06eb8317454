-- A proof's vocabulary, which a `requires` cites. Assumes nothing.
use Rattle.std.specs.Prelude.{◌≡◌, true, ℕ, ◌≤◌, ◌<◌, pos, nat_abs, ◌≤ℤ◌}
use Rattle.outline.specs.Numbers.{most_z}
use Rattle.door.specs.Outcome.{measured}
use Rattle.door.specs.Readings.{most_reading}
use Rattle.runs.specs.RunFits.{RunFits}
use Rattle.runs.specs.declared.Run.{Run}
use Rattle.records.specs.declared.Record.{Record}
use Rattle.refusals.specs.Book.{Book, long, columns_fit}
use Rattle.refusals.specs.Good.{Good}
use Rattle.kept_rows.specs.KeptRows.{rows_fit}

-- a run and its columns, whose rows are in range, and one of its months
pub record Workable (r : Run) (cs : Book) (i : ℕ) : Type 0 where
  pub good : Good r cs
  pub rows : rows_fit r.soil.capacity cs r.months ≡ true
  pub row : i < r.months

-- columns that fit, and a run for them; of the last record nothing is asked, since the month before the repaired one may end elsewhere in columns that
-- somebody else wrote
pub record Stands (r : Run) (cs : Book) : Type 0 where
  pub fit : columns_fit cs ≡ true
  pub run : RunFits (long cs) r

-- a record that a month can be reworked from
pub record Kept (m : Record) : Type 0 where
  pub z : nat_abs m.z ≤ most_z
  pub p_sign : pos 0 ≤ℤ m.p
  pub p : nat_abs m.p ≤ most_reading
  pub pe_sign : pos 0 ≤ℤ m.pe
  pub pe : nat_abs m.pe ≤ most_reading
  pub kind_sign : pos 0 ≤ℤ m.kind
  pub kind : nat_abs m.kind ≤ measured
