-- Document 01, "What can be asked": what each call on a run answers, the run that it hands back and what every lent list then holds. A month
-- that is added and a refused one are said in the crate `adding` (`taken_water`, `taken_z`, `refusal`); a reading, a start and the whole series
-- in the crates that they stand in. Assumes nothing.
use Rattle.std.specs.Prelude.{ℕ, ℤ, pos, get_or}
use Rattle.outline.specs.Refusals.{unless_refused}
use Rattle.door.specs.Outcome.{Outcome, kinds_of}
use Rattle.door.specs.Readings.{reading, month}
use Rattle.door.specs.declared.Reading.{Reading}
use Rattle.door.specs.declared.MonthInches.{MonthInches}
use Rattle.runs.specs.declared.Run.{Run}
use Rattle.records.specs.Record.{no_record, record_at}
use Rattle.refusals.specs.Book.{Book}
use Rattle.refusals.specs.Refusals.{water_refusal, z_refusal, row_refusal}
use Rattle.adding.specs.Taken.{Result, answered, taken_z, taken_water}
use Rattle.drought.specs.declared.Shown.{Shown}

-- ---- ADD A MONTH OF WATER, by what its two readings answer
unfoldable pub add_outcomes : Run → Outcome → Outcome → Book → Result
add_outcomes r p pe cs = answered (water_refusal r p.number pe.number cs) r cs (taken_water r p.water pe.water (kinds_of p pe) cs)

-- two readings
unfoldable pub add_water : Run → Reading → Reading → Book → Result
add_water r p pe cs = add_outcomes r (reading p) (reading pe) cs

-- "One month's precipitation and PE may arrive together as two binary32 inches."
unfoldable pub add_inches : Run → MonthInches → Book → Result
add_inches r q cs = add_outcomes r (month q).p (month q).pe cs

-- ---- ADD A Z
unfoldable pub add_z : Run → ℤ → Book → Result
add_z r z cs = answered (z_refusal r z cs) r cs (taken_z r z cs)

-- ---- SHOW A MONTH'S ROW: "what the five columns hold there", and E6, its record and V
abbrev pub shown : ℕ → Book → Shown
shown i cs =
    record {
      number = 0;
      x1 = get_or cs.x1 i (pos 0);
      x2 = get_or cs.x2 i (pos 0);
      x3 = get_or cs.x3 i (pos 0);
      index = get_or cs.index i (pos 0);
      mark = get_or cs.mark i 0;
      month = record_at cs.records i;
      v = get_or cs.v i (pos 0);
    }

abbrev pub not_shown : ℕ → Shown
not_shown k = record { number = k; x1 = pos 0; x2 = pos 0; x3 = pos 0; index = pos 0; mark = 0; month = no_record; v = pos 0 }

unfoldable pub row_of_run : Run → ℕ → Book → Shown
row_of_run r i cs = let k = row_refusal r i cs in unless_refused k (shown i cs) (not_shown k)
