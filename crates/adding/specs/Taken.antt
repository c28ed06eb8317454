-- Document 01, "What can be asked": a month that is added, and a refused one. What an add answers, the run that it hands back and what every
-- lent list then holds: the five columns, and document 02's records and V (E6), with the modified index (E4) and the kinds of the readings (E7). Assumes nothing.
use Rattle.std.specs.Prelude.{ℕ, suc, ◌++◌, ℤ, drop, set}
use Rattle.outline.specs.Refusals.{unless_refused}
use Rattle.door.specs.declared.MonthKinds.{MonthKinds}
use Rattle.water.specs.Expected.{month_of}
use Rattle.water.specs.declared.Soil.{Soil}
use Rattle.water.specs.declared.Month.{Month}
use Rattle.spells.specs.Spells.{step_of}
use Rattle.spells.specs.declared.SpellMonth.{SpellMonth}
use Rattle.modified.specs.Modified.{modified_of}
use Rattle.hindsight.specs.Adding.{History, add_month, settled_count}
use Rattle.hindsight.specs.Columns.{history_in}
use Rattle.hindsight.specs.Months.{row_for}
use Rattle.calendar.specs.Calendar.{constants_at, next_calendar}
use Rattle.runs.specs.declared.Run.{Run}
use Rattle.records.specs.Record.{water_record, z_record, numbers_of}
use Rattle.records.specs.declared.Record.{Record}
use Rattle.refusals.specs.Columns.{Columns, columns}
use Rattle.refusals.specs.Book.{Book, columns_of, book_of}
use Rattle.adding.specs.Figures.{water_figures, no_water, figures_of, no_figures}
use Rattle.adding.specs.declared.WaterFigures.{WaterFigures}
use Rattle.adding.specs.declared.Added.{Added}

-- what an add leaves: its answer, with the run, and what is lent
pub record Result : Type 0 where
  pub answer : Added
  pub columns : Book

abbrev pub result_of : Added → Book → Result
result_of a cs = record { answer = a; columns = cs }

-- "A refusal returns its number with all figures 0 and the run given .. and writes nothing lent."
abbrev pub refusal : ℕ → Run → Added
refusal k r = record { number = k; settled = 0; figures = no_figures; run = r }

-- the run that the columns hold, of so many months and so many open ones, as hindsight has it
abbrev pub held_in : ℕ → ℕ → Columns → History
held_in months opens cs = history_in cs.x1 cs.x2 cs.x3 cs.index cs.mark months opens

abbrev pub held_by : Run → Book → History
held_by r cs = held_in r.months r.opens (columns_of cs)

-- "An add writes the new month's place in the five columns, and index and mark of the open months it settles, and nothing else."
abbrev pub written : Columns → ℕ → SpellMonth → History → Columns
written cs at s after =
    columns (set cs.x1 at s.after.x1) (set cs.x2 at s.after.x2) (set cs.x3 at s.after.x3) (after.index ++ drop (suc at) cs.index)
    (after.mark ++ drop (suc at) cs.mark)

-- and E6: the month's record and V at its place, and no other place of theirs
abbrev pub recorded : Book → ℕ → Columns → Record → ℤ → Book
recorded cs at five kept v = book_of five (set cs.records at (numbers_of kept)) (set cs.v at v)

-- the run with the month added: "the calendar moves on"
abbrev pub run_after : Run → Soil → SpellMonth → History → Run
run_after r soil s after =
    record {
      months = suc r.months;
      opens = after.opens;
      calendar = next_calendar r.calendar;
      soil = soil;
      values = s.after;
      constants = r.constants;
    }

-- a month that is added: the storages at its end, its water, its Z, its record
unfoldable pub taken : Run → Soil → WaterFigures → ℤ → Record → Book → Result
taken r soil w z kept cs =
    result_of
    (record {
      number = 0;
      settled = settled_count (held_by r cs) (row_for (step_of r.values z));
      figures = figures_of w z (step_of r.values z) (modified_of r.values z);
      run = run_after r soil (step_of r.values z) (add_month (held_by r cs) (row_for (step_of r.values z)));
    })
    (recorded cs r.months (written (columns_of cs) r.months (step_of r.values z) (add_month (held_by r cs) (row_for (step_of r.values z)))) kept (step_of r.values z).after.v)

-- "an added Z (storage stays, the calendar moves on)"
abbrev pub taken_z : Run → ℤ → Book → Result
taken_z r z cs = taken r r.soil no_water z (z_record r.soil z (modified_of r.values z)) cs

-- the storages at the end of a month of water
abbrev pub soil_after : Soil → Month → Soil
soil_after s m = record { capacity = s.capacity; surface = m.surface; underlying = m.underlying }

-- the run's month of water
abbrev pub water_of : Run → ℕ → ℕ → Month
water_of r p pe = month_of r.soil p pe (constants_at r.constants r.calendar)

-- .. is added, from readings of these kinds
unfoldable pub taken_water : Run → ℕ → ℕ → MonthKinds → Book → Result
taken_water r p pe kinds cs =
    taken r (soil_after r.soil (water_of r p pe)) (water_figures p pe kinds (water_of r p pe)) (water_of r p pe).z
    (water_record r.soil p pe (water_of r p pe) (modified_of r.values (water_of r p pe).z) kinds.p) cs

-- the result, or where the number k is not 0 its refusal
abbrev pub answered : ℕ → Run → Book → Result → Result
answered k r cs done = unless_refused k done (result_of (refusal k r) cs)
