-- A run without its constants, which no month changes, and what an add answers without them: put together again they are the run and the
-- answer of the single add. Assumes nothing.
use Rattle.std.specs.Prelude.{◌≡◌, ℕ, List, suc, ℤ, Result, Ok, Err}
use Rattle.outline.specs.Refused.{refusal_number}
use Rattle.outline.specs.declared.Refusal.{Refusal}
use Rattle.water.specs.declared.Soil.{Soil}
use Rattle.calendar.specs.Calendar.{next_calendar}
use Rattle.records.specs.declared.Record.{Record}
use Rattle.refusals.specs.Book.{Book}
use Rattle.adding.specs.Figures.{no_figures}
use Rattle.adding.specs.Taken.{result_of, taken, refusal}
use Rattle.adding.specs.declared.WaterFigures.{WaterFigures}
use Rattle.adding.specs.declared.Added.{Added}
use Rattle.runs.specs.Progress.{run_of}
use Rattle.runs.specs.declared.Progress.{Progress}
use Rattle.adding.specs.declared.Spelled.{Spelled}
use Rattle.adding.specs.declared.MonthAdded.{MonthAdded}

-- a month that is added, put together with the constants
abbrev pub added_of : MonthAdded → List ℤ → Added
added_of t k = record { number = 0; settled = t.settled; figures = t.figures; run = run_of t.progress k }

-- and with any number, for one that may have been refused
abbrev pub numbered : ℕ → MonthAdded → List ℤ → Added
numbered n t k = record { number = n; settled = t.settled; figures = t.figures; run = run_of t.progress k }

-- a month that is refused, without its number
abbrev pub not_added : Progress → MonthAdded
not_added at = record { settled = 0; figures = no_figures; progress = at }

-- a month that is added, of its storages at the end, its water, its Z and what its spells leave
abbrev pub month_added : Progress → Soil → WaterFigures → ℤ → Spelled → MonthAdded
month_added at soil w z s =
    record {
      settled = s.settled;
      figures =
          record {
            water = w;
            z = z;
            percent = s.percent;
            x1 = s.values.x1;
            x2 = s.values.x2;
            x3 = s.values.x3;
            index = s.index;
            mark = s.mark;
            modified = s.modified;
          };
      progress =
          record {
            months = suc at.months;
            opens = s.opens;
            calendar = next_calendar at.calendar;
            soil = soil;
            values = s.values;
          };
    }

-- what an add answers to a run that stood so, put together with the constants: the month added, or `refusal`, of the run given
abbrev pub answer_of : Result MonthAdded Refusal → Progress → List ℤ → Added
answer_of (Ok t) at k = added_of t k
answer_of (Err e) at k = refusal (refusal_number e) (run_of at k)

-- a month that is added, whatever the run's constants: its answer and the columns that it leaves are those of `taken`
abbrev pub Takes : Progress → Soil → WaterFigures → ℤ → Record → Book → MonthAdded → Book → Type 0
Takes at soil w z kept cs t ds = (k : List ℤ) → result_of (added_of t k) ds ≡ taken (run_of at k) soil w z kept cs
