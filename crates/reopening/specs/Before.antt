-- Document 02, E8: "Build a repair that takes a run with E6's rows, a month and its new readings, and reworks from there." Where a run stood before its month at
-- place m, from the rows alone: the values after the month before, the storages at the month's start, the calendar back by the months since, and
-- the months that were open then. Their index and mark, which later months may have settled, go back to what they showed. Assumes nothing.
use Rattle.std.specs.Prelude.{ℕ, zero, suc, ◌+◌, ◌-◌, ◌%◌, Bool, cond, ◌&&◌, ◌||◌, List, [], ◌∷◌, ◌++◌, ℤ, nat_abs, take, drop, replicate}
use Rattle.outline.specs.Numbers.{last_month}
use Rattle.water.specs.declared.Soil.{Soil}
use Rattle.spells.specs.Spells.{is_zero, provisional}
use Rattle.spells.specs.Values.{fresh}
use Rattle.spells.specs.declared.Running.{Running}
use Rattle.runs.specs.declared.Run.{Run}
use Rattle.records.specs.Record.{record_at}
use Rattle.records.specs.declared.Record.{Record}
use Rattle.refusals.specs.Book.{Book, book, values_at}

-- a month decided exactly where after it V is 0 and X1 or X2 is 0; its mark does not tell, since a later month may have settled it
unfoldable pub decided : Running → Bool
decided s = is_zero s.v && (is_zero s.x1 || is_zero s.x2)

-- how many months were open before the month at place m: back from the month before it, those that did not decide
unfoldable pub opens_before : Book → ℕ → ℕ
opens_before cs zero = 0
opens_before cs (suc i) = cond (decided (values_at cs i)) 0 (suc (opens_before cs i))

-- the running values before it: "A fresh run has X1 = X2 = X3 = V = 0."
abbrev pub values_before : Book → ℕ → Running
values_before cs zero = fresh
values_before cs (suc i) = values_at cs i

-- the soil at the start of a month
abbrev pub soil_of : ℕ → Record → Soil
soil_of capacity m = record { capacity = capacity; surface = nat_abs m.ss; underlying = nat_abs m.su }

-- the calendar month so many months before this one
unfoldable pub calendar_back : ℕ → ℕ → ℕ
calendar_back calendar since = (calendar + (last_month - 1) - since % last_month) % last_month + 1

-- where the run stood
abbrev pub run_before : Run → Book → ℕ → Run
run_before r cs m =
    record {
      months = m;
      opens = opens_before cs m;
      calendar = calendar_back r.calendar (r.months - m);
      soil = soil_of r.soil.capacity (record_at cs.records m);
      values = values_before cs m;
      constants = r.constants;
    }

-- what k months from place i on showed when they were added, where none of them decided
unfoldable pub shown_from : Book → ℕ → ℕ → List ℤ
shown_from cs i zero = []
shown_from cs i (suc k) = provisional (values_at cs i) ∷ shown_from cs (suc i) k

-- index and mark of the last k months before place m back to that, "1 open", and all else as it is
abbrev pub reopened_by : Book → ℕ → ℕ → Book
reopened_by cs m k =
    book cs.x1 cs.x2 cs.x3 (take (m - k) cs.index ++ (shown_from cs (m - k) k ++ drop m cs.index))
    (take (m - k) cs.mark ++ (replicate k 1 ++ drop m cs.mark)) cs.records cs.v

-- the columns, with the months open again that were open before the month at place m
abbrev pub reopened : Book → ℕ → Book
reopened cs m = reopened_by cs m (opens_before cs m)
