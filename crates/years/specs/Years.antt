-- Document 02, E10: "From E6's rows of every January to December inside the run": calendar years, all twelve months of which are inside. The
-- months before the first January and those after the last December count for nothing. Assumes nothing.
use Rattle.std.specs.Prelude.{ℕ, ◌+◌, ◌-◌, ◌/◌, ◌%◌, Bool, List, ℤ}
use Rattle.outline.specs.Numbers.{last_month}
use Rattle.outline.specs.Every.{all_of}
use Rattle.runs.specs.declared.Run.{Run}
use Rattle.records.specs.Record.{record_at}
use Rattle.records.specs.Water.{had_water}
use Rattle.reopening.specs.Before.{calendar_back}

-- the calendar month of row 0: the next month's, back by the months that there are
abbrev pub calendar_first : Run → ℕ
calendar_first r = calendar_back r.calendar r.months

-- the row of the first January, where row 0 is this calendar month
unfoldable pub first_january : ℕ → ℕ
first_january calendar = (last_month + 1 - calendar) % last_month

-- how many times January to December there are from that row on, among so many months
unfoldable pub years_from : ℕ → ℕ → ℕ
years_from first months = (months - first) / last_month

-- of a run
abbrev pub first_of : Run → ℕ
first_of r = first_january (calendar_first r)

abbrev pub years_of : Run → ℕ
years_of r = years_from (first_of r) r.months

-- "or one with a Z-only month": not so of so many months, from a row on
abbrev pub all_water : List (List ℤ) → ℕ → ℕ → Bool
all_water records first = all_of (λ k. had_water (record_at records (first + k)))
