-- Document 01, the program that "prints, at the end, month number, X1, X2, X3, percent, index, S or O": which row is printed of a month, and
-- the rows of months in order. Assumes nothing.
use Rattle.std.specs.Prelude.{ℕ, zero, suc, ◌+◌, List, [], ◌++◌, get_or}
use Rattle.rows.specs.Text.{row_text}
use Rattle.rows.specs.declared.Row.{Row}
use Rattle.runs.specs.declared.Run.{Run}
use Rattle.refusals.specs.Book.{Book}
use Rattle.drought.specs.declared.Shown.{Shown}
use Rattle.drought.specs.Calls.{row_of_run}

-- "Its columns are 2,400 long", and document 02, E9: "The printing program stays at 2,400." So many lines give a month each
abbrev pub most_lines : ℕ
most_lines = 2400

-- the percent kept of a month
unfoldable pub percent_at : List ℕ → ℕ → ℕ
percent_at ps i = get_or ps i 0

abbrev pub row_of : ℕ → Shown → ℕ → Row
row_of i s p = record { month = i + 1; x1 = s.x1; x2 = s.x2; x3 = s.x3; percent = p; index = s.index; mark = s.mark }

-- month i, counted from 0, as a run's row shows it
unfoldable pub row_at : Run → ℕ → Book → List ℕ → Row
row_at run i cs ps = row_of i (row_of_run run i cs) (percent_at ps i)

-- the rows of the first n months, one after another
unfoldable pub rows_text : Run → ℕ → Book → List ℕ → List ℕ
rows_text run zero cs ps = []
rows_text run (suc n) cs ps = rows_text run n cs ps ++ row_text (row_at run n cs ps)
