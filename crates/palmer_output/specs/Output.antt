-- A proof's vocabulary, here since contracts cite it: what is laid out of a session that has ended, for every number and every run that it may
-- hold. For a run of at most 2,400 months it is the rows of all of them or the line after them, and the program holds no other
-- (crates/palmer_laws/proofs/Printed.antt). Assumes nothing.
use Rattle.std.specs.Prelude.{ℕ, ◌+◌, ◌*◌, min, List}
use Rattle.outline.specs.Refusals.{unless_refused}
use Rattle.rows.specs.Room.{most_row}
use Rattle.rows.specs.Text.{refused_text}
use Rattle.runs.specs.declared.Run.{Run}
use Rattle.refusals.specs.Book.{Book}
use Rattle.palmer_input.specs.ByLines.{State}
use Rattle.palmer_output.specs.Printed.{most_lines, rows_text}

-- the months that have rows
abbrev pub shown_months : ℕ → ℕ
shown_months months = min months most_lines

-- the rows of all months
abbrev pub all_rows : Run → Book → List ℕ → List ℕ
all_rows run cs ps = rows_text run (shown_months run.months) cs ps

-- the number of the line after those that gave the months, "counted from 1"
abbrev pub line_after : ℕ → ℕ
line_after months = shown_months months + 1

-- the rows, or where the number is a refusal's its line alone
unfoldable pub output_of : ℕ → Run → Book → List ℕ → List ℕ
output_of number run cs ps = unless_refused number (all_rows run cs ps) (refused_text (line_after run.months) number)

-- what is laid out of a session that has ended
abbrev pub laid_out : State → List ℕ
laid_out t = output_of t.session.refused t.session.run t.columns t.percents

-- what all rows need at most
abbrev pub room : ℕ
room = most_lines * most_row
