-- A division file, line by line: what the program `division` makes of its input, with no byte and no buffer in it. Lines of another state,
-- division or element are passed over; the first of the lines asked for may have any year, and the years that follow must follow one
-- another; a line refused for anything else stops it. Assumes nothing.
use Rattle.std.specs.Prelude.{ℕ, zero, suc, ◌+◌, min, cond, ◌&&◌, eqb}
use mathlib.Core.List.{List, [], ◌++◌, foldl}
use Rattle.outline.specs.Refusals.{unless_refused}
use Rattle.text.specs.Lines.{lines_of}
use Rattle.fields.specs.Refusals.{another}
use Rattle.layout.specs.Rainfall.{Answer, year_said, year_of}
use Rattle.rows.specs.Text.{year_text}

-- lines are counted up to the last number that 32 bits hold
abbrev pub most_lines : ℕ
most_lines = 4294967295

unfoldable pub counted : ℕ → ℕ
counted lines = min (lines + 1) most_lines

-- the year that a line must have: the one that follows, or its own where no line has been taken yet (next is 0)
unfoldable pub expected : ℕ → List ℕ → ℕ
expected zero line = year_of line
expected (suc n) line = suc n

-- what has been made of the lines so far: how many there were, the refusal that stopped it or 0, the year that must follow or 0, and the
-- rows
pub record Made : Type 0 where
  pub lines : ℕ
  pub refused : ℕ
  pub next : ℕ
  pub text : List ℕ

abbrev pub nothing : Made
nothing = record { lines = 0; refused = 0; next = 0; text = [] }

-- a line taken: its row is added
abbrev pub with_row : Made → Answer → ℕ → Made
with_row m year y =
    record { lines = counted m.lines; refused = 0; next = y + 1; text = m.text ++ year_text y year.amounts year.present year.count }

-- a line passed over
abbrev pub passed : Made → Made
passed m = record { lines = counted m.lines; refused = m.refused; next = m.next; text = m.text }

-- a line that stops it
abbrev pub stopped : Made → ℕ → Made
stopped m k = record { lines = counted m.lines; refused = k; next = m.next; text = m.text }

-- by the line's number: 0 is taken, 15 passed over, any other stops
abbrev pub made_by : ℕ → Made → Answer → ℕ → Made
made_by zero m year y = with_row m year y
made_by (suc k) m year y = cond (eqb (suc k) another) (passed m) (stopped m (suc k))

abbrev pub made_with : Made → Answer → ℕ → Made
made_with m year y = made_by year.number m year y

unfoldable pub line_made : ℕ → ℕ → Made → List ℕ → Made
line_made s d m line = unless_refused m.refused (made_with m (year_said line s d (expected m.next line)) (expected m.next line)) m

-- 15 where no line was taken
unfoldable pub at_end : Made → Made
at_end m =
    cond (eqb m.refused 0 && eqb m.next 0) (record { lines = m.lines; refused = another; next = 0; text = m.text }) m

-- a whole input, for a state and a division
unfoldable pub division_of : ℕ → ℕ → List ℕ → Made
division_of s d input = at_end (foldl (line_made s d) nothing (lines_of input))
