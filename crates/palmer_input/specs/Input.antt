-- A proof's vocabulary, here since contracts cite it: what a reader believes is ByLines, and `by_lines` (proofs/ByLines.antt) says that both come
-- to the same. What the program holds while it reads byte by byte, so that a line of any length is read within fixed memory. Assumes nothing.
use Rattle.std.specs.Prelude.{ℕ, Bool, cond, not, ◌||◌, List, eqb}
use Rattle.outline.specs.Refusals.{unless_refused}
use Rattle.text.specs.Bytes.{line_feed}
use Rattle.lines.specs.Reading.{fed, finished}
use Rattle.lines.specs.declared.Line.{Line}
use Rattle.runs.specs.declared.Run.{Run}
use Rattle.refusals.specs.Book.{Book}
use Rattle.palmer_input.specs.ByLines.{State, stands, heard_as}

-- a line closed
unfoldable pub line_closed : Line → Run → Book → List ℕ → State
line_closed line run cs ps = heard_as (finished line) run cs ps

abbrev pub with_byte : State → ℕ → State
with_byte t b = stands (record { line = fed t.session.line b; refused = t.session.refused; run = t.session.run }) t.columns t.percents

-- one byte more; after a refusal nothing is looked at
unfoldable pub byte_fed : State → ℕ → State
byte_fed t b =
    unless_refused t.session.refused
    (cond (eqb b line_feed) (line_closed t.session.line t.session.run t.columns t.percents) (with_byte t b)) t

-- whether a line has not begun
unfoldable pub is_blank : Line → Bool
is_blank l = not (l.minus || l.digits || l.spoiled)

-- "closed by a line feed or the end of input"
unfoldable pub input_ended : State → State
input_ended t =
    unless_refused t.session.refused
    (cond (is_blank t.session.line) t (line_closed t.session.line t.session.run t.columns t.percents)) t
