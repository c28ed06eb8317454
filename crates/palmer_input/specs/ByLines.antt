-- Document 01: "A program reads one Z a line from standard input into a fresh run .. A line is .. closed by a line feed or the end of input ..
-- The first refused line (10, 12, 13) ends it". Here each line that the input is cut into (`lines_of`, crates/text) is heard as a whole: what
-- the program holds from line to line, with no byte in it. Assumes nothing.
use Rattle.std.specs.Prelude.{ℕ, Bool, ◌||◌, List, ℤ, Option, Some, None, eqb, set}
use Rattle.outline.specs.Refusals.{bad_lists, not_a_run, full, bad_z, unless_refused}
use Rattle.outline.specs.Refused.{refusal_number}
use Rattle.outline.specs.declared.Refusal.{Refusal}
use Rattle.lines.specs.declared.Line.{Line}
use Rattle.lines.specs.Line.{Judged, judged, begun}
use Rattle.starts.specs.Start.{run_for_z}
use Rattle.runs.specs.declared.Run.{Run}
use Rattle.refusals.specs.Book.{Book, book}
use Rattle.drought.specs.Calls.{add_z}
use Rattle.adding.specs.Taken.{Result}
use Rattle.palmer_input.specs.declared.Session.{Session}
use Rattle.palmer_input.specs.declared.Heard.{Heard}

-- the number of a refusal in the table, 0 of none
abbrev pub number_of : Option Refusal → ℕ
number_of None = 0
number_of (Some e) = refusal_number e

-- the numbers that an added Z can answer: done, 1, 7, 12, 10
unfoldable pub of_added : ℕ → Bool
of_added k = eqb k 0 || eqb k bad_lists || eqb k not_a_run || eqb k bad_z || eqb k full

-- where the reading stands: the line so far, the number of the refusal that ended it, 0 where none has, and the run
pub record Standing : Type 0 where
  pub line : Line
  pub refused : ℕ
  pub run : Run

abbrev pub standing : Session → Standing
standing s = record { line = s.line; refused = number_of s.refused; run = s.run }

-- what is held: where the reading stands, the lent lists, and each month's percent. Of the first only the refusal and the run are looked at
-- here: between two lines its line has only begun
pub record State : Type 0 where
  pub session : Standing
  pub columns : Book
  pub percents : List ℕ

abbrev pub stands : Standing → Book → List ℕ → State
stands s cs ps = record { session = s; columns = cs; percents = ps }

abbrev pub state : Session → Book → List ℕ → State
state s cs ps = stands (standing s) cs ps

-- what the program holds
abbrev pub columns_of : {n : ℕ} → Heard n → Book
columns_of h = book h.x1 h.x2 h.x3 h.index h.mark h.records h.v

abbrev pub state_of : {n : ℕ} → Heard n → State
state_of h = state h.session (columns_of h) h.percent

-- a fresh run, and nothing read
abbrev pub fresh : Session
fresh = record { line = begun; refused = None; run = run_for_z }

-- a month's percent is kept, unless the month was refused
abbrev pub percent_kept : ℕ → ℕ → ℕ → List ℕ → List ℕ
percent_kept k at value ps = unless_refused k (set ps at value) ps

-- the reading goes on with a new line where the number is 0, and is refused otherwise
abbrev pub after_line : ℕ → Run → Standing
after_line k r = record { line = begun; refused = k; run = r }

-- a line's Z added to the run
abbrev pub after_add : ℕ → Result → List ℕ → State
after_add at r ps = stands (after_line r.answer.number r.answer.run) r.columns (percent_kept r.answer.number at r.answer.figures.percent ps)

unfoldable pub with_z : Run → ℤ → Book → List ℕ → State
with_z run z cs ps = after_add run.months (add_z run z cs) ps

-- a line, by what it says
abbrev pub heard_with : ℕ → ℤ → Run → Book → List ℕ → State
heard_with k z run cs ps = unless_refused k (with_z run z cs ps) (stands (after_line k run) cs ps)

abbrev pub heard_as : Judged → Run → Book → List ℕ → State
heard_as j run cs ps = heard_with j.number j.z run cs ps

-- a whole line heard; after a refusal nothing is
unfoldable pub heard : State → List ℕ → State
heard t line = unless_refused t.session.refused (heard_as (judged line) t.session.run t.columns t.percents) t
