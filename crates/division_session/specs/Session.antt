-- A proof's vocabulary, here since contracts cite it: what a reader believes is ByLines. What the program `division` holds while it reads: what
-- is asked for, the line so far, of which the bytes of Kept are kept, and the rows so far, in a buffer with room for every year of four digits;
-- and what a line changes of it. Assumes nothing.
use Rattle.std.specs.Prelude.{ℕ, zero, suc, ◌+◌, ◌*◌, ◌≤◌, ◌≡◌, cond, ◌&&◌, List, Option, Some, None, eqb, length, take}
use Rattle.outline.specs.declared.Refusal.{Refusal}
use Rattle.outline.specs.Refused.{refusal_number}
use Rattle.outline.specs.Refusals.{unless_refused}
use Rattle.fields.specs.Refusals.{another}
use Rattle.fields.specs.Told.{or_zero}
use Rattle.layout.specs.Rainfall.{Answer, year_said}
use Rattle.kept_line.specs.Kept.{most_kept}
use Rattle.rows.specs.Text.{year_text}
use Rattle.rows.specs.Room.{laid, most_year}
use Rattle.division_session.specs.ByLines.{counted, expected}
use Rattle.division_session.specs.declared.Session.{Session as Struct}

-- ---- what is held: what is asked for, how many bytes of the line so far are kept, how many lines have been closed, the refusal that stopped
-- the reading or 0, the year that must follow or 0, and where the rows so far end
pub record Session : Type 0 where
  pub state : ℕ
  pub division : ℕ
  pub kept : ℕ
  pub lines : ℕ
  pub refused : ℕ
  pub next : ℕ
  pub end : ℕ

abbrev pub stopped_by : Option Refusal → ℕ
stopped_by None = 0
stopped_by (Some e) = refusal_number e

-- of what the code holds, beside the bytes that are kept
abbrev pub seen : Struct → Session
seen s = record { state = s.state; division = s.division; kept = s.kept.count; lines = s.lines; refused = stopped_by s.refused; next = or_zero s.next; end = s.end }

abbrev pub begun : ℕ → ℕ → Session
begun s d = record { state = s; division = d; kept = 0; lines = 0; refused = 0; next = 0; end = 0 }

-- room for the years 0 to 9999
abbrev pub most_years : ℕ
most_years = 10000

abbrev pub room : ℕ
room = most_years * most_year

-- what the program lends, and what is always so of what it holds: a row for each year before the next, at most
abbrev pub Held : Session → List ℕ → List ℕ → Type 0
Held s line out =
    (s.kept ≤ most_kept) × (s.next ≤ most_years) × (s.end ≤ s.next * most_year) × (length line ≡ most_kept) × (length out ≡ room)

-- ---- a line closed: the session, and the rows
pub record Closed : Type 0 where
  pub session : Session
  pub out : List ℕ

abbrev pub closed : Session → List ℕ → Closed
closed s out = record { session = s; out = out }

-- a row is added
abbrev pub row_text : Answer → ℕ → List ℕ
row_text year y = year_text y year.amounts year.present year.count

abbrev pub with_row : Session → Answer → ℕ → Session
with_row s year y =
    record { state = s.state; division = s.division; kept = 0; lines = counted s.lines; refused = 0; next = y + 1; end = s.end + length (row_text year y) }

-- the line is passed over
abbrev pub passed : Session → Session
passed s = record { state = s.state; division = s.division; kept = 0; lines = counted s.lines; refused = s.refused; next = s.next; end = s.end }

-- the line that stops the reading is kept, to be looked at
abbrev pub stopped : Session → ℕ → Session
stopped s k = record { state = s.state; division = s.division; kept = s.kept; lines = counted s.lines; refused = k; next = s.next; end = s.end }

abbrev pub closed_by : ℕ → Session → List ℕ → Answer → ℕ → Closed
closed_by zero s out year y = closed (with_row s year y) (laid (row_text year y) s.end out)
closed_by (suc k) s out year y = cond (eqb (suc k) another) (closed (passed s) out) (closed (stopped s (suc k)) out)

abbrev pub closed_with : Session → List ℕ → Answer → ℕ → Closed
closed_with s out year y = closed_by year.number s out year y

unfoldable pub line_closed : Session → List ℕ → List ℕ → Closed
line_closed s line out = closed_with s out (year_said line s.state s.division (expected s.next line)) (expected s.next line)

-- ---- the end of input closes a line of which anything has come; 15 where no line was taken
unfoldable pub last_closed : Session → List ℕ → List ℕ → Closed
last_closed s line out =
    unless_refused s.refused (cond (eqb s.kept 0) (closed s out) (line_closed s (take s.kept line) out)) (closed s out)

abbrev pub with_refusal : Session → ℕ → Session
with_refusal s k = record { state = s.state; division = s.division; kept = s.kept; lines = s.lines; refused = k; next = s.next; end = s.end }

unfoldable pub none_found : Session → Session
none_found s = cond (eqb s.refused 0 && eqb s.next 0) (with_refusal s another) s
