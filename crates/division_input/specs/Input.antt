-- A proof's vocabulary, here since contracts cite it: what a reader believes is ByLines, of the crate `division_session`, which `by_lines`, of the crate
-- `division_laws`, compares this with. What the program `division` holds, byte by byte. Assumes nothing.
use Rattle.std.specs.Prelude.{ℕ, Bool, true, false, cond, List, [], ◌∷◌, ◌++◌, eqb, take}
use Rattle.text.specs.Bytes.{line_feed}
use Rattle.kept_line.specs.Kept.{kept_count, kept_line}
use Rattle.outline.specs.Refusals.{unless_refused}
use Rattle.division_session.specs.Session.{Session, seen, Closed, closed, line_closed, last_closed, none_found}
use Rattle.division_session.specs.declared.Session.{Session as Struct}

-- ---- what is held
pub record State : Type 0 where
  pub session : Session
  pub line : List ℕ
  pub out : List ℕ

abbrev pub held : Session → List ℕ → List ℕ → State
held s line out = record { session = s; line = line; out = out }

abbrev pub state_of : Struct → List ℕ → State
state_of s out = held (seen s) s.kept.line out

-- ---- one byte of a line
abbrev pub with_kept : Session → ℕ → Session
with_kept s k = record { state = s.state; division = s.division; kept = k; lines = s.lines; refused = s.refused; next = s.next; end = s.end }

abbrev pub byte_kept : State → ℕ → State
byte_kept t b = held (with_kept t.session (kept_count t.session.kept b)) (kept_line t.session.kept b t.line) t.out

-- ---- one byte more; after a refusal nothing is looked at
abbrev pub after_line : State → Closed → State
after_line t c = held c.session t.line c.out

unfoldable pub byte_fed : State → ℕ → State
byte_fed t b =
    unless_refused t.session.refused
    (cond (eqb b line_feed) (after_line t (line_closed t.session (take t.session.kept t.line) t.out)) (byte_kept t b)) t

-- ---- what a piece of the input has of one line: bytes with a line feed or without
abbrev pub ended : Bool → List ℕ → List ℕ
ended true part = part ++ line_feed ∷ []
ended false part = part

-- ---- the end of input
unfoldable pub input_ended : Session → List ℕ → List ℕ → Closed
input_ended s line out = let c = last_closed s line out in closed (none_found c.session) c.out
