-- A proof's vocabulary, which contracts cite: how the start of a line is kept, byte by byte. The lines of the input are counted from 1, and
-- the one at fault is not left again. That what is kept is the start of that line is `quotes`, and of an input in pieces `quotes-in-pieces`,
-- proofs/Quotes.antt. Assumes nothing.
use Rattle.std.specs.Prelude.{ℕ, ◌+◌, true, false, cond, set, replicate, ltb, eqb, Option, Some, None}
use Rattle.text.specs.Bytes.{line_feed}
use Rattle.quoted.specs.Quotes.{room}
use Rattle.quoted.specs.declared.Start.{Start}

abbrev pub fresh : Start
fresh = record { line = 1; ended = false; kept = 0; more = false; bytes = replicate room 0 }

abbrev pub in_room : Start → ℕ → Start
in_room s b = record { line = s.line; ended = s.ended; kept = s.kept + 1; more = s.more; bytes = set s.bytes s.kept b }

abbrev pub past_room : Start → Start
past_room s = record { line = s.line; ended = s.ended; kept = s.kept; more = true; bytes = s.bytes }

-- one byte more of a line
unfoldable pub with_byte : Start → ℕ → Start
with_byte s b = cond (ltb s.kept room) (in_room s b) (past_room s)

abbrev pub next_line : Start → Start
next_line s = record { line = s.line + 1; ended = s.ended; kept = 0; more = false; bytes = s.bytes }

abbrev pub fault_ended : Start → Start
fault_ended s = record { line = s.line; ended = true; kept = s.kept; more = s.more; bytes = s.bytes }

-- the line ends
unfoldable pub line_ended : ℕ → Start → Start
line_ended fault s = cond (ltb s.line fault) (next_line s) (fault_ended s)

-- one byte more of the input
unfoldable pub heeded : ℕ → Start → ℕ → Start
heeded fault s b = cond s.ended s (cond (eqb b line_feed) (line_ended fault s) (with_byte s b))

-- the line up to which bytes are looked at: the one at fault, and with none the last that the count has a number for
abbrev pub last_line : Option ℕ → ℕ
last_line (Some fault) = fault
last_line None = 4294967295
