-- A proof's vocabulary, which contracts cite: a line that is read byte by byte, `begun` (Line.antt) before its first byte, `fed` after one
-- byte more, and what is `finished` where it ends. A size beyond the range is held one above it, so a line of any length is judged within
-- fixed memory. That this gives what `judged` says of the whole line is `streamed`, proofs/Lines.antt. Assumes nothing.
use Rattle.std.specs.Prelude.{ℕ, ◌+◌, Bool, true, false, cond, not, ◌&&◌, ◌||◌, leb, eqb, ℤ, Result, Ok, Err}
use Rattle.outline.specs.Numbers.{most_z}
use Rattle.text.specs.Bytes.{minus_sign, is_digit, and_digit}
use Rattle.lines.specs.Line.{Judged, accepted, refused, signed}
use Rattle.outline.specs.Refusals.{bad_z, not_a_number}
use Rattle.outline.specs.Refused.{refusal_number}
use Rattle.outline.specs.declared.Refusal.{Refusal}
use Rattle.lines.specs.declared.Line.{Line}

-- a size as it is kept
unfoldable pub held : ℕ → ℕ
held n = cond (leb n most_z) n (most_z + 1)

-- a minus, before which nothing has come
unfoldable pub opens : Line → ℕ → Bool
opens l b = not (l.minus || l.digits) && eqb b minus_sign

abbrev pub with_digit : Line → ℕ → Line
with_digit l b = record { minus = l.minus; digits = true; spoiled = l.spoiled; size = held (and_digit l.size b) }

abbrev pub with_minus : Line → Line
with_minus l = record { minus = true; digits = false; spoiled = l.spoiled; size = l.size }

abbrev pub spoilt : Line → Line
spoilt l = record { minus = l.minus; digits = l.digits; spoiled = true; size = l.size }

unfoldable pub fed : Line → ℕ → Line
fed l b = cond (is_digit b) (with_digit l b) (cond (opens l b) (with_minus l) (spoilt l))

unfoldable pub finished : Line → Judged
finished l =
    cond (not l.spoiled && l.digits)
    (cond (leb l.size most_z) (accepted (signed l.minus l.size)) (refused bad_z))
    (refused not_a_number)

-- an answer in the paper's terms
abbrev pub read_of : Result ℤ Refusal → Judged
read_of (Ok v) = accepted v
read_of (Err e) = refused (refusal_number e)
