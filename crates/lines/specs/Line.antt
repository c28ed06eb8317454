-- Document 01, the program that "reads one Z a line": "A line is an optional minus and one or more digits, closed by a line feed or the end
-- of input; such a number outside the range of Z, however long, is 12." A line is the list of its bytes, without the line feed. Assumes
-- nothing.
use Rattle.std.specs.Prelude.{ℕ, Bool, true, false, cond, ◌&&◌, List, [], ◌∷◌, ℤ, pos, neg_ℤ}
use Rattle.outline.specs.Refusals.{bad_z, not_a_number}
use Rattle.text.specs.Bytes.{all_digits, negative, body, natural}
use Rattle.outline.specs.Numbers.{z_fits}
use Rattle.lines.specs.declared.Line.{Line}

-- ---- "an optional minus and one or more digits"
unfoldable pub one_or_more : List ℕ → Bool
one_or_more [] = false
one_or_more (b ∷ bs) = true

unfoldable pub well_formed : List ℕ → Bool
well_formed line = one_or_more (body line) && all_digits (body line)

-- ---- the number that a well formed line says, of any size
unfoldable pub signed : Bool → ℕ → ℤ
signed true n = neg_ℤ (pos n)
signed false n = pos n

unfoldable pub value : List ℕ → ℤ
value line = signed (negative line) (natural (body line))

-- ---- the answer: its number in the table of refusals, and the Z, which is 0 where the line is refused
pub record Judged : Type 0 where
  pub number : ℕ
  pub z : ℤ

-- 0: done
abbrev pub accepted : ℤ → Judged
accepted v = record { number = 0; z = v }

abbrev pub refused : ℕ → Judged
refused k = record { number = k; z = pos 0 }

-- a number of which the line is well formed
unfoldable pub ranged : ℤ → Judged
ranged v = cond (z_fits v) (accepted v) (refused bad_z)

unfoldable pub judged : List ℕ → Judged
judged line = cond (well_formed line) (ranged (value line)) (refused not_a_number)

-- ---- a line of which nothing has come, as the code holds it
abbrev pub begun : Line
begun = record { minus = false; digits = false; spoiled = false; size = 0 }
