-- Document 01: "The first refused line (10, 12, 13) ends it". Which line is refused, and with which number, by what the lines say and by their
-- places alone, with no run in it. Assumes nothing.
use Rattle.std.specs.Prelude.{◌≡◌, List, [], ◌∷◌, ℕ, suc, ◌≤◌}
use Rattle.outline.specs.Refusals.{full, bad_z, not_a_number, or_else, unless_refused}
use Rattle.lines.specs.Line.{judged}
use Rattle.rows.specs.Text.{refused_text}
use Rattle.refusals.specs.Refusals.{room_refusal}
use Rattle.palmer_output.specs.Printed.{most_lines}

-- a line after n others, each of which gave a month: 13 or 12 by what it says, and 10 where there are 2,400 months
unfoldable pub line_refusal : ℕ → List ℕ → ℕ
line_refusal n line = or_else (judged line).number (room_refusal most_lines n)

-- lines after n others: the first that is refused, counted from 1, or where none is the rows
unfoldable pub told_from : ℕ → List (List ℕ) → List ℕ → List ℕ
told_from n [] rows = rows
told_from n (line ∷ rest) rows = unless_refused (line_refusal n line) (told_from (suc n) rest rows) (refused_text (suc n) (line_refusal n line))

-- the refusals of line n, counted from 1
pub data Refuses (n k : ℕ) : Type 0 where
  says_no_number : k ≡ not_a_number → Refuses n k
  out_of_range : k ≡ bad_z → Refuses n k
  no_room : k ≡ full → n ≡ suc most_lines → Refuses n k

-- all that may be printed: the rows, or one refusal, at line 2,401 at the latest
pub data Said (rows text : List ℕ) : Type 0 where
  all_rows : text ≡ rows → Said rows text
  one_refusal : (n k : ℕ) → text ≡ refused_text n k → n ≤ suc most_lines → Refuses n k → Said rows text
