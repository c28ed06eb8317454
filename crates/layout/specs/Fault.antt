-- Document 02, E1, refusal 14: "malformed line or precipitation neither the mark nor 0 to 100 inches". This tells a person where to look: the
-- column, counted from 1, where the first field at fault begins, of the fields of Columns in their order, or 0. Assumes nothing.
use Rattle.std.specs.Prelude.{ℕ, ◌+◌, List, [], ◌∷◌, length, leb, eqb}
use Rattle.text.specs.Bytes.{all_spaces, natural}
use Rattle.fields.specs.Columns.{element, first_value, last_column, after}
use Rattle.layout_months.specs.Months.{months_of, first_bad}
use Rattle.layout_heading.specs.Heading.{precipitation, unless, first_told, heading_fault}

unfoldable pub months_fault : List ℕ → ℕ
months_fault line = first_bad (eqb (natural (element line)) precipitation) first_value (months_of line)

-- of a line that is too short, the first column that is missing
unfoldable pub fault_of : List ℕ → ℕ
fault_of line =
    first_told (unless (leb last_column (length line)) (length line + 1) ∷ heading_fault line ∷ months_fault line ∷ unless (all_spaces (after line)) (last_column + 1) ∷ [])
