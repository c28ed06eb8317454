-- A proof's vocabulary, here since contracts cite it; no promise leans on it. The fault of what follows a line's heading. Assumes nothing.
use Rattle.std.specs.Prelude.{ℕ, ◌+◌, cond, List, [], ◌∷◌, eqb}
use Rattle.text.specs.Bytes.{all_spaces}
use Rattle.fields.specs.Columns.{last_column, after}
use Rattle.layout_months.specs.Steps.{column_of}
use Rattle.layout_months.specs.declared.Found.{Found}
use Rattle.layout_heading.specs.Heading.{precipitation, unless, first_told}
use Rattle.layout.specs.Fault.{months_fault}

-- the months' fault, of a line of an element
unfoldable pub found_fault : Found → ℕ → ℕ
found_fault f e = column_of (cond (eqb e precipitation) f.bad f.malformed)

-- the fault of months and end
unfoldable pub rest_fault : List ℕ → ℕ
rest_fault line = first_told (months_fault line ∷ unless (all_spaces (after line)) (last_column + 1) ∷ [])
