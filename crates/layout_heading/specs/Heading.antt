-- "state, division, element and year in the first ten columns" (document 02, E1): whether they are there, and where they are not. Assumes
-- nothing.
use Rattle.std.specs.Prelude.{ℕ, zero, suc, Bool, cond, ◌&&◌, List, [], ◌∷◌}
use Rattle.text.specs.Bytes.{all_digits}
use Rattle.fields.specs.Columns.{state, division, element, year}

-- "Precipitation is element 01"
abbrev pub precipitation : ℕ
precipitation = 1

unfoldable pub headed : List ℕ → Bool
headed line = all_digits (state line) && all_digits (division line) && all_digits (element line) && all_digits (year line)

-- ---- where a person must look
-- the column where a field begins, if it is not as it should be; 0 where it is
abbrev pub unless : Bool → ℕ → ℕ
unless good column = cond good 0 column

-- of columns, the first that is not 0
unfoldable pub first_told : List ℕ → ℕ
first_told [] = 0
first_told (zero ∷ columns) = first_told columns
first_told (suc column ∷ columns) = suc column

unfoldable pub heading_fault : List ℕ → ℕ
heading_fault line =
    first_told (unless (all_digits (state line)) 1 ∷ unless (all_digits (division line)) 3 ∷ unless (all_digits (element line)) 5 ∷ unless (all_digits (year line)) 7 ∷ [])
