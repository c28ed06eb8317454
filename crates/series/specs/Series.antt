-- Document 01, "What can be asked": whole series, "a list of Z, filling a list of indexes and one of marks, equal in length, as adding them
-- singly to a fresh run would; it answers with its number alone". It is the forward rule over the months' rows; that adding them singly
-- gives the same is a theorem of the crate above. Assumes nothing.
use Rattle.std.specs.Prelude.{ℕ, Bool, true, ◌&&◌, cond, List, [], ◌∷◌, ℤ, eqb, length}
use Rattle.outline.specs.Refusals.{bad_lists, bad_z, unless_refused}
use Rattle.outline.specs.Numbers.{length_fits, z_fits}
use Rattle.hindsight.specs.Rule.{forward_indexes, forward_marks}
use Rattle.hindsight.specs.Months.{rows_of_z}

-- every Z of a list is in its range
abbrev pub all_z_fit : List ℤ → Bool
all_z_fit [] = true
all_z_fit (z ∷ later) = z_fits z && all_z_fit later

-- not "the three lists of a whole series, not all of one length, or length 0" or above the limit
unfoldable pub lists_fit : ℕ → ℕ → ℕ → Bool
lists_fit z index mark = eqb index z && eqb mark z && length_fits z

-- "Whole series: 1, 12."
unfoldable pub series_refusal : List ℤ → ℕ → ℕ → ℕ
series_refusal z index mark = cond (lists_fit (length z) index mark) (cond (all_z_fit z) 0 bad_z) bad_lists

-- its number, and what the two lists then hold
pub record Filled : Type 0 where
  pub number : ℕ
  pub index : List ℤ
  pub mark : List ℕ

abbrev pub filled : ℕ → List ℤ → List ℕ → Filled
filled k index mark = record { number = k; index = index; mark = mark }

-- a refusal writes nothing lent
unfoldable pub whole_series : List ℤ → List ℤ → List ℕ → Filled
whole_series z index mark =
    let k = series_refusal z (length index) (length mark) in
    unless_refused k (filled 0 (forward_indexes (rows_of_z z)) (forward_marks (rows_of_z z))) (filled k index mark)
