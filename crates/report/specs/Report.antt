-- Document 02, E8: "It reports each month whose index or mark changed, oldest first, with both values, in lent lists as long as the columns." A place of the
-- lent report has five numbers, which are the columns of that table: the month's row, its index before and after, its mark before and after. Assumes nothing.
use Rattle.std.specs.Prelude.{ℕ, zero, suc, ◌-◌, Bool, cond, ◌&&◌, List, [], ◌∷◌, ◌++◌, ℤ, pos, length, get_or, replicate}
use Rattle.std.specs.Int.Signed.{le_z}

-- a month that changed
abbrev pub change : ℕ → ℤ → ℤ → ℤ → ℤ → List ℤ
change i old new oldMark newMark = pos i ∷ old ∷ new ∷ oldMark ∷ newMark ∷ []

-- a place of the report where there is none
abbrev pub no_change : List ℤ
no_change = pos 0 ∷ pos 0 ∷ pos 0 ∷ pos 0 ∷ pos 0 ∷ []

-- two numbers that are the same
unfoldable pub same : ℤ → ℤ → Bool
same a b = le_z a b && le_z b a

-- index and mark of a month, before and after: its place in the report, or none where both are as they were
unfoldable pub change_of : ℕ → ℤ → ℤ → ℤ → ℤ → List (List ℤ)
change_of i old new oldMark newMark = cond (same old new && same oldMark newMark) [] (change i old new oldMark newMark ∷ [])

-- those of the first k months, oldest first: the columns of index before and after, then those of the marks
unfoldable pub changes : List ℤ → List ℤ → List ℕ → List ℕ → ℕ → List (List ℤ)
changes old new oldMark newMark zero = []
changes old new oldMark newMark (suc k) =
    changes old new oldMark newMark k ++ change_of k (get_or old k (pos 0)) (get_or new k (pos 0)) (pos (get_or oldMark k 0)) (pos (get_or newMark k 0))

-- the report, of n places: the changes, and nothing after them
unfoldable pub reported : ℕ → List (List ℤ) → List (List ℤ)
reported n found = found ++ replicate (n - length found) no_change
