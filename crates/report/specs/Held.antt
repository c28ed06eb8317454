-- A proof's vocabulary, which contracts cite: the report while months are reworked holds index and mark of each month, as they were before; and the
-- changes by what it holds. Assumes nothing.
use Rattle.std.specs.Prelude.{ℕ, zero, suc, List, [], ◌∷◌, ◌++◌, ℤ, pos, get_or}
use Rattle.report.specs.Report.{change, change_of}

-- index and mark of the first k months, each at its place
unfoldable pub held : List ℤ → List ℕ → ℕ → List (List ℤ)
held index mark zero = []
held index mark (suc k) = held index mark k ++ (change 0 (get_or index k (pos 0)) (pos 0) (pos (get_or mark k 0)) (pos 0) ∷ [])

-- the changes among the first k months, from a report that holds what was before, and the columns of index and mark after
unfoldable pub changes_since : List (List ℤ) → List ℤ → List ℕ → ℕ → List (List ℤ)
changes_since report index mark zero = []
changes_since report index mark (suc k) =
    changes_since report index mark k
    ++ change_of k (get_or (get_or report k []) 1 (pos 0)) (get_or index k (pos 0)) (get_or (get_or report k []) 3 (pos 0)) (pos (get_or mark k 0))
