-- What the lent columns hold: a month's place is its number from 0, and X1, X2, X3, index and mark have a column each. Here columns are read
-- as months and as a history; and the rows of a list of Z. Assumes nothing.
use Rattle.std.specs.Prelude.{List, [], ◌∷◌, ℕ, zero, suc, ℤ, pos, get_or, take}
use Rattle.hindsight.specs.Adding.{History}
use Rattle.hindsight.specs.Rule.{X, Row}

-- ---- the months that columns hold

-- X1, X2 and X3 of the month at place i
abbrev pub x_at : List ℤ → List ℤ → List ℤ → ℕ → X
x_at x1 x2 x3 i = record { x1 = get_or x1 i (pos 0); x2 = get_or x2 i (pos 0); x3 = get_or x3 i (pos 0) }

-- those of the k months from place i on
abbrev pub xs_from : (ℕ → X) → ℕ → ℕ → List X
xs_from f i zero = []
xs_from f i (suc k) = f i ∷ xs_from f (suc i) k

-- the history that the five columns hold of so many months, the last `opens` of them open
abbrev pub history_in : List ℤ → List ℤ → List ℤ → List ℤ → List ℕ → ℕ → ℕ → History
history_in x1 x2 x3 index mark months opens =
    record { past = xs_from (x_at x1 x2 x3) 0 months; index = take months index; mark = take months mark; opens = opens }

-- ---- months that come from a step: with a state S it makes a row of each Z, and the next state

-- the rows of a list of Z
abbrev pub rows_of : {S Z : Type 0} → (S → Z → S) → (S → Z → Row) → S → List Z → List Row
rows_of next row s [] = []
rows_of next row s (z ∷ later) = row s z ∷ rows_of next row (next s z) later
