-- What is said of marks and of decisions over a list of months. Assumes nothing.
use Rattle.std.specs.Prelude.{◌≡◌, Bool, true, false, List, [], ◌∷◌, ℕ, ◌+◌, ◌≤◌, ◌<◌, eqb, length, get_or, None}
use Rattle.hindsight.specs.Rule.{Row}

-- no month from place i onward decides
abbrev pub NoneFrom : List Row → ℕ → Type 0
NoneFrom rows i = (j : ℕ) (r : Row) → i ≤ j → j < length rows → (get_or rows j r).decision ≡ None

-- how often k stands in a list
abbrev pub one-if : Bool → ℕ
one-if true = 1
one-if false = 0

abbrev pub count : ℕ → List ℕ → ℕ
count k [] = 0
count k (m ∷ l) = one-if (eqb m k) + count k l
