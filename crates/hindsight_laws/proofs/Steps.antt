-- Rows that a step with a state gives, month after month. Assumes nothing.
use mathlib.Core.Path.{◌≡◌, refl, ap}
use mathlib.Core.List.{List, [], ◌∷◌, ◌++◌}
use Prim.Native.Nat.{suc}
use lib.ListN.{length}
use Rattle.hindsight.specs.Rule.{Row}
use Rattle.hindsight.specs.Columns.{rows_of}
use Rattle.hindsight.specs.Coded.{state_of}

module _ {S Z : Type 0} (next : S → Z → S) (row : S → Z → Row) where
  -- as many as the months
  pub rows_long : (s : S) (l : List Z) → length (rows_of next row s l) ≡ length l
  rows_long s [] = refl
  rows_long s (z ∷ l) = ap suc (rows_long (next s z) l)

  -- of months, and then more
  pub rows_append : (s : S) (l m : List Z) → rows_of next row s (l ++ m) ≡ rows_of next row s l ++ rows_of next row (state_of next s l) m
  rows_append s [] m = refl
  rows_append s (z ∷ l) m = ap (λ (k : List Row). row s z ∷ k) (rows_append (next s z) l m)

-- the state after months, and then more
pub state-append : {S Z : Type 0} (next : S → Z → S) (s : S) (l m : List Z) → state_of next s (l ++ m) ≡ state_of next (state_of next s l) m
state-append next s [] m = refl
state-append next s (z ∷ l) m = state-append next (next s z) l m
