-- A proof's vocabulary, which contracts cite: every Z of a list in its range, X1 and X2 of the open months of a group, and the side that
-- each gives alone. Assumes nothing.
use Rattle.std.specs.Prelude.{List, [], ◌∷◌, map, Option, None, Some, ℕ, zero, suc, ◌≤◌, ◌<◌, ℤ, pos, nat_abs, length, get_or}
use Rattle.outline.specs.Numbers.{most_z}
use Rattle.exact.specs.Next.{next_of}
use Rattle.spells.specs.Spells.{raised, lowered}
use Rattle.spells.specs.declared.With.{With}
use Rattle.spells.specs.declared.With.TheVariants.{X1, X2}
use Rattle.hindsight.specs.declared.Side.{Side}
use Rattle.hindsight.specs.declared.Side.TheVariants.{First, Second}
use Rattle.hindsight.specs.Rule.{X, nonzero}
use Rattle.hindsight.specs.Coded.{told}

-- every Z of the list is in its range
abbrev pub EachFits : List ℤ → Type 0
EachFits z = (i : ℕ) → i < length z → nat_abs (get_or z i (pos 0)) ≤ most_z

-- "X1 = larger of 0 and next(X1), X2 = smaller of 0 and next(X2)", month by month from a and b on. By these alone a month that decides with
-- X1 or X2 settles; X3 stands as 0
abbrev pub sides_of : ℤ → ℤ → List ℤ → List X
sides_of a b [] = []
sides_of a b (z ∷ later) =
    record { x1 = raised (next_of a z); x2 = lowered (next_of b z); x3 = pos 0 } ∷ sides_of (raised (next_of a z)) (lowered (next_of b z)) later

-- a side as the lent marks hold it for a while: 1 is X1's, 2 X2's, and 0 none
abbrev pub side_mark : Option Side → ℕ
side_mark None = 0
side_mark (Some First) = 1
side_mark (Some Second) = 2

-- the side that a mark holds. Any number is one's, so that nothing is asked of a caller: those above 2 are X2's
abbrev pub marked_side : ℕ → Option Side
marked_side zero = None
marked_side (suc zero) = Some First
marked_side (suc (suc n)) = Some Second

-- what a month decides with that gives this side
abbrev pub with_side : Side → With
with_side First = X1
with_side Second = X2

-- the mark of the side that a month gives alone
abbrev pub code : X → ℕ
code m = side_mark (told (nonzero m.x1) (nonzero m.x2))

abbrev pub codes : List X → List ℕ
codes months = map code months
