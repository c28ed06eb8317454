-- A proof's vocabulary, which contracts cite: what settling leaves of a group of open months. Assumes nothing.
use Rattle.std.specs.Prelude.{List, ℤ, Option, None, Some}
use Rattle.spells.specs.declared.With.TheVariants.{X1, X2, X3}
use Rattle.hindsight.specs.Rule.{X}
use Rattle.hindsight.specs.Adding.{settled_all}
use Rattle.spells.specs.declared.With.{With}

-- the indexes of a group of open months with these sides, which show these indexes, by what the month after them decides with: X1 or X2 gives
-- each the value on its side. By X3 they stay: an open month before one that X3 decides shows its own X3. With no month after them they stay
abbrev pub group_indexes : Option With → List ℤ → List X → List ℤ
group_indexes None shown sides = shown
group_indexes (Some X1) shown sides = settled_all X1 sides
group_indexes (Some X2) shown sides = settled_all X2 sides
group_indexes (Some X3) shown sides = shown
