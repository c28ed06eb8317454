-- A decision as a number: 0 nothing, 1, 2, 3 with X1, X2, X3. Hindsight's columns and the worked table have it so. Assumes nothing.
use Rattle.std.specs.Prelude.{ℕ, Option, None, Some}
use Rattle.spells.specs.declared.With.{With}
use Rattle.spells.specs.declared.With.TheVariants.{X1, X2, X3}

abbrev pub with_number : With → ℕ
with_number X1 = 1
with_number X2 = 2
with_number X3 = 3

abbrev pub decision_number : Option With → ℕ
decision_number None = 0
decision_number (Some w) = with_number w
