-- `constants::years_refusal` meets its contract, by its two tests. Assumes nothing.
use borrow.Author.Tests.{le-leb, lt-leb}
use mathlib.Core.Path.{sym, ◌∙◌}
use native.Mathlib.Omega.{arith}
use Rattle.constants.specs.WorkOut.{years_refusal}
use Rattle.constants.proofs.years_refusal.Goals as goal

pub returns-then-years-lt-FEWEST_YEARS : goal.returns-then-years-lt-FEWEST_YEARS
unfolding years_refusal
returns-then-years-lt-FEWEST_YEARS c capacity = rw (lt-leb _ _ c.if-years-lt-FEWEST_YEARS.true)

pub overflow_mul-years : goal.overflow_mul-years
overflow_mul-years c = let h = c.requires c.if-years-lt-FEWEST_YEARS.false in omega arith

pub all_water-requires : goal.all_water-requires
all_water-requires c = c.requires c.if-years-lt-FEWEST_YEARS.false

pub returns-then-all_water : goal.returns-then-all_water
unfolding years_refusal
returns-then-all_water c capacity = rw (le-leb _ _ c.if-years-lt-FEWEST_YEARS.false, sym c.all_water.ensures ∙ c.if-all_water.true)

pub returns-else-all_water : goal.returns-else-all_water
unfolding years_refusal
returns-else-all_water c capacity = rw (le-leb _ _ c.if-years-lt-FEWEST_YEARS.false, sym c.all_water.ensures ∙ c.if-all_water.false)
