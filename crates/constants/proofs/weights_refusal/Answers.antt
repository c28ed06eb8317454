-- `constants::weights_refusal` meets its contract, by its tests. Assumes nothing.
use borrow.Author.Tests.{eq-eqb, ne_eqb}
use mathlib.Core.Path.{sym, ◌∙◌}
use Rattle.constants.specs.WorkOut.{weights_refusal}
use Rattle.constants.proofs.weights_refusal.Goals as goal

pub returns-then-weights-ne-MANY_MONTHS : goal.returns-then-weights-ne-MANY_MONTHS
unfolding weights_refusal
returns-then-weights-ne-MANY_MONTHS c = rw (ne_eqb _ _ c.if-weights-ne-MANY_MONTHS.true)

pub returns-then-weights_fit : goal.returns-then-weights_fit
unfolding weights_refusal
returns-then-weights_fit c = rw (eq-eqb _ _ c.if-weights-ne-MANY_MONTHS.false, sym c.weights_fit.ensures ∙ c.if-weights_fit.true)

pub returns-else-weights_fit : goal.returns-else-weights_fit
unfolding weights_refusal
returns-else-weights_fit c = rw (eq-eqb _ _ c.if-weights-ne-MANY_MONTHS.false, sym c.weights_fit.ensures ∙ c.if-weights_fit.false)
