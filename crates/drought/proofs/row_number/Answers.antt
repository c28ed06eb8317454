-- `drought::row_number` meets its contract: 1, or what `refusals::row_refusal` gives. Assumes nothing.
use Rattle.refusals.specs.Lent.{row_number_for}
use Rattle.drought.proofs.row_number.Goals as goal

pub returns-then-not-fit : goal.returns-then-not-fit
unfolding row_number_for
returns-then-not-fit c = rw c.if-not-fit.true

pub returns : goal.returns
unfolding row_number_for
returns c = rw c.if-not-fit.false (rw c.progress_of-at.ensures at c.row_refusal.ensures)
