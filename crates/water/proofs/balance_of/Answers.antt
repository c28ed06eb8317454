-- `water::balance_of` meets its contract, by its branch. Assumes nothing.
use borrow.Author.Tests.{lt-ltb, le-ltb}
use Rattle.water.specs.Balance.{balance_of}
use Rattle.water.proofs.balance_of.Goals as goal

pub returns-then-p-pe : goal.returns-then-p-pe
unfolding balance_of
returns-then-p-pe c = rw (lt-ltb _ _ c.if-p-pe.true) c.dry_month.ensures

pub returns-else-p-pe : goal.returns-else-p-pe
unfolding balance_of
returns-else-p-pe c = rw (le-ltb _ _ c.if-p-pe.false) c.wet_month.ensures
