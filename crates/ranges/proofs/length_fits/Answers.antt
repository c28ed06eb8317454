-- `ranges::length_fits`: each way by its tests. Assumes nothing.
use borrow.Author.Tests.{le-leb, lt-leb}
use Rattle.outline.specs.Numbers.{length_fits}
use Rattle.ranges.proofs.length_fits.Goals as goal

pub returns-then-n-ge1 : goal.returns-then-n-ge1
unfolding length_fits
returns-then-n-ge1 c = simp (le-leb _ _ c.if-n-ge1.true)

pub returns-else-n-ge1 : goal.returns-else-n-ge1
unfolding length_fits
returns-else-n-ge1 c = simp (lt-leb _ _ c.if-n-ge1.false)
