-- `sent_months::SentYear::month`: its tests are those of the definition. Assumes nothing.
use borrow.Author.Tests.{lt-leb, le-leb, le-ltb, lt-ltb}
use native.Mathlib.Omega.{arith}
use Rattle.ranges.proofs.RangeLaws.{calendar-is}
use Rattle.sent_months.specs.Sent.{month_sent}
use Rattle.sent_months.proofs.SentYear.month.Goals as goal

pub overflow_sub-self : goal.overflow_sub-self
overflow_sub-self c = omega (arith, calendar-is c.args.self.now.calendar c.requires.calendar_value)

pub returns-then-place-before : goal.returns-then-place-before
unfolding month_sent
returns-then-place-before c = rw (lt-leb _ _ (rw (c.place_of-place.ensures, c.from-before.ensures) at c.if-place-before.true))

pub returns-then-row-from : goal.returns-then-row-from
unfolding month_sent
returns-then-row-from c =
    let e = c.place_of-place.ensures in
    let f = c.from-before.ensures in
    rw (le-leb _ _ (rw (e, f) at c.if-place-before.false), le-ltb _ _ (rw (e, f, c.from.ensures) at c.if-row-from.true))

pub returns : goal.returns
unfolding month_sent
returns c =
    let e = c.place_of-place.ensures in
    let f = c.from-before.ensures in
    rw (le-leb _ _ (rw (e, f) at c.if-place-before.false), lt-ltb _ _ (rw (e, f, c.from.ensures) at c.if-row-from.false)) (rw (e, f) at c.row.ensures)
