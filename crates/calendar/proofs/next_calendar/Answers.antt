-- `calendar::next_calendar` meets its contract: the next number, and January after December. Assumes nothing.
use mathlib.Core.Path.{◌≡◌, sym, ap, ◌∙◌}
use native.Mathlib.Omega.{arith}
use Rattle.outline.specs.Numbers.{last_month}
use Rattle.ranges.proofs.RangeLaws.{calendar-is}
use Rattle.calendar.specs.Calendar.{next_calendar}
use Rattle.calendar.proofs.CalendarLaws.{calendar-steps, calendar-turns}
use Rattle.calendar.proofs.next_calendar.Goals as goal

pub returns-then-month-lt-LAST_MONTH : goal.returns-then-month-lt-LAST_MONTH
returns-then-month-lt-LAST_MONTH c = sym (calendar-steps c.args.month c.if-month-lt-LAST_MONTH.true)

pub returns-else-month-lt-LAST_MONTH : goal.returns-else-month-lt-LAST_MONTH
returns-else-month-lt-LAST_MONTH c =
    let m = c.args.month in
    let k = calendar-is m c.requires in
    let e : m ≡ last_month = omega arith in
    sym (ap next_calendar e ∙ calendar-turns)
