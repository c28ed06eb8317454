-- `calendar::constants_at` meets its contract: the month's five places are among the sixty. Assumes nothing.
use native.Mathlib.Omega.{arith}
use Rattle.ranges.proofs.RangeLaws.{calendar-is}
use Rattle.calendar.specs.Calendar.{constants_at}
use Rattle.calendar.proofs.constants_at.Goals as goal

pub overflow_sub-at : goal.overflow_sub-at
overflow_sub-at c = let m = calendar-is c.args.month c.requires.1 in omega arith

-- what each call asks: the constants fit, and the place is among the sixty
pub constant-requires : goal.constant-requires
constant-requires c = let m = calendar-is c.args.month c.requires.1 in (c.requires.0, omega arith)

pub constant-requires-2 : goal.constant-requires-2
constant-requires-2 c = let m = calendar-is c.args.month c.requires.1 in (c.requires.0, omega arith)

pub constant-requires-3 : goal.constant-requires-3
constant-requires-3 c = let m = calendar-is c.args.month c.requires.1 in (c.requires.0, omega arith)

pub constant-requires-4 : goal.constant-requires-4
constant-requires-4 c = let m = calendar-is c.args.month c.requires.1 in (c.requires.0, omega arith)

pub constant-requires-5 : goal.constant-requires-5
constant-requires-5 c = let m = calendar-is c.args.month c.requires.1 in (c.requires.0, omega arith)

pub returns : goal.returns
unfolding constants_at
returns c =
    rw (c.constant.ensures, c.constant-2.ensures, c.constant-3.ensures, c.constant-4.ensures, c.constant-5.ensures)
