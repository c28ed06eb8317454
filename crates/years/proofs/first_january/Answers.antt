-- `years::first_january` meets its contract: a calendar month is at most 12, so the difference does not wrap. Assumes nothing.
use native.Mathlib.Omega.{arith}
use borrow.Author.Rules.{rules}
use Rattle.ranges.proofs.RangeLaws.{calendar-is}
use Rattle.years.specs.Years.{first_january}
use Rattle.years.proofs.first_january.Goals as goal

pub overflow_add-result : goal.overflow_add-result
overflow_add-result c = search rules

pub overflow_sub-result : goal.overflow_sub-result
overflow_sub-result c = let h = calendar-is c.args.calendar c.requires in omega arith

pub returns : goal.returns
unfolding first_january
returns c = search rules
