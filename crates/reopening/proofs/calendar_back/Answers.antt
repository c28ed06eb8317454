-- `reopening::calendar_back` meets its contract. Assumes nothing.
use native.Mathlib.Omega.{arith}
use borrow.Author.Rules.{rules}
use Rattle.reopening.specs.Before.{calendar_back}
use Rattle.reopening.proofs.Laws.{calendar-is}
use Rattle.reopening.proofs.calendar_back.Goals as goal

pub overflow_add-result : goal.overflow_add-result
overflow_add-result c = let h = calendar-is c.args.calendar c.requires in omega arith

pub returns : goal.returns
unfolding calendar_back
returns c = search rules
