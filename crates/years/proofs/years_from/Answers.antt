-- `years::years_from` meets its contract: where there are fewer months than that, their difference is 0, and so are the years. Assumes nothing.
use borrow.Author.Rules.{rules}
use Rattle.years.specs.Years.{years_from}
use Rattle.years.proofs.years_from.Goals as goal

pub returns-then-months-first : goal.returns-then-months-first
unfolding years_from
returns-then-months-first c = search rules

pub returns : goal.returns
unfolding years_from
returns c = search rules
