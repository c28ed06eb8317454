-- `door::read` meets its contract: each case goes to its own function. Assumes nothing.
use borrow.Author.Rules.{rules}
use Rattle.door.specs.Readings.{reading}
use Rattle.door.proofs.read.Goals as goal

pub returns-in-Whole : goal.returns-in-Whole
unfolding reading
returns-in-Whole c = search rules

pub returns-in-Inches : goal.returns-in-Inches
unfolding reading
returns-in-Inches c = search rules

pub returns-in-Millimetres : goal.returns-in-Millimetres
unfolding reading
returns-in-Millimetres c = search rules

pub returns-in-Missing : goal.returns-in-Missing
unfolding reading
returns-in-Missing c = search rules
