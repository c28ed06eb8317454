-- `layout_months::month_said`: a number is told by the tests of the definition, in its order. Assumes nothing.
use Rattle.std.proofs.Common.{sym, ◌∙◌}
use Rattle.layout_months.specs.Months.{rain_of}
use Rattle.layout_months.proofs.Months.{mark-is}
use Rattle.layout_months.proofs.month_said.Goals as goal

pub returns-then-eq : goal.returns-then-eq
unfolding rain_of
returns-then-eq c = rw (c.in-Some.is, sym (mark-is c.eq.result c.in-Some.number.minus c.in-Some.number.hundredths c.eq.ensures) ∙ c.if-eq.true)

pub returns-then-in_range : goal.returns-then-in_range
unfolding rain_of
returns-then-in_range c = rw (c.in-Some.is, sym (mark-is c.eq.result c.in-Some.number.minus c.in-Some.number.hundredths c.eq.ensures) ∙ c.if-eq.false, sym c.in_range.ensures ∙ c.if-in_range.true)

pub returns-else-in_range : goal.returns-else-in_range
unfolding rain_of
returns-else-in_range c = rw (c.in-Some.is, sym (mark-is c.eq.result c.in-Some.number.minus c.in-Some.number.hundredths c.eq.ensures) ∙ c.if-eq.false, sym c.in_range.ensures ∙ c.if-in_range.false)
