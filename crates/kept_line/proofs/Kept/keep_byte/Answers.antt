-- `kept_line::Kept::keep_byte`: a byte that is kept goes to the next place, and else nothing changes. Assumes nothing.
use Rattle.std.proofs.Common.{arith, sym, ◌∙◌}
use Rattle.kept_line.specs.Kept.{kept_count, kept_line}
use Rattle.kept_line.proofs.Parts.{kept-within}
use Rattle.kept_line.proofs.Kept.keep_byte.Goals as goal

pub bounds-self-self : goal.bounds-self-self
bounds-self-self c = omega (arith, kept-within c.args.self.now.count c.args.b (sym c.keeps.ensures ∙ c.if-keeps.true))

pub overflow_add-self : goal.overflow_add-self
overflow_add-self c = record { fits = omega (arith, kept-within c.args.self.now.count c.args.b (sym c.keeps.ensures ∙ c.if-keeps.true)) }

pub returns-then-keeps : goal.returns-then-keeps
unfolding kept_count kept_line
returns-then-keeps c = rw (sym c.keeps.ensures ∙ c.if-keeps.true)

pub returns-else-keeps : goal.returns-else-keeps
unfolding kept_count kept_line
returns-else-keeps c = rw (sym c.keeps.ensures ∙ c.if-keeps.false)
