-- `figures::figure_said`: the mark is asked first. Assumes nothing.
use mathlib.Core.Path.{sym, ◌∙◌}
use mir.Facts.{to_z-of_z}
use Rattle.figures.proofs.FigureLaws.{mark-is}
use Rattle.figures.proofs.figure_said.Goals as goal

pub returns-then-eq : goal.returns-then-eq
returns-then-eq c = rw (c.in-Some.is, sym (mark-is c.eq.result c.in-Some.number.minus c.in-Some.number.hundredths c.eq.ensures) ∙ c.if-eq.true)

pub signed-requires : goal.signed-requires
signed-requires c = rw c.in-Some.is at c.requires

pub returns-else-eq : goal.returns-else-eq
returns-else-eq c =
    rw (to_z-of_z (record { sfits = c.signed.type_inv }), c.signed.ensures, c.in-Some.is, sym (mark-is c.eq.result c.in-Some.number.minus c.in-Some.number.hundredths c.eq.ensures) ∙ c.if-eq.false)
