-- `sent_months::sent_fits`: its tests are those of the definition. Assumes nothing.
use Rattle.std.proofs.Common.{◌≡◌, refl, sym, ap, ◌∙◌, Bool, true, nat_eq}
use mathlib.Core.Bool.{beq, not, ◌&&◌}
use Rattle.fields.specs.Written.{size_fits}
use Rattle.fields.specs.declared.Number.{Number}
use Rattle.figures.specs.Figures.{mark_hundredths, is_mark}
use Rattle.figures.proofs.FigureLaws.{mark-is}
use Rattle.sent_months.proofs.sent_fits.Goals as goal

-- a number that is not the mark, as the code compares the two
no-mark : (x : Number) (t : Bool) → t ≡ not (beq x.minus true && nat_eq x.hundredths mark_hundredths) → t ≡ not (is_mark x.minus x.hundredths)
no-mark x t e = e ∙ ap not (mark-is (beq x.minus true && nat_eq x.hundredths mark_hundredths) x.minus x.hundredths refl)

pub returns-then-ne : goal.returns-then-ne
returns-then-ne c =
    let x = c.in-Some.number in
    rw c.in-Some.is (c.fits.ensures ∙ ap (λ (b : Bool). b && size_fits x.minus x.hundredths) (sym c.if-ne.true ∙ no-mark x c.ne.result c.ne.ensures))

pub returns-else-ne : goal.returns-else-ne
returns-else-ne c =
    let x = c.in-Some.number in
    rw c.in-Some.is (c.if-ne.false ∙ ap (λ (b : Bool). b && size_fits x.minus x.hundredths) (sym c.if-ne.false ∙ no-mark x c.ne.result c.ne.ensures))
