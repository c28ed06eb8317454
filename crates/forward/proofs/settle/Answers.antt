-- `forward::settle` meets its contract: nobody decides, or it goes by the sides, or by X3 and the indexes stand. Assumes nothing.
use mathlib.Core.Path.{◌≡◌}
use borrow.Author.Rules.{rules}
use mir.Syntax.{w32}
use mir.Val.{SFits}
use mir.Facts.{to_z-of_z}
use Rattle.spells.specs.declared.With.TheVariants.{X3}
use Rattle.forward.proofs.Parts.{part-kept}
use Rattle.forward.proofs.Groups.{by-sides, by-x3}
use Rattle.forward.proofs.settle.Goals as goal

pub returns-in-None-clause-indexes : goal.returns-in-None-clause-indexes
returns-in-None-clause-indexes c = rw c.in-None.is (part-kept c.args.index.now c.args.from c.args.at c.requires.from_le_at.0)

pub returns-in-Some-X3-clause-indexes : goal.returns-in-Some-X3-clause-indexes
returns-in-Some-X3-clause-indexes c =
    rw (c.in-Some-X3.is, by-x3 c.in-Some-X3.field-0 _ _ (rw c.in-Some-X3.is at c.in-Some-X3.field-0-is)) (part-kept c.args.index.now c.args.from c.args.at c.requires.from_le_at.0)

pub returns-in-Some-clause-indexes : goal.returns-in-Some-clause-indexes
returns-in-Some-clause-indexes c =
    let h : c.in-Some.with ≡ X3 → ⊥ = search rules in
    let fa : SFits w32 c.args.x1 = search rules in
    let fb : SFits w32 c.args.x2 = search rules in
    rw (c.in-Some.is, by-sides c.in-Some.with _ _ h) (rw (c.side_by.ensures, to_z-of_z fa, to_z-of_z fb) at c.settle_sides.ensures.indexes)
