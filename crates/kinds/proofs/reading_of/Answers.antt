-- `kinds::reading_of` meets its contract, kind by kind. Assumes nothing.
use borrow.Author.Tests.{eq-eqb, ne_eqb}
use mir.Syntax.{w32}
use mir.Val.{SFits}
use mir.Facts.{to_z-of_z}
use Rattle.exact.proofs.Held.{held}
use Rattle.kinds.specs.FromC.{reading_of_c}
use Rattle.kinds.proofs.reading_of.Goals as goal

pub returns-then-kind-eq-MISSING : goal.returns-then-kind-eq-MISSING
unfolding reading_of_c
returns-then-kind-eq-MISSING c = simp (eq-eqb _ _ c.if-kind-eq-MISSING.true)

pub returns-then-kind-eq-WHOLE : goal.returns-then-kind-eq-WHOLE
unfolding reading_of_c
returns-then-kind-eq-WHOLE c =
    let f : SFits w32 c.args.g.whole = search held in
    simp (to_z-of_z f, ne_eqb _ _ c.if-kind-eq-MISSING.false, eq-eqb _ _ c.if-kind-eq-WHOLE.true)

pub returns-then-kind-eq-INCHES : goal.returns-then-kind-eq-INCHES
unfolding reading_of_c
returns-then-kind-eq-INCHES c = simp (ne_eqb _ _ c.if-kind-eq-MISSING.false, ne_eqb _ _ c.if-kind-eq-WHOLE.false, eq-eqb _ _ c.if-kind-eq-INCHES.true)

pub returns-then-kind-eq-MILLIMETRES : goal.returns-then-kind-eq-MILLIMETRES
unfolding reading_of_c
returns-then-kind-eq-MILLIMETRES c = simp (ne_eqb _ _ c.if-kind-eq-MISSING.false, ne_eqb _ _ c.if-kind-eq-WHOLE.false, ne_eqb _ _ c.if-kind-eq-INCHES.false, eq-eqb _ _ c.if-kind-eq-MILLIMETRES.true)

pub returns : goal.returns
unfolding reading_of_c
returns c = simp (ne_eqb _ _ c.if-kind-eq-MISSING.false, ne_eqb _ _ c.if-kind-eq-WHOLE.false, ne_eqb _ _ c.if-kind-eq-INCHES.false, ne_eqb _ _ c.if-kind-eq-MILLIMETRES.false)
