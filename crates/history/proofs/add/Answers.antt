-- `history::add` meets its contract: what it stores, and what `settle` leaves, is `add_month` of the run that the columns hold. Assumes nothing.
use native.Mathlib.Omega.{arith}
use borrow.Author.Rules.{rules}
use mir.Syntax.{w32}
use mir.Val.{SFits}
use mir.Facts.{to_z-of_z}
use Rattle.history.proofs.Adding.{adds-open, adds-settled}
use Rattle.history.proofs.add.Goals as goal

pub returns-in-None-clause-adds : goal.returns-in-None-clause-adds
returns-in-None-clause-adds c =
    let a = c.args in
    let shown : SFits w32 a.month.index = search rules in
    rw (to_z-of_z shown)
    (adds-open a.x1.now a.x2.now a.x3.now a.index.now a.mark.now a.months a.opens a.month c.requires.0 (omega arith) (omega arith) c.in-None.is)

pub returns-in-Some-clause-adds : goal.returns-in-Some-clause-adds
returns-in-Some-clause-adds c =
    let a = c.args in
    let t = c.settle in
    let f1 : SFits w32 a.month.after.x1 = search rules in
    let f2 : SFits w32 a.month.after.x2 = search rules in
    let f3 : SFits w32 a.month.after.x3 = search rules in
    let shown : SFits w32 a.month.index = search rules in
    adds-settled a.x1.now a.x2.now a.x3.now a.index.now a.mark.now a.months a.opens a.month c.requires.0 (omega arith) (omega arith) c.in-Some.with c.in-Some.is t.new.index t.new.mark
    (rw (to_z-of_z f1, to_z-of_z f2, to_z-of_z f3, to_z-of_z shown) at t.ensures.indexes)
    t.ensures.marks
