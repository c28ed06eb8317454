-- `adding::month_added`: field by field. Assumes nothing.
use native.Mathlib.Numerals.{add-one}
use mir.Syntax.{w32}
use mir.Val.{SFits}
use mir.Facts.{to_z-of_z}
use Rattle.exact.proofs.Held.{held}
use Rattle.adding.proofs.month_added.Goals as goal

pub returns : goal.returns
returns c =
    let a = c.args in
    let f1 : SFits w32 a.s.values.x1 = search held in
    let f2 : SFits w32 a.s.values.x2 = search held in
    let f3 : SFits w32 a.s.values.x3 = search held in
    let f4 : SFits w32 a.s.index = search held in
    let f5 : SFits w32 a.z = search held in
    let f6 : SFits w32 a.s.modified = search held in
    rw (to_z-of_z f1, to_z-of_z f2, to_z-of_z f3, to_z-of_z f4, to_z-of_z f5, to_z-of_z f6, add-one a.at.months, c.next_calendar.ensures)
