-- `taking::add_measured` meets its contract: the run's constants of the calendar month, its month of water, its spells, its record, and that month added.
-- Assumes nothing.
use native.Mathlib.Omega.{arith}
use borrow.Author.Rules.{rules}
use mir.Syntax.{w32, w64}
use mir.Val.{SFits}
use mir.Facts.{to_z-of_z}
use Rattle.refusals.specs.Columns.{columns}
use Rattle.refusals.specs.Lists.{held}
use Rattle.adding.proofs.Measured.{Measured, fit, measured, measured-is}
use Rattle.taking.proofs.add_measured.Goals as goal
use Rattle.taking.proofs.add_measured.Goals.{After-month_of-m}

pub month_of-m-requires-clause-constants_fit : goal.month_of-m-requires-clause-constants_fit
month_of-m-requires-clause-constants_fit c = fit c.args.at c.args.constants.now c.constants_at-k.result c.constants_at-k.ensures c.requires.watered

-- the month of water is the run's
month-is : (c : After-month_of-m) → let a = c.args in Measured a.at a.constants.now a.p a.pe c.month_of-m.result
month-is c =
    let a = c.args in
    let k = c.constants_at-k in
    measured a.at a.constants.now k.result k.ensures c.requires.watered a.p a.pe c.requires.p_le_most_reading c.month_of-m.result c.month_of-m.ensures

pub add_spells-s-requires-clause-z_bound : goal.add_spells-s-requires-clause-z_bound
add_spells-s-requires-clause-z_bound c =
    let i = month-is (goal.at.add_spells-s-requires-clause-z_bound c).After-month_of-m in
    let f = i.fits in
    simp to_z-of_z i.bounded

pub water_record-kept-requires : goal.water_record-kept-requires
water_record-kept-requires c = (month-is (goal.at.water_record-kept-requires c).After-month_of-m).kept

-- its place among the records
pub put-requires : goal.put-requires
put-requires c = c.requires.months_in_bounds.0

pub put_v-requires : goal.put_v-requires
put_v-requires c = c.requires.months_in_bounds.1

pub watered-requires : goal.watered-requires
watered-requires c =
    let p = c.requires.ready in
    (omega (arith, p.room, p.most), c.requires.watered.calendar)

pub returns-clause-outcome : goal.returns-clause-outcome
returns-clause-outcome c =
    let a = c.args in
    let i = month-is (goal.at.returns-clause-outcome c).After-month_of-m in
    let s = c.add_spells-s.result in
    let n = c.add_spells-s.new in
    let fm : SFits w32 s.modified = search rules in
    let fv : SFits w64 s.values.v = search rules in
    measured-is a.at a.constants.now a.p a.pe a.kinds c.month_of-m.result i (held a.lists.now) (columns n.x1 n.x2 n.x3 n.index n.mark) s
    (rw (to_z-of_z i.fits) at c.add_spells-s.ensures) _
    (rw (c.water_record-kept.ensures, to_z-of_z fm) at c.put.ensures) _
    (rw (to_z-of_z fv) at c.put_v.ensures) c.watered.result c.watered.ensures
