-- `adding::add_spells` meets its contract: the step and what hindsight writes. Assumes nothing.
use mathlib.Core.Path.{ap}
use native.Mathlib.Omega.{arith}
use mir.Syntax.{w32}
use mir.Val.{SFits}
use mir.Facts.{to_z-of_z}
use Rattle.exact.proofs.Held.{held}
use Rattle.spells.specs.declared.SpellMonth.{SpellMonth}
use Rattle.refusals.specs.Columns.{columns}
use Rattle.adding.proofs.Taken.{spelled_is, opens-most, settled-most}
use Rattle.adding.proofs.add_spells.Goals as goal

pub step-month-requires-clause-z_bound : goal.step-month-requires-clause-z_bound
step-month-requires-clause-z_bound c = let f = c.ranges.z in simp to_z-of_z c.requires.z_bound

pub modified-modified-requires-clause-z_bound : goal.modified-modified-requires-clause-z_bound
modified-modified-requires-clause-z_bound c = let f = c.ranges.z in simp to_z-of_z c.requires.z_bound

pub modified-modified-requires-clause-m_value : goal.modified-modified-requires-clause-m_value
modified-modified-requires-clause-m_value c =
    let fz = c.ranges.z in
    let e = rw (to_z-of_z fz) at c.step-month.ensures in
    rw (to_z-of_z fz) (ap (λ (m : SpellMonth). m.after) e, ap (λ (m : SpellMonth). m.index) e)

pub add-added-requires : goal.add-added-requires
add-added-requires c = let p = c.requires.ready in (p.opens_fit, p.room, p.x2, p.x3, p.index, p.mark)

-- what it settled and what it left open are at most one more than were open
pub overflow_cast-result : goal.overflow_cast-result
overflow_cast-result c =
    let p = c.requires.ready in
    let a = c.add-added.ensures.adds in
    record { fits = omega (arith, a.settled_is, settled-most) }

pub overflow_cast-result-2 : goal.overflow_cast-result-2
overflow_cast-result-2 c =
    let p = c.requires.ready in
    let a = c.add-added.ensures.adds in
    record { fits = omega (arith, a.opens_is, opens-most) }

pub returns : goal.returns
returns c =
    let a = c.args in
    let s = c.step-month.result in
    let e = c.add-added.ensures in
    let fz = c.ranges.z in
    let fm : SFits w32 c.modified-modified.result = record { sfits = c.modified-modified.type_inv } in
    let f4 : SFits w32 s.index = search held in
    let cs = columns a.x1.now a.x2.now a.x3.now a.index.now a.mark.now in
    rw (to_z-of_z f4, to_z-of_z fm)
    (spelled_is a.months a.opens cs s a.values a.z c.add-added.new.x1 c.add-added.new.x2 c.add-added.new.x3 c.add-added.new.index c.add-added.new.mark c.add-added.result.opens c.add-added.result.settled c.add-added.result.mark c.modified-modified.result
    (rw (to_z-of_z fz) at c.step-month.ensures)
    (e.x1_after, e.x2_after, e.x3_after, e.adds)
    c.add-added.ensures.mark_value
    (rw (to_z-of_z fz) at c.modified-modified.ensures))
