-- `taking::add_z` meets its contract: no water, the month of spells, its record, and all put together. Assumes nothing.
use mathlib.Core.Path.{◌≡◌}
use native.Mathlib.Omega.{arith}
use borrow.Author.Rules.{rules}
use mir.Syntax.{w32, w64}
use mir.Val.{SFits}
use mir.Facts.{to_z-of_z}
use Rattle.modified.specs.Modified.{modified_of}
use Rattle.records.specs.Record.{z_record}
use Rattle.refusals.specs.Columns.{columns}
use Rattle.refusals.specs.Lists.{held}
use Rattle.adding.specs.Figures.{no_water}
use Rattle.adding.proofs.Taken.{taken_is}
use Rattle.taking.proofs.add_z.Goals as goal

pub add_spells-s-requires-clause-z_bound : goal.add_spells-s-requires-clause-z_bound
add_spells-s-requires-clause-z_bound c = let f = c.ranges.z in simp to_z-of_z c.requires.z_bound.0

pub z_record-kept-requires : goal.z_record-kept-requires
z_record-kept-requires c = c.requires.z_bound.2

pub put-requires : goal.put-requires
put-requires c = c.requires.months_in_bounds.0

pub put_v-requires : goal.put_v-requires
put_v-requires c = c.requires.months_in_bounds.1

pub month_added-requires : goal.month_added-requires
month_added-requires c =
    let p = c.requires.ready in
    (omega (arith, p.room, p.most), c.requires.z_bound.1)

pub returns-clause-outcome : goal.returns-clause-outcome
returns-clause-outcome c =
    let a = c.args in
    let f = c.ranges.z in
    let s = c.add_spells-s.result in
    let n = c.add_spells-s.new in
    let fm : SFits w32 s.modified = search rules in
    let fv : SFits w64 s.values.v = search rules in
    -- the spells are those of the Z
    let told = rw (to_z-of_z f) at c.add_spells-s.ensures in
    let d : c.default-water.result ≡ no_water = search rules in
    λ k. rw (c.month_added.ensures, d, to_z-of_z f)
    (taken_is a.at a.at.soil no_water a.z (z_record a.at.soil a.z (modified_of a.at.values a.z)) (held a.lists.now) s (columns n.x1 n.x2 n.x3 n.index n.mark) _ _
    told
    (rw (c.z_record-kept.ensures, to_z-of_z f, to_z-of_z fm, told.modified_is) at c.put.ensures)
    (rw (to_z-of_z fv) at c.put_v.ensures) k)
