-- `reworking::renew` meets its contract: the record that is put has the new readings, and all else as it was read. Assumes nothing.
use mathlib.Core.Path.{ap, ◌∙◌}
use borrow.Author.Rules.{rules}
use lib.IntN.{pos}
use lib.ListN.{set}
use mir.Syntax.{w32}
use mir.Val.{SFits}
use mir.Facts.{to_z-of_z}
use Rattle.records.specs.Record.{numbers_of}
use Rattle.records.specs.declared.Record.{Record}
use Rattle.records.proofs.Fields.{same-fields}
use Rattle.reworking.specs.Reworked.{renewed}
use Rattle.reworking.proofs.renew.Goals as goal

pub record_at-m-requires : goal.record_at-m-requires
record_at-m-requires c = search rules

pub overflow_cast-kept : goal.overflow_cast-kept
overflow_cast-kept c = search rules

pub overflow_cast-kept-2 : goal.overflow_cast-kept-2
overflow_cast-kept-2 c = search rules

pub overflow_cast-kept-3 : goal.overflow_cast-kept-3
overflow_cast-kept-3 c = search rules

pub put-requires : goal.put-requires
put-requires c = search rules

pub shape_of-records : goal.shape_of-records
shape_of-records c = search rules

pub returns : goal.returns
returns c =
    let a = c.args in
    let m = c.record_at-m.result in
    let f0 : SFits w32 m.z = record { sfits = c.struct_told-1.given.0.1 } in
    let f1 : SFits w32 (pos a.p) = search rules in
    let f2 : SFits w32 (pos a.pe) = search rules in
    let f3 : SFits w32 m.et = record { sfits = c.struct_told-1.given.1.1.1.0.1 } in
    let f4 : SFits w32 m.r = record { sfits = c.struct_told-1.given.1.1.1.1.0.1 } in
    let f5 : SFits w32 m.l = record { sfits = c.struct_told-1.given.1.1.1.1.1.0.1 } in
    let f6 : SFits w32 m.ro = record { sfits = c.struct_told-1.given.1.1.1.1.1.1.0.1 } in
    let f7 : SFits w32 m.ss = record { sfits = c.struct_told-1.given.1.1.1.1.1.1.1.0.1 } in
    let f8 : SFits w32 m.su = record { sfits = c.struct_told-1.given.1.1.1.1.1.1.1.1.0.1 } in
    let f9 : SFits w32 m.surface = record { sfits = c.struct_told-1.given.1.1.1.1.1.1.1.1.1.0.1 } in
    let f10 : SFits w32 m.underlying = record { sfits = c.struct_told-1.given.1.1.1.1.1.1.1.1.1.1.0.1 } in
    let f11 : SFits w32 m.water = record { sfits = c.struct_told-1.given.1.1.1.1.1.1.1.1.1.1.1.0.1 } in
    let f12 : SFits w32 m.modified = record { sfits = c.struct_told-1.given.1.1.1.1.1.1.1.1.1.1.1.1.0.1 } in
    let f13 : SFits w32 (pos a.kind) = search rules in
    let l = a.records.now in
    c.put.ensures ∙ ap (λ (n : Record). set l a.i (numbers_of n)) (same-fields (to_z-of_z f0) (to_z-of_z f1) (to_z-of_z f2) (to_z-of_z f3) (to_z-of_z f4) (to_z-of_z f5) (to_z-of_z f6) (to_z-of_z f7) (to_z-of_z f8) (to_z-of_z f9) (to_z-of_z f10) (to_z-of_z f11) (to_z-of_z f12) (to_z-of_z f13)) ∙ ap (λ (n : Record). set l a.i (numbers_of (renewed n a.p a.pe a.kind))) c.record_at-m.ensures
