-- `records::water_record`: field by field. Assumes nothing.
use mathlib.Core.Path.{refl}
use borrow.Author.Rules.{rules}
use Prim.Native.Nat.{◌+◌}
use lib.IntN.{pos}
use mir.Syntax.{w32}
use mir.Val.{SFits}
use mir.Facts.{to_z-of_z}
use Rattle.records.proofs.Fields.{same-fields}
use Rattle.records.proofs.Fitting.{stored-most}
use Rattle.records.proofs.water_record.Goals as goal

pub overflow_cast-result-7 : goal.overflow_cast-result-7
overflow_cast-result-7 c = let h = stored-most c.args.s c.requires.soil in search rules

pub overflow_cast-result-8 : goal.overflow_cast-result-8
overflow_cast-result-8 c = let h = stored-most c.args.s c.requires.soil in search rules

pub returns : goal.returns
returns c =
    let a = c.args in
    let g = c.requires in
    let h = stored-most a.s g.soil in
    let f0 : SFits w32 a.m.z = search rules in
    let f1 : SFits w32 (pos a.p) = search rules in
    let f2 : SFits w32 (pos a.pe) = search rules in
    let f3 : SFits w32 (pos a.m.et) = search rules in
    let f4 : SFits w32 (pos a.m.r) = search rules in
    let f5 : SFits w32 (pos (a.m.ls + a.m.lu)) = search rules in
    let f6 : SFits w32 (pos a.m.ro) = search rules in
    let f7 : SFits w32 (pos a.s.surface) = search rules in
    let f8 : SFits w32 (pos a.s.underlying) = search rules in
    let f9 : SFits w32 (pos a.m.surface) = search rules in
    let f10 : SFits w32 (pos a.m.underlying) = search rules in
    let f11 : SFits w32 (pos a.kind) = search rules in
    same-fields (to_z-of_z f0) (to_z-of_z f1) (to_z-of_z f2) (to_z-of_z f3) (to_z-of_z f4) (to_z-of_z f5) (to_z-of_z f6) (to_z-of_z f7) (to_z-of_z f8) (to_z-of_z f9) (to_z-of_z f10) refl (to_z-of_z c.ranges.modified) (to_z-of_z f11)
