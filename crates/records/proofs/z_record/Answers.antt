-- `records::z_record`: field by field. Assumes nothing.
use borrow.Author.Rules.{rules}
use lib.IntN.{pos}
use mir.Syntax.{w32}
use mir.Val.{SFits}
use mir.Facts.{to_z-of_z}
use Rattle.records.proofs.Fitting.{stored-most}
use Rattle.records.proofs.z_record.Goals as goal

pub overflow_cast-surface : goal.overflow_cast-surface
overflow_cast-surface c = let h = stored-most c.args.s c.requires in search rules

pub overflow_cast-underlying : goal.overflow_cast-underlying
overflow_cast-underlying c = let h = stored-most c.args.s c.requires in search rules

pub returns : goal.returns
returns c =
    let h = stored-most c.args.s c.requires in
    let f1 : SFits w32 (pos c.args.s.surface) = search rules in
    let f2 : SFits w32 (pos c.args.s.underlying) = search rules in
    let d = c.default.ensures in
    rw (d.1.0, d.1.1.0, d.1.1.1.0, d.1.1.1.1.0, d.1.1.1.1.1.0, d.1.1.1.1.1.1.0, to_z-of_z c.ranges.z, to_z-of_z f1, to_z-of_z f2, to_z-of_z c.ranges.modified)
