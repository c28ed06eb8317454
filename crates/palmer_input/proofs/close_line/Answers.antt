-- `palmer_input::close_line`: each way goes by what the line says, which is what `lines::finish` tells. Assumes nothing.
use mathlib.Core.Path.{sym, ◌∙◌}
use mir.Syntax.{w32}
use mir.Val.{SFits}
use mir.Facts.{to_z-of_z}
use borrow.Author.Rules.{rules}
use Rattle.outline.specs.Refused.{refusal_number}
use Rattle.outline.proofs.Refused.{unless-refusal}
use Rattle.lines.specs.Line.{accepted, refused}
use Rattle.refusals.specs.Book.{book}
use Rattle.palmer_input.proofs.Steps.{closed}
use Rattle.palmer_input.proofs.close_line.Goals as goal

pub returns-in-Ok : goal.returns-in-Ok
returns-in-Ok c =
    let a = c.args in
    let z = c.in-Ok.z in
    let f : SFits w32 z = search rules in
    (rw (to_z-of_z f) at c.add_line.ensures) ∙ closed a.s.now.line (accepted z) a.s.now.run (book a.x1.now a.x2.now a.x3.now a.index.now a.mark.now a.records.now a.v.now) a.percent.now c.in-Ok.ensures

pub returns-in-Err : goal.returns-in-Err
returns-in-Err c =
    let a = c.args in
    let e = c.in-Err.refusal in
    rw c.after_line.ensures (sym (unless-refusal e _ _) ∙ closed a.s.now.line (refused (refusal_number e)) a.s.now.run (book a.x1.now a.x2.now a.x3.now a.index.now a.mark.now a.records.now a.v.now) a.percent.now c.in-Err.ensures)
