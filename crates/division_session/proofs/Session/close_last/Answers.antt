-- `division_session::Session::close_last`: a line of which anything has come is closed. Assumes nothing.
use Rattle.std.proofs.Common.{sym, ◌∙◌}
use Rattle.division_session.specs.Session.{seen}
use Rattle.division_session.proofs.Closing.{going, halted, last-line, last-halted, last-none}
use Rattle.division_session.proofs.Session.close_last.Goals as goal
use Rattle.division_session.proofs.Session.close_last.Goals.{else-is_none-via-then-is_none+else-self-ne0, else-is_none-via-else-is_none}

pub returns-then-self-ne0-clause-out_after : goal.returns-then-self-ne0-clause-out_after
returns-then-self-ne0-clause-out_after c =
    let s = c.args.self.now in
    c.close_line.ensures.out_after ∙ sym (last-line (seen s) s.kept.line c.args.out.now (going s.refused c.if-is_none.ensures) c.if-self-ne0.true)

pub returns-else-is_none-clause-out_after : goal.returns-else-is_none-clause-out_after
returns-else-is_none-clause-out_after c =
    let s = c.args.self.now in
    elim c.else-is_none.branch [
      | else-is_none-via-then-is_none+else-self-ne0 w ↦ sym (last-none (seen s) s.kept.line c.args.out.now (going s.refused w.if-is_none.ensures) w.if-self-ne0.false)
      | else-is_none-via-else-is_none w ↦ sym (last-halted (seen s) s.kept.line c.args.out.now (halted s.refused w.if-is_none.ensures))
    ]
