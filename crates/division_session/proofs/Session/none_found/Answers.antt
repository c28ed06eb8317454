-- `division_session::Session::none_found`: its tests are those of the definition. Assumes nothing.
use Rattle.std.proofs.Common.{sym}
use Rattle.division_session.specs.Session.{seen}
use Rattle.division_session.proofs.Closing.{going, halted, unstarted, started, none-told, none-halted, none-started}
use Rattle.division_session.proofs.Session.none_found.Goals as goal
use Rattle.division_session.proofs.Session.none_found.Goals.{else-is_none-via-then-is_none+else-is_none-2, else-is_none-via-else-is_none}

pub returns-then-is_none-2-clause-told : goal.returns-then-is_none-2-clause-told
returns-then-is_none-2-clause-told c =
    let s = c.args.self.now in
    sym (none-told (seen s) (going s.refused c.if-is_none.ensures) (unstarted s.next c.if-is_none-2.ensures))

pub returns-else-is_none-clause-told : goal.returns-else-is_none-clause-told
returns-else-is_none-clause-told c =
    let s = c.args.self.now in
    elim c.else-is_none.branch [
      | else-is_none-via-then-is_none+else-is_none-2 w ↦ sym (none-started (seen s) (going s.refused w.if-is_none.ensures) (started s.next s.above_zero w.if-is_none-2.ensures))
      | else-is_none-via-else-is_none w ↦ sym (none-halted (seen s) (halted s.refused w.if-is_none.ensures))
    ]
