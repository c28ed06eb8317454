-- `division_input::take_line`: the part is kept, and the line closed where it ends; after a refusal nothing is looked at. Assumes nothing.
use Rattle.std.proofs.Common.{sym}
use Rattle.division_session.specs.Session.{seen, closed}
use Rattle.division_session.proofs.Closing.{going, halted}
use Rattle.division_input.specs.Input.{state_of, ended}
use Rattle.division_input.proofs.Part.{fed-refused, fed-within, fed-closes, held-part}
use Rattle.division_input.proofs.take_line.Goals as goal

pub returns-then-is_some : goal.returns-then-is_some
returns-then-is_some c =
    let a = c.args in
    sym (fed-refused (state_of a.session.now a.out.now) (ended a.ends a.part.now) (halted a.session.now.refused (sym c.if-is_some.ensures)))

pub close_line-requires : goal.close_line-requires
close_line-requires c =
    let a = c.args in
    held-part (state_of a.session.now a.out.now) a.part.now c.keep_part.new.self (going a.session.now.refused (sym c.if-is_some.ensures)) c.requires.part_value c.keep_part.ensures c.requires.held

pub returns-then-ends : goal.returns-then-ends
returns-then-ends c =
    let a = c.args in
    let n = c.close_line.new in
    rw c.close_line.ensures.line
    (fed-closes (state_of a.session.now a.out.now) a.part.now c.keep_part.new.self (going a.session.now.refused (sym c.if-is_some.ensures)) c.requires.part_value c.keep_part.ensures a.ends (closed (seen n.self) n.out) c.if-ends.true c.close_line.ensures.out_after)

pub returns-else-ends : goal.returns-else-ends
returns-else-ends c =
    let a = c.args in
    fed-within (state_of a.session.now a.out.now) a.part.now c.keep_part.new.self (going a.session.now.refused (sym c.if-is_some.ensures)) c.requires.part_value c.keep_part.ensures a.ends c.if-ends.false
