-- `palmer_input::add_line`: what `drought::add_z` gives, with the month's percent beside it. Assumes nothing.
use mir.Facts.{to_z-of_z}
use Rattle.refusals.specs.Book.{book}
use Rattle.palmer_input.proofs.Steps.{added-number, with-z}
use Rattle.palmer_input.proofs.add_line.Goals as goal

pub refusal_of-refused-requires : goal.refusal_of-refused-requires
refusal_of-refused-requires c =
    let a = c.args in
    let n = c.add_z-a.new in
    added-number a.s.now.run a.z (book a.x1.now a.x2.now a.x3.now a.index.now a.mark.now a.records.now a.v.now) c.add_z-a.result (book n.x1 n.x2 n.x3 n.index n.mark n.records n.v) (rw (to_z-of_z c.ranges.z) at c.add_z-a.ensures)

pub returns : goal.returns
returns c =
    let a = c.args in
    let n = c.add_z-a.new in
    rw c.after_line.ensures (with-z a.s.now.run a.z (book a.x1.now a.x2.now a.x3.now a.index.now a.mark.now a.records.now a.v.now) a.percent.now c.add_z-a.result (book n.x1 n.x2 n.x3 n.index n.mark n.records n.v) c.put_percent.new.percent _ (rw (to_z-of_z c.ranges.z) at c.add_z-a.ensures) c.refusal_of-refused.ensures c.put_percent.ensures)
