-- `drought::add_z` meets its contract: what `try_z` answers, put together with the constants. Assumes nothing.
use mir.Facts.{to_z-of_z}
use Rattle.drought.proofs.add_z.Goals as goal

pub returns-clause-outcome : goal.returns-clause-outcome
returns-clause-outcome c =
    let f = c.ranges.z in
    rw c.answer_of.ensures (rw (c.progress_of-at.ensures, to_z-of_z f) at c.try_z-t.ensures.outcome)
