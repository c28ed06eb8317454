-- `drought::start`: what `runs::start` gives. Assumes nothing.
use mir.Facts.{to_z-of_z}
use Rattle.drought.proofs.start.Goals as goal

pub returns : goal.returns
returns c =
    let f = c.ranges in
    let f1 = f.capacity in
    let f2 = f.surface in
    let f3 = f.underlying in
    let f4 = f.month in
    simp to_z-of_z at c.start.ensures
