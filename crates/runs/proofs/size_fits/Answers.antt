-- `runs::size_fits` meets its contract: the machine's number is the argument. Assumes nothing.
use mir.Facts.{to_z-of_z}
use Rattle.exact.proofs.Held.{held, wide}
use Rattle.runs.proofs.size_fits.Goals as goal

pub overflow_cast-x : goal.overflow_cast-x
overflow_cast-x c = search held

pub returns : goal.returns
returns c =
    let f = c.ranges.x in
    let g = wide f in
    simp to_z-of_z at c.within.ensures
