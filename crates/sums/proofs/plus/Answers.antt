-- `sums::plus` meets its contract: over 999 years and one month more no sum passes 100,000,000. Assumes nothing.
use native.Mathlib.Omega.{arith}
use Rattle.water.proofs.WaterLaws.{potentials-fit}
use Rattle.sums.specs.Sums.{plus}
use Rattle.sums.proofs.plus.Goals as goal

pub overflow_add-result-3 : goal.overflow_add-result-3
overflow_add-result-3 c =
    let q = potentials-fit c.args.w.soil c.args.w.pe c.requires.row_fits.soil in
    omega (arith, q, c.requires.within.r, c.requires.row_fits.r)

pub overflow_add-result-4 : goal.overflow_add-result-4
overflow_add-result-4 c =
    omega (arith, c.requires.within.ro, c.requires.row_fits.ro, c.requires.row_fits.p)

pub overflow_add-result-5 : goal.overflow_add-result-5
overflow_add-result-5 c =
    let q = potentials-fit c.args.w.soil c.args.w.pe c.requires.row_fits.soil in
    rw (c.potentials_of-q.ensures) (omega (arith, q, c.requires.within.pro))

pub overflow_add-result-6 : goal.overflow_add-result-6
overflow_add-result-6 c =
    let q = potentials-fit c.args.w.soil c.args.w.pe c.requires.row_fits.soil in
    omega (arith, q, c.requires.within.l, c.requires.row_fits.l)

pub overflow_add-result-7 : goal.overflow_add-result-7
overflow_add-result-7 c =
    let q = potentials-fit c.args.w.soil c.args.w.pe c.requires.row_fits.soil in
    rw (c.potentials_of-q.ensures) (omega (arith, q, c.requires.within.pl))

pub returns : goal.returns
unfolding plus
returns c = rw (c.potentials_of-q.ensures)
