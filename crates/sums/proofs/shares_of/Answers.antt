-- `sums::shares_of` meets its contract: no share passes what its range lets in, so each fits. Assumes nothing.
use native.Mathlib.Omega.{arith}
use Rattle.given_rows.specs.Facts.{most_years}
use Rattle.sums.proofs.SumLaws.{alpha-most, beta-most, delta-most}
use Rattle.sums.proofs.shares_of.Goals as goal

pub overflow_cast-result : goal.overflow_cast-result
overflow_cast-result c = omega (arith, c.share.ensures, alpha-most c.args.s most_years c.requires.sums_fit)

pub overflow_cast-result-2 : goal.overflow_cast-result-2
overflow_cast-result-2 c = omega (arith, c.share-2.ensures, beta-most c.args.s most_years c.requires.sums_fit)

pub overflow_cast-result-4 : goal.overflow_cast-result-4
overflow_cast-result-4 c = omega (arith, c.share-4.ensures, delta-most c.args.s most_years c.requires.sums_fit)

pub returns : goal.returns
returns c = rw (c.share.ensures, c.share-2.ensures, c.share-3.ensures, c.share-4.ensures)
