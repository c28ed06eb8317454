-- A `u32` is put: it has at most ten digits. Assumes nothing.
use native.Mathlib.Omega.{arith}
use Rattle.rows.proofs.Digits.{numeral-length}
use Rattle.rows.proofs.U32Decimal.put.Goals as goal

pub put_natural-requires : goal.put_natural-requires
put_natural-requires c = omega (arith, numeral-length c.args.self c.ranges.self.fits)

pub returns-clause-upper_bound : goal.returns-clause-upper_bound
returns-clause-upper_bound c = omega (arith, numeral-length c.args.self c.ranges.self.fits)
