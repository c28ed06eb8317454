-- `rows::put_byte`: one byte laid is one element set. Assumes nothing.
use mathlib.Core.Path.{refl}
use native.Mathlib.Omega.{arith}
use Rattle.rows.proofs.Laid.{laid_one}
use Rattle.rows.proofs.put_byte.Goals as goal

pub returns : goal.returns
returns c = record { value = refl; out_after = laid_one c.args.b c.args.at c.args.out.now (omega arith) }
