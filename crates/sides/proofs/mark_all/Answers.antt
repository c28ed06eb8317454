-- `sides::mark_all` meets its contract: the marks are rewritten from `from` on. Assumes nothing.
use mathlib.Core.Path.{◌≡◌, refl}
use Prim.Native.Nat.{◌-◌}
use native.Mathlib.Omega.{arith}
use Rattle.sides.proofs.Rewriting.{rewriting-one, rewriting-all}
use Rattle.sides.proofs.mark_all.Goals as goal

pub loop-i-preserved : goal.loop-i-preserved
loop-i-preserved c = rewriting-one c.args.m (omega arith) (omega arith) c.loop-i.invariant

pub returns : goal.returns
returns c = let e : c.args.to - c.loop-i.i ≡ 0 = omega arith in rewriting-all c.loop-i.invariant (omega arith) (rw e refl)
