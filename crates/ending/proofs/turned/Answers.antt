-- `ending::turned` meets its contract. Assumes nothing.
use mathlib.Core.Path.{◌≡◌}
use Prim.Native.Nat.{◌≤◌, ◌*◌}
use native.Mathlib.Omega.{arith}
use borrow.Author.Rules.{rules}
use lib.IntN.{ℤ, pos, neg_ℤ, nat_abs, ◌-ℤ◌}
use mir.Syntax.{w64}
use mir.Val.{SFits}
use Rattle.exact.proofs.Z.{zs, is-Z}
use Rattle.ending.specs.Bounds.{most_v}
use Rattle.ending.specs.Ending.{turn}
use Rattle.ending.proofs.turned.Goals as goal

fit : (n : ℤ) → nat_abs n ≤ 2 * most_v → SFits w64 (pos 0 -ℤ n) × (pos 0 -ℤ n ≡ neg_ℤ n)
fit n = rw (is-Z n) (simp zs (omega arith))

pub overflow_sub-result : goal.overflow_sub-result
overflow_sub-result c = let f = fit c.args.n c.requires in search rules

pub returns-then-wet : goal.returns-then-wet
unfolding turn
returns-then-wet c = let f = fit c.args.n c.requires in rw c.if-wet.true (search rules)

pub returns-else-wet : goal.returns-else-wet
unfolding turn
returns-else-wet c = rw c.if-wet.false (search rules)
