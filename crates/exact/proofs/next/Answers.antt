-- `exact::next` meets its contract. Each value on the way fits an `i64`, since x and z are bounded, and the result fits an `i32`, since it is bounded as x is.
-- Assumes nothing.
use mathlib.Core.Path.{◌≡◌, ◌∙◌}
use Prim.Native.Nat.{◌≤◌}
use native.Mathlib.Omega.{arith}
use lib.IntN.{ℤ, pos, nat_abs, ◌*ℤ◌}
use mir.Syntax.{w64}
use mir.Val.{SFits}
use Rattle.exact.specs.Bounds.{most_rounded}
use Rattle.exact.specs.Next.{next_of}
use Rattle.outline.specs.Numbers.{weight, most_x, most_z}
use Rattle.exact.proofs.Z.{zs, is-Z, fits-within}
use Rattle.exact.proofs.Held.{held}
use Rattle.exact.proofs.NextLaws.{sum, next-within}
use Rattle.exact.proofs.next.Goals as goal

fit-x : (x : ℤ) → nat_abs x ≤ most_x → SFits w64 (pos weight *ℤ x)
fit-x x = rw (is-Z x) (simp zs (omega arith))

fit-z : (z : ℤ) → nat_abs z ≤ most_z → SFits w64 (pos 1000 *ℤ z)
fit-z z = rw (is-Z z) (simp zs (omega arith))

room : (x z : ℤ) → nat_abs x ≤ most_x → nat_abs z ≤ most_z → nat_abs (sum x z) ≤ most_rounded
room x z = rw (is-Z x, is-Z z) (simp zs (omega arith))

fit-sum : (x z : ℤ) → nat_abs x ≤ most_x → nat_abs z ≤ most_z → SFits w64 (sum x z)
fit-sum x z hx hz = fits-within w64 (sum x z) most_rounded (room x z hx hz) (omega arith)

ruleset fits = (fit-x, fit-z, room, fit-sum, held)

pub nearest_of_next-requires : goal.nearest_of_next-requires
nearest_of_next-requires c = search fits

-- what the call gives: the machine's sum is the sum
given : (c : goal.After-nearest_of_next) → c.nearest_of_next.result ≡ next_of c.args.x c.args.z
unfolding next_of
given c = c.nearest_of_next.ensures ∙ (search fits)

within : (c : goal.After-nearest_of_next) → nat_abs c.nearest_of_next.result ≤ most_x
within c = rw (given c) (next-within c.args.x c.args.z c.requires.x_bound c.requires.z_bound)

pub overflow_cast-result : goal.overflow_cast-result
overflow_cast-result c = let k = within c in search fits

pub returns : goal.returns
returns c = let e = given c in let k = within c in search fits
