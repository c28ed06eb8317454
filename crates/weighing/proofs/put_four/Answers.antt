-- `weighing::put_four` meets its contract: each of the four, in its range, is the same number as an `i32`. Assumes nothing.
use mathlib.Core.Path.{◌≡◌}
use Prim.Native.Nat.{ℕ, ◌≤◌}
use native.Mathlib.Nat.{lt_of_le_of_lt}
use native.Mathlib.Omega.{arith}
use lib.Dec.{lit<}
use lib.IntN.{pos}
use mir.Syntax.{w32}
use mir.Val.{to_z}
use mir.Facts.{to_z_pos}
use Rattle.water.specs.Constants.{most_gamma}
use Rattle.weighing.proofs.put_four.Goals as goal

low : (n : ℕ) → n ≤ most_gamma → to_z w32 n ≡ pos n
low n h = to_z_pos w32 (lt_of_le_of_lt h (lit< tt))

pub returns : goal.returns
returns c =
    let f = c.requires.1 in
    rw (
      low c.args.k.alpha (omega (arith, f.alpha)),
      low c.args.k.beta (omega (arith, f.beta)),
      low c.args.k.gamma f.gamma,
      low c.args.k.delta (omega (arith, f.delta)),
    )
