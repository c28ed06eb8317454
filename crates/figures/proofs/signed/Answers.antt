-- `figures::signed`: hundredths below 2^31 are the same number as an `i32`. Assumes nothing.
use mathlib.Core.Path.{◌≡◌}
use Prim.Native.Nat.{ℕ, ◌<◌, ◌^◌}
use native.Mathlib.Omega.{arith}
use lib.IntN.{ℤ, pos, neg_ℤ, ◌-ℤ◌}
use mir.Syntax.{w32}
use mir.Val.{SFits, to_z}
use mir.Facts.{to_z-of_z, to_z_pos}
use Rattle.exact.proofs.Z.{Z, zs, is-Z, Z-pos}
use Rattle.figures.proofs.signed.Goals as goal

same : (n : ℕ) → n < 2 ^ 31 → to_z w32 n ≡ pos n
same n h = to_z_pos w32 (omega arith)

turned-fits : (n : ℕ) (x : ℤ) → x ≡ Z n 0 → n < 2 ^ 31 → SFits w32 (pos 0 -ℤ x)
turned-fits n x e = rw e (simp zs (omega arith))

turned : (x : ℤ) → pos 0 -ℤ x ≡ neg_ℤ x
turned x = rw (is-Z x) (simp zs (omega arith))

pub overflow_sub-result : goal.overflow_sub-result
overflow_sub-result c =
    rw (same c.args.said.hundredths c.requires) (turned-fits c.args.said.hundredths (pos c.args.said.hundredths) (Z-pos c.args.said.hundredths) c.requires)

pub returns-then-said : goal.returns-then-said
returns-then-said c =
    rw (to_z-of_z (overflow_sub-result c), same c.args.said.hundredths c.requires, turned (pos c.args.said.hundredths), c.if-said.true)

pub returns-else-said : goal.returns-else-said
returns-else-said c =
    rw (same c.args.said.hundredths c.requires, c.if-said.false)
