-- `spells::larger_in_size` meets its contract. Assumes nothing.
use Prim.Native.Nat.{◌≤◌}
use native.Mathlib.Omega.{arith}
use lib.IntN.{ℤ, pos, nat_abs, ◌-ℤ◌}
use mir.Syntax.{w32}
use mir.Val.{SFits}
use mir.Facts.{to_z-of_z}
use Rattle.outline.specs.Numbers.{most_x}
use Rattle.exact.proofs.Z.{zs, is-Z}
use Rattle.spells.proofs.Choices.{larger-first, larger-second}
use Rattle.spells.proofs.larger_in_size.Goals as goal

fit : (x : ℤ) → nat_abs x ≤ most_x → SFits w32 (pos 0 -ℤ x)
fit x = rw (is-Z x) (simp zs (omega arith))

pub returns-then-x1-x2 : goal.returns-then-x1-x2
returns-then-x1-x2 c =
    let x1 = c.args.x1 in
    let x2 = c.args.x2 in
    let f1 = c.ranges.x1 in
    let f2 = c.ranges.x2 in
    let f = fit x2 c.requires.x2_size in
    simp to_z-of_z (larger-second x1 x2 c.requires (simp to_z-of_z at c.if-x1-x2.true))

pub returns-else-x1-x2 : goal.returns-else-x1-x2
returns-else-x1-x2 c =
    let x1 = c.args.x1 in
    let x2 = c.args.x2 in
    let f1 = c.ranges.x1 in
    let f2 = c.ranges.x2 in
    let f = fit x2 c.requires.x2_size in
    simp to_z-of_z (larger-first x1 x2 c.requires (simp to_z-of_z at c.if-x1-x2.false))
