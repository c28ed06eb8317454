-- `ranges::z_fits`: the two tests bound the size. Assumes nothing.
use mathlib.Core.Path.{◌≡◌, refl, sym, ◌∙◌}
use mathlib.Core.Bool.{Bool, true, false}
use Prim.Native.Nat.{◌<◌, ◌≤◌}
use native.Mathlib.Omega.{arith}
use lib.IntN.{ℤ, pos, negsuc, nat_abs}
use lib.Signed.{le_z}
use lib.Dec.{leb}
use mir.Facts.{to_z-of_z}
use borrow.Author.Tests.{le-leb, lt-leb}
use Rattle.outline.specs.Numbers.{most_z, z_fits}
use Rattle.exact.proofs.Z.{zs-abs, is-Z}
use Rattle.ranges.proofs.z_fits.Goals as goal

low : (z : ℤ) → le_z (negsuc 3999999) z ≡ false → most_z < nat_abs z
low z = rw (is-Z z) (simp zs-abs (omega arith))

high : (z : ℤ) → le_z z (pos most_z) ≡ false → most_z < nat_abs z
high z = rw (is-Z z) (simp zs-abs (omega arith))

inside : (z : ℤ) → le_z (negsuc 3999999) z ≡ true → le_z z (pos most_z) ≡ true → nat_abs z ≤ most_z
inside z = rw (is-Z z) (simp zs-abs (omega arith))

upper : (z : ℤ) (t : Bool) → le_z (negsuc 3999999) z ≡ true → le_z z (pos most_z) ≡ t → t ≡ leb (nat_abs z) most_z
upper z true h e = sym (le-leb _ _ (inside z h e))
upper z false h e = sym (lt-leb _ _ (high z e))

pub returns-then-z : goal.returns-then-z
unfolding z_fits
returns-then-z c = let f = c.ranges.z in simp to_z-of_z (upper c.args.z (le_z c.args.z (pos most_z)) (simp to_z-of_z at c.if-z.true) refl)

pub returns-else-z : goal.returns-else-z
unfolding z_fits
returns-else-z c =
    let f = c.ranges.z in
    let e : le_z (negsuc 3999999) c.args.z ≡ false = simp to_z-of_z at c.if-z.false in
    simp to_z-of_z (e ∙ sym (lt-leb _ _ (low c.args.z e)))
