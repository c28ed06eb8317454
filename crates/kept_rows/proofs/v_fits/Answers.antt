-- `kept_rows::v_fits` meets its contract: a V of 0 passes, and what V may be fits an `i64`, whatever the months. Assumes nothing.
use mathlib.Core.Path.{◌≡◌, sym, ◌∙◌}
use mathlib.Core.Bool.{true}
use Prim.Native.Nat.{ℕ, ◌*◌}
use native.Mathlib.Omega.{arith}
use lib.IntN.{ℤ, pos}
use mir.Syntax.{w32, w64}
use mir.Val.{Fits, SFits}
use mir.Facts.{to_z-of_z, sfits_lit}
use borrow.Author.Tests.{le-leb}
use Rattle.outline.specs.Numbers.{most_u}
use Rattle.exact.proofs.Held.{unsigned, same_bits}
use Rattle.exact.proofs.Orders.{natural}
use Rattle.kept_rows.specs.Lists.{opposed_to, v_row_fits}
use Rattle.kept_rows.proofs.v_fits.Goals as goal

fit : (n : ℕ) → Fits w32 n → SFits w64 (pos (most_u * n))
fit n f = omega arith

none-fits : (months : ℕ) (x3 v : ℤ) → v ≡ pos 0 → true ≡ v_row_fits months x3 v
unfolding v_row_fits opposed_to
none-fits months x3 v e = rw (e, le-leb 0 (most_u * months) (omega arith))

pub returns-then-v-eq0 : goal.returns-then-v-eq0
returns-then-v-eq0 c =
    none-fits c.args.months c.args.x3 c.args.v (same_bits {y = pos 0} c.ranges.v (sfits_lit tt) c.if-v-eq0.true)

pub returns-then-not-opposed : goal.returns-then-not-opposed
unfolding v_row_fits
returns-then-not-opposed c =
    let f = c.ranges.x3 in
    let g = c.ranges.v in
    rw (sym (simp to_z-of_z at c.opposed.ensures) ∙ c.if-not-opposed.true)

pub overflow_mul-most : goal.overflow_mul-most
overflow_mul-most c =
    rw (unsigned c.args.months c.ranges.months) (fit c.args.months c.ranges.months)

pub within-requires : goal.within-requires
within-requires c =
    let f = fit c.args.months c.ranges.months in
    rw (unsigned c.args.months c.ranges.months) (simp to_z-of_z (natural (most_u * c.args.months)))

pub returns : goal.returns
unfolding v_row_fits
returns c =
    let f = fit c.args.months c.ranges.months in
    let g = c.ranges.v in
    let h = c.ranges.x3 in
    rw (sym (simp to_z-of_z at c.opposed.ensures) ∙ c.if-not-opposed.false) (simp to_z-of_z at (rw (unsigned c.args.months c.ranges.months) at c.within.ensures))
