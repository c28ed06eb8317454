-- `kept_rows::opposed` meets its contract: each way out says how the definition's two parts come out. Assumes nothing.
use mathlib.Core.Path.{◌≡◌, sym}
use mathlib.Core.Bool.{true, and-true}
use lib.IntN.{ℤ, pos}
use lib.Signed.{lt_z, ◌≤ℤ◌, ◌<ℤ◌}
use mir.Facts.{to_z-of_z}
use Rattle.exact.proofs.Held.{held}
use Rattle.exact.proofs.Orders.{le_is, le_not, lt-le}
use Rattle.kept_rows.specs.Lists.{opposed_to}
use Rattle.kept_rows.proofs.opposed.Goals as goal

module _ (x3 v : ℤ) where
  v_above : pos 0 <ℤ v → lt_z x3 (pos 0) ≡ opposed_to x3 v
  unfolding opposed_to
  v_above h = rw (le_not v (pos 0) h, lt-le (pos 0) v h) (sym (and-true (lt_z x3 (pos 0))))

  v_below : v <ℤ pos 0 → lt_z (pos 0) x3 ≡ opposed_to x3 v
  unfolding opposed_to
  v_below h = rw (lt-le v (pos 0) h, le_not (pos 0) v h)

  v-none : v ≤ℤ pos 0 → pos 0 ≤ℤ v → true ≡ opposed_to x3 v
  unfolding opposed_to
  v-none h g = rw (le_is v (pos 0) h, le_is (pos 0) v g)

pub returns-then-v-gt0 : goal.returns-then-v-gt0
returns-then-v-gt0 c =
    let f = c.ranges.x3 in
    simp to_z-of_z (v_above c.args.x3 c.args.v (search held))

pub returns-then-v-lt0 : goal.returns-then-v-lt0
returns-then-v-lt0 c =
    let f = c.ranges.x3 in
    simp to_z-of_z (v_below c.args.x3 c.args.v (search held))

pub returns : goal.returns
returns c = search (held, v-none)
