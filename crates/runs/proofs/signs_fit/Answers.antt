-- `runs::signs_fit` meets its contract: each way out says how the definition's four parts come out. Assumes nothing.
use mathlib.Core.Path.{◌≡◌, sym}
use mathlib.Core.Bool.{true, false, and-true}
use lib.IntN.{pos}
use lib.Signed.{lt_z, ◌≤ℤ◌, ◌<ℤ◌}
use mir.Syntax.{w32}
use mir.Val.{SFits}
use mir.Facts.{to_z-of_z}
use Rattle.exact.proofs.Held.{held}
use Rattle.spells.specs.declared.Running.{Running}
use Rattle.runs.specs.Runs.{signs_fit}
use Rattle.exact.proofs.Orders.{le_is, le_not, lt-le}
use Rattle.runs.proofs.signs_fit.Goals as goal

module _ (s : Running) where
  x1-below : s.x1 <ℤ pos 0 → false ≡ signs_fit s
  unfolding signs_fit
  x1-below h = rw (le_not (pos 0) s.x1 h)

  x2-above : pos 0 ≤ℤ s.x1 → pos 0 <ℤ s.x2 → false ≡ signs_fit s
  unfolding signs_fit
  x2-above a h = rw (le_is (pos 0) s.x1 a, le_not s.x2 (pos 0) h)

  v_above : pos 0 ≤ℤ s.x1 → s.x2 ≤ℤ pos 0 → pos 0 <ℤ s.v → lt_z s.x3 (pos 0) ≡ signs_fit s
  unfolding signs_fit
  v_above a b h = rw (le_is (pos 0) s.x1 a, le_is s.x2 (pos 0) b, le_not s.v (pos 0) h, lt-le (pos 0) s.v h) (sym (and-true (lt_z s.x3 (pos 0))))

  v_below : pos 0 ≤ℤ s.x1 → s.x2 ≤ℤ pos 0 → s.v <ℤ pos 0 → lt_z (pos 0) s.x3 ≡ signs_fit s
  unfolding signs_fit
  v_below a b h = rw (le_is (pos 0) s.x1 a, le_is s.x2 (pos 0) b, lt-le s.v (pos 0) h, le_not (pos 0) s.v h)

  v-none : pos 0 ≤ℤ s.x1 → s.x2 ≤ℤ pos 0 → s.v ≤ℤ pos 0 → pos 0 ≤ℤ s.v → true ≡ signs_fit s
  unfolding signs_fit
  v-none a b h g = rw (le_is (pos 0) s.x1 a, le_is s.x2 (pos 0) b, le_is s.v (pos 0) h, le_is (pos 0) s.v g)

pub returns-then-v-lt0 : goal.returns-then-v-lt0
returns-then-v-lt0 c = search (held, x1-below)

pub returns-then-v-gt0 : goal.returns-then-v-gt0
returns-then-v-gt0 c = search (held, x2-above)

pub returns-then-v-gt0-2 : goal.returns-then-v-gt0-2
returns-then-v-gt0-2 c =
    let s = c.args.v in
    let f : SFits w32 s.x3 = search held in
    simp to_z-of_z (v_above s (search held) (search held) (search held))

pub returns-then-v-lt0-2 : goal.returns-then-v-lt0-2
returns-then-v-lt0-2 c =
    let s = c.args.v in
    let f : SFits w32 s.x3 = search held in
    simp to_z-of_z (v_below s (search held) (search held) (search held))

pub returns : goal.returns
returns c = search (held, v-none)
