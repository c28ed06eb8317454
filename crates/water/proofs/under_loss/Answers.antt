-- `water::under_loss` meets its contract: each number on the way fits a `u32`, and the part is the nearest. Assumes nothing.
use mathlib.Core.Path.{ap, sym, ◌∙◌}
use Prim.Native.Nat.{ℕ, ◌*◌, ◌≤◌, min}
use native.Mathlib.Nat.{mul-le-mul}
use native.Mathlib.Omega.{arith}
use Rattle.exact.proofs.Nearest.{near-half-added}
use Rattle.door.specs.Readings.{most_reading}
use Rattle.water.specs.Layers.{most_capacity}
use Rattle.water.specs.Balance.{under_loss}
use Rattle.water.proofs.under_loss.Goals as goal

-- at most 100,000 x 30,000
product : (c : goal.Start) → c.args.want * c.args.su ≤ most_reading * most_capacity
product c = let su : c.args.su ≤ most_capacity = omega arith in mul-le-mul c.requires.want_le_most_reading.0 su

pub overflow_mul-part : goal.overflow_mul-part
overflow_mul-part c = omega (arith, product c)

pub overflow_add-part : goal.overflow_add-part
overflow_add-part c = omega (arith, product c)

pub returns : goal.returns
unfolding under_loss
returns c =
    let a = c.args in
    c.min.ensures ∙ ap (λ (n : ℕ). min n a.su) (sym (near-half-added (a.want * a.su) a.capacity c.requires.capacity_nonzero.0))
