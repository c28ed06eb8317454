-- A whole number of thousandths is never a trace. Assumes nothing.
use mathlib.Core.Path.{◌≡◌}
use mathlib.Core.Bool.{Bool, true, false, cond}
use Prim.Native.Nat.{ℕ, zero, suc}
use native.Mathlib.Omega.{arith}
use lib.IntN.{ℤ, pos, negsuc}
use lib.Dec.{leb}
use Rattle.outline.specs.Refusals.{not_acceptable}
use Rattle.door.specs.Outcome.{trace, accepted, refused}
use Rattle.door.specs.Readings.{most_reading, whole}

pub whole-no-trace : (n : ℤ) → (whole n).kind ≡ trace → ⊥
unfolding whole
whole-no-trace (pos n) h = go (leb n most_reading) n h
  where
    go : (t : Bool) (n : ℕ) → (cond t (accepted n) (refused not_acceptable)).kind ≡ trace → ⊥
    go true zero h = omega arith
    go true (suc n) h = omega arith
    go false n h = omega arith
whole-no-trace (negsuc n) h = omega arith
