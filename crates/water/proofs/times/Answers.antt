-- `water::times` meets its contract: the product of the two largest `u32` fits a `u64`. Assumes nothing.
use Prim.Native.Nat.{ℕ, ◌≤◌}
use native.Mathlib.Nat.{mul-le-mul}
use native.Mathlib.Omega.{arith}
use mir.Syntax.{w32}
use mir.Val.{Fits}
use Rattle.water.proofs.times.Goals as goal

most : {n : ℕ} → Fits w32 n → n ≤ 4294967295
most f = omega arith

pub overflow_mul-result : goal.overflow_mul-result
overflow_mul-result c = omega (arith, mul-le-mul (most c.ranges.a) (most c.ranges.b))
