-- `weighing::product` meets its contract: a D of 32 bits times a weight in its range. Assumes nothing.
use mathlib.Core.Path.{refl}
use Prim.Native.Nat.{ℕ, ◌*◌, ◌≤◌}
use native.Mathlib.Nat.{mul-le-mul}
use native.Mathlib.Omega.{arith}
use Rattle.water.specs.Constants.{most_k}
use Rattle.weighing.specs.Stores.{most_product}
use Rattle.weighing.proofs.product.Goals as goal

most : (d weight : ℕ) → d ≤ 4294967295 → weight ≤ most_k → d * weight ≤ most_product
most d weight h k =
    let p = mul-le-mul h k in
    omega arith

pub overflow_mul-result : goal.overflow_mul-result
overflow_mul-result c = let m = most c.args.d c.args.weight (omega arith) c.requires in omega arith

pub returns : goal.returns
returns c = (refl, most c.args.d c.args.weight (omega arith) c.requires)
