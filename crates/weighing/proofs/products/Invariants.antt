use mathlib.Core.Path.{◌≡◌}
use Prim.Native.Nat.{◌*◌, ◌≤◌}
use Rattle.weighing.specs.Weighing.{products}
use Rattle.weighing.specs.Stores.{most_product}
use Rattle.weighing.proofs.products.Given as goal

abbrev pub invariant-loop-m : goal.invariant-loop-m
invariant-loop-m l = (l.sum ≡ products l.means l.weights.list.now l.m) × (l.sum ≤ most_product * l.m)
