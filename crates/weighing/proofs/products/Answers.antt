-- `weighing::products` meets its contract. The loop's invariant: the sum is that of the months passed, and twelve of the largest fit 64 bits.
-- Assumes nothing.
use Rattle.weighing.specs.Weighing.{weights_fit}
use borrow.Author.Rules.{rules}
use mathlib.Core.Bool.{true}
use mathlib.Core.Path.{◌≡◌, sym, ap, ap₂, ◌∙◌}
use Prim.Native.Nat.{ℕ, ◌+◌, ◌*◌}
use native.Mathlib.Omega.{arith}
use lib.ListN.{get_or}
use Rattle.outline.specs.Numbers.{last_month}
use Rattle.weighing.proofs.WeightLaws.{weight-most, products-none, products-more}
use Rattle.weighing.proofs.products.Goals as goal

pub loop-m-init : goal.loop-m-init
loop-m-init c = (sym (products-none c.args.means.now c.args.weights.now.list.now), omega arith)

pub offset_bounds-means-m : goal.offset_bounds-means-m
offset_bounds-means-m c = omega arith

pub bounds-means-m : goal.bounds-means-m
bounds-means-m c = omega arith

pub of_month-requires : goal.of_month-requires
of_month-requires c = omega arith

pub product-sum-requires : goal.product-sum-requires
product-sum-requires c =
    let w : weights_fit c.args.weights.now.list.now last_month ≡ true = search rules in
    omega (arith, c.of_month.ensures, weight-most c.args.weights.now.list.now c.loop-m.m w (omega arith))

pub overflow_add-sum : goal.overflow_add-sum
overflow_add-sum c = let p = c.product-sum.ensures in omega (arith, p.1, c.loop-m.invariant.1)

pub loop-m-preserved : goal.loop-m-preserved
loop-m-preserved c =
    let p = c.product-sum.ensures in
    let means = c.args.means.now in (
      ap₂ ◌+◌ c.loop-m.invariant.0 (p.0 ∙ ap (λ (w : ℕ). get_or means c.loop-m.m 0 * w) c.of_month.ensures) ∙ sym (products-more means c.args.weights.now.list.now c.loop-m.m),
      omega (arith, p.1, c.loop-m.invariant.1),
    )

pub returns : goal.returns
returns c =
    let e : c.loop-m.m ≡ last_month = omega arith in
    rw e at c.loop-m.invariant.0
