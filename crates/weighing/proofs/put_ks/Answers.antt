-- `weighing::put_ks` meets its contract. The loop's invariant: each K passed is in its range and stands at its place. Assumes nothing.
use Rattle.weighing.specs.Weighing.{weights_fit}
use borrow.Author.Rules.{rules}
use mathlib.Core.Bool.{true}
use mathlib.Core.Path.{◌≡◌, ap, ◌∙◌}
use mathlib.Core.Bool.{Bool}
use Prim.Native.Nat.{ℕ}
use native.Mathlib.Nat.{lt_of_le_of_lt}
use native.Mathlib.Omega.{arith}
use borrow.Author.Tests.{le-leb, lt-leb}
use lib.Dec.{leb, lit<}
use mathlib.Core.List.{List}
use lib.IntN.{ℤ, pos}
use mir.Syntax.{w32}
use mir.Facts.{to_z_pos}
use Rattle.outline.specs.Numbers.{last_month}
use Rattle.outline.proofs.Every.{all_none, all_more, all-spoilt}
use Rattle.water.specs.Constants.{most_k}
use Rattle.weighing.specs.Weighing.{weight_at, k_of}
use Rattle.weighing.proofs.WeightLaws.{weight-most}
use Rattle.weighing.proofs.SetLaws.{ks-none, ks-more}
use Rattle.weighing.proofs.put_ks.Goals as goal
use Rattle.weighing.proofs.put_ks.Goals.{After-nearest_unsigned-k}

abbrev test : ℕ → List ℤ → ℕ → Bool
test total weights = λ m. leb (k_of total (weight_at weights m)) most_k

pub loop-m-init : goal.loop-m-init
loop-m-init c = (all_none (test c.args.total c.args.weights.now.list.now), ks-none c.args.total c.args.weights.now.list.now c.args.set.now)

pub of_month-requires : goal.of_month-requires
of_month-requires c = omega arith

pub overflow_mul-of_month : goal.overflow_mul-of_month
overflow_mul-of_month c =
    let w : weights_fit c.args.weights.now.list.now last_month ≡ true = search rules in
    omega (arith, c.of_month.ensures, weight-most c.args.weights.now.list.now c.loop-m.m w (omega arith))

-- the K is the month's
k-is : (c : After-nearest_unsigned-k) → let a = c.args in c.nearest_unsigned-k.result ≡ k_of a.total (weight_at a.weights.now.list.now c.loop-m.m)
unfolding k_of
k-is c = rw c.of_month.ensures at c.nearest_unsigned-k.ensures

pub returns-then-k : goal.returns-then-k
returns-then-k c =
    let e = k-is (goal.at.returns-then-k c).After-nearest_unsigned-k in
    record { value = rw (all-spoilt (test c.args.total c.args.weights.now.list.now) last_month c.loop-m.m (omega arith) (lt-leb _ _ (rw e at c.if-k.true))); set_after = tt }

pub overflow_cast-set : goal.overflow_cast-set
overflow_cast-set c = omega arith

pub overflow_mul-m : goal.overflow_mul-m
overflow_mul-m c = omega arith

pub overflow_add-m : goal.overflow_add-m
overflow_add-m c = omega arith

pub offset_bounds-set-m : goal.offset_bounds-set-m
offset_bounds-set-m c = omega arith

pub bounds-set-m : goal.bounds-set-m
bounds-set-m c = omega arith

pub loop-m-preserved : goal.loop-m-preserved
loop-m-preserved c =
    let a = c.args in
    let e = k-is (goal.at.loop-m-preserved c).After-nearest_unsigned-k in (
      all_more (test c.args.total c.args.weights.now.list.now) c.loop-m.m c.loop-m.invariant.0 (le-leb _ _ (rw e at c.if-k.false)),
      ks-more a.total a.weights.now.list.now a.set.now c.loop-m.m c.loop-m.set _ c.loop-m.invariant.1 (to_z_pos w32 (lt_of_le_of_lt c.if-k.false (lit< tt)) ∙ ap pos e),
    )

pub returns : goal.returns
returns c =
    let e : c.loop-m.m ≡ last_month = omega arith in
    record { value = rw (rw e at c.loop-m.invariant.0); set_after = rw e at c.loop-m.invariant.1 }
