-- `weighing::put_shares` meets its contract. The loop's invariant: each gamma passed is in its range, and each month's four constants and D stand at
-- their places. Assumes nothing.
use mathlib.Core.Path.{◌≡◌, ap, ◌∙◌}
use mathlib.Core.Bool.{Bool}
use Prim.Native.Nat.{ℕ, ◌≤◌, ◌<◌}
use native.Mathlib.Omega.{arith}
use borrow.Author.Tests.{le-leb, lt-leb}
use mathlib.Core.List.{List}
use lib.Dec.{leb}
use lib.IntN.{ℤ}
use Rattle.water.specs.declared.Constants.{Constants}
use Rattle.outline.specs.Numbers.{last_month}
use Rattle.outline.proofs.Every.{all_none, all_more, all-spoilt}
use Rattle.water.specs.Constants.{most_gamma}
use Rattle.water.specs.Bounds.{ConstantsFit}
use Rattle.sums.specs.Sums.{gamma_of, shares_of}
use Rattle.weighing.specs.Weighing.{Span, span, sums_in, shares_in, departure_in}
use Rattle.weighing.specs.Stores.{Years}
use Rattle.weighing.proofs.SetLaws.{sums-room, in-range, fours-none, fours-more, means-none, means-more}
use Rattle.weighing.proofs.put_shares.Goals as goal
use Rattle.weighing.proofs.put_shares.Goals.{After-gamma_of, Else-gamma_of, After-shares_of-k, After-mean_of-d}

-- the test of a month's gamma
abbrev test : Span → ℕ → Bool
test s = λ m. leb (gamma_of (sums_in s m)) most_gamma

pub loop-m-init : goal.loop-m-init
loop-m-init c =
    let a = c.args in
    let s = span a.capacity a.records.now a.first a.years in
    (all_none (test s), fours-none (shares_in s) a.set.now, means-none (departure_in s) a.means.now)

pub overflow_add-month : goal.overflow_add-month
overflow_add-month c = omega (arith, c.requires.0)

pub invariant_of-month : goal.invariant_of-month
invariant_of-month c = record { watered = c.requires.1 c.loop-m.m (omega arith) }

gamma-is : (c : After-gamma_of) → let a = c.args in c.gamma_of.result ≡ gamma_of (sums_in (span a.capacity a.records.now a.first a.years) c.loop-m.m)
unfolding sums_in
gamma-is c = c.gamma_of.ensures ∙ ap gamma_of c.sums_of-s.ensures

pub returns-then-gamma_of : goal.returns-then-gamma_of
returns-then-gamma_of c =
    let a = c.args in
    let e = gamma-is (goal.at.returns-then-gamma_of c).After-gamma_of in
    record {
      value = rw (all-spoilt (test (span a.capacity a.records.now a.first a.years)) last_month c.loop-m.m (omega arith) (lt-leb _ _ (rw e at c.if-gamma_of.true)));
      set_after = tt;
      means_after = tt;
    }

gamma-most : (c : Else-gamma_of) → let a = c.args in gamma_of (sums_in (span a.capacity a.records.now a.first a.years) c.loop-m.m) ≤ most_gamma
unfolding sums_in
gamma-most c =
    let e = c.gamma_of.ensures ∙ ap gamma_of c.sums_of-s.ensures in
    rw e at c.if-gamma_of.false

pub shares_of-k-requires : goal.shares_of-k-requires
unfolding sums_in
shares_of-k-requires c =
    let a = c.args in
    let s = span a.capacity a.records.now a.first a.years in
    record {
      sums_fit = rw c.sums_of-s.ensures (sums-room s c.requires.1 c.loop-m.m c.loop-m-test.true);
      s_bound = rw c.sums_of-s.ensures (gamma-most (goal.at.shares_of-k-requires c).Else-gamma_of);
    }

shares-are : (c : After-shares_of-k) → let a = c.args in c.shares_of-k.result ≡ shares_in (span a.capacity a.records.now a.first a.years) c.loop-m.m
unfolding shares_in sums_in
shares-are c = c.shares_of-k.ensures ∙ ap shares_of c.sums_of-s.ensures

-- the four are in their ranges, where the gamma is
shares-in-range : (capacity : ℕ) (records : List (List ℤ)) (first years m : ℕ) (k : Constants) → let s = span capacity records first years in
    Years capacity records first years → m < last_month → gamma_of (sums_in s m) ≤ most_gamma → k ≡ shares_in s m → ConstantsFit k
shares-in-range capacity records first years m k y h g e = rw e (in-range (span capacity records first years) y m h g)

pub mean_of-d-requires : goal.mean_of-d-requires
mean_of-d-requires c =
    let a = c.args in
    let at = goal.at.mean_of-d-requires c in
    shares-in-range a.capacity a.records.now a.first a.years c.loop-m.m c.shares_of-k.result c.requires.1 c.loop-m-test.true (gamma-most at.Else-gamma_of) (shares-are at.After-shares_of-k)

mean-is : (c : After-mean_of-d) → let a = c.args in c.mean_of-d.result ≡ departure_in (span a.capacity a.records.now a.first a.years) c.loop-m.m
unfolding departure_in shares_in sums_in
mean-is c =
    let e = c.shares_of-k.ensures ∙ ap shares_of c.sums_of-s.ensures in
    rw e at c.mean_of-d.ensures

pub bounds-means-m : goal.bounds-means-m
bounds-means-m c = omega arith

pub overflow_mul-m : goal.overflow_mul-m
overflow_mul-m c = omega arith

pub put_four-requires : goal.put_four-requires
put_four-requires c =
    let a = c.args in
    let at = goal.at.put_four-requires c in
    (omega arith, shares-in-range a.capacity a.records.now a.first a.years c.loop-m.m c.shares_of-k.result c.requires.1 c.loop-m-test.true (gamma-most at.Else-gamma_of) (shares-are at.After-shares_of-k))

pub loop-m-preserved : goal.loop-m-preserved
loop-m-preserved c =
    let a = c.args in
    let s = span a.capacity a.records.now a.first a.years in
    let at = goal.at.loop-m-preserved c in
    let i = c.loop-m.invariant in (
      all_more (test s) c.loop-m.m i.0 (le-leb _ _ (gamma-most at.Else-gamma_of)),
      c.put_four.ensures ∙ fours-more (shares_in s) a.set.now c.loop-m.m c.loop-m.set c.shares_of-k.result i.1 (shares-are at.After-shares_of-k),
      means-more (departure_in s) a.means.now c.loop-m.m c.loop-m.means c.mean_of-d.result i.2 (mean-is at.After-mean_of-d),
    )

pub returns : goal.returns
returns c =
    let i = c.loop-m.invariant in
    let e : c.loop-m.m ≡ last_month = omega arith in
    record { value = rw (rw e at i.0); set_after = rw e at i.1; means_after = rw e at i.2 }
