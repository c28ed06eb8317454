-- The theorems about the whole series: its promise allows one outcome, a refusal writes nothing lent, what is filled is what adding the
-- months singly fills, and it is done exactly when the lists fit and each Z does, as facts. They are of `whole_series`, which the promise of
-- `whole_series` cites, and go by its refusal's number. Assumes nothing.
use mathlib.Core.Path.{◌≡◌, refl, sym, ap, ◌∙◌}
use mathlib.Core.Bool.{Bool, true, false, ◌&&◌, cond}
use mathlib.Core.Logic.{◌↔◌}
use mathlib.Core.List.{List}
use Prim.Native.Nat.{ℕ, zero, suc, ◌≤◌}
use native.Mathlib.Omega.{arith}
use lib.IntN.{ℤ}
use lib.ListN.{length}
use lib.Dec.{eqb, leb}
use borrow.Author.Tests.{eqb-true, eq-eqb, leb-true, le-leb}
use Rattle.outline.specs.Numbers.{most_months, length_fits}
use Rattle.outline.specs.Refusals.{unless_refused}
use Rattle.hindsight.specs.Rule.{forward_indexes, forward_marks}
use Rattle.hindsight.specs.Adding.{add_all}
use Rattle.hindsight.specs.Months.{rows_of_z}
use Rattle.hindsight_laws.proofs.Adds.{series-is-adding}
use Rattle.series.specs.Series.{all_z_fit, lists_fit, series_refusal, Filled, filled, whole_series}
use Rattle.sides.specs.Sides.{EachFits}
use Rattle.series.proofs.EachZ.{each_fits, all_fit}
use Rattle.outline.proofs.Tests.{each}

-- ---- the promise has one outcome

-- any two outcomes that the promise of `whole_series` allows are the same: the number, and every place of both lists
pub one-series : (z index : List ℤ) (mark : List ℕ) (r s : ℕ) (i j : List ℤ) (m n : List ℕ)
    → filled r i m ≡ whole_series z index mark → filled s j n ≡ whole_series z index mark → (r ≡ s) × ((i ≡ j) × (m ≡ n))
one-series z index mark r s i j m n p q =
    let e : filled r i m ≡ filled s j n = p ∙ sym q in
    (ap (λ (f : Filled). f.number) e, (ap (λ (f : Filled). f.index) e, ap (λ (f : Filled). f.mark) e))

-- ---- what the lists then hold

-- a refusal, and nothing written
pub refused-is : (z index : List ℤ) (mark : List ℕ) (k : ℕ) → k ≡ series_refusal z (length index) (length mark) → (k ≡ 0 → ⊥)
    → filled k index mark ≡ whole_series z index mark
unfolding whole_series
refused-is z index mark zero e f = absurd (f refl)
refused-is z index mark (suc k) e f = rw (sym e) refl

-- no refusal, and both lists filled
pub filled_is : (z index : List ℤ) (mark : List ℕ) (k : ℕ) (i : List ℤ) (m : List ℕ) → k ≡ series_refusal z (length index) (length mark) → k ≡ 0
    → i ≡ forward_indexes (rows_of_z z) → m ≡ forward_marks (rows_of_z z) → filled 0 i m ≡ whole_series z index mark
unfolding whole_series
filled_is z index mark k i m e f p q = rw (sym e ∙ f, p, q) refl

-- an outcome that the promise allows
module _ (z index : List ℤ) (mark : List ℕ) (r : ℕ) (i : List ℤ) (m : List ℕ) (p : filled r i m ≡ whole_series z index mark) where
  -- its number is that of the refusals in their order
  pub number-of : r ≡ series_refusal z (length index) (length mark)
  unfolding whole_series
  number-of = ap (λ (f : Filled). f.number) p ∙ of (series_refusal z (length index) (length mark))
    where
      of : (k : ℕ) → (unless_refused k (filled 0 (forward_indexes (rows_of_z z)) (forward_marks (rows_of_z z))) (filled k index mark)).number ≡ k
      of zero = refl
      of (suc k) = refl

  -- a refusal leaves both lists as they were
  pub refused-writes-nothing : (r ≡ 0 → ⊥) → (i ≡ index) × (m ≡ mark)
  refused-writes-nothing f = (one-series z index mark r r i index m mark p (refused-is z index mark r number-of f)).1

  -- and where nothing is refused both are the forward rule's over the rows of the Z
  pub done-fills : r ≡ 0 → (i ≡ forward_indexes (rows_of_z z)) × (m ≡ forward_marks (rows_of_z z))
  done-fills f = (one-series z index mark r 0 i (forward_indexes (rows_of_z z)) m (forward_marks (rows_of_z z)) p (filled_is z index mark r _ _ number-of f refl refl)).1

  -- which is what adding the months singly to a fresh run's columns fills
  pub done-as-added : r ≡ 0 → (i ≡ (add_all (rows_of_z z)).index) × (m ≡ (add_all (rows_of_z z)).mark)
  done-as-added f = let e = series-is-adding (rows_of_z z) in ((done-fills f).0 ∙ e.0, (done-fills f).1 ∙ e.1)

-- ---- 0 "given exactly when", as the code's proof takes it

-- the three lists are of one length, from 1 to the limit
pub record ListsFit (z index mark : ℕ) : Type 0 where
  pub index_long : index ≡ z
  pub mark_long : mark ≡ z
  pub some : 1 ≤ z
  pub within : z ≤ most_months

lists-true : (z index mark : ℕ) → lists_fit z index mark ≡ true → ListsFit z index mark
unfolding lists_fit length_fits
lists-true z index mark e =
    let p = each (eqb index z && eqb mark z) (leb 1 z && leb z most_months) e in
    let q = each (eqb index z) (eqb mark z) p.0 in
    let l = each (leb 1 z) (leb z most_months) p.1 in
    record {
      index_long = eqb-true index z q.0;
      mark_long = eqb-true mark z q.1;
      some = leb-true 1 z l.0;
      within = leb-true z most_months l.1;
    }

true-lists : (z index mark : ℕ) → ListsFit z index mark → lists_fit z index mark ≡ true
unfolding lists_fit length_fits
true-lists z index mark f =
    simp (eq-eqb index z f.index_long, eq-eqb mark z f.mark_long, le-leb 1 z f.some, le-leb z most_months f.within)

at-0 : (a b : Bool) → ◌≡◌ {A = ℕ} (cond a (cond b 0 12) 1) 0 → (a ≡ true) × (b ≡ true)
at-0 true true e = (refl, refl)
at-0 true false e = absurd (omega arith)
at-0 false b e = absurd (omega arith)

module _ (z : List ℤ) (index mark : ℕ) where
  -- 0: "done"
  pub done-exactly : (series_refusal z index mark ≡ 0) ↔ (ListsFit (length z) index mark × EachFits z)
  unfolding series_refusal
  done-exactly = (
    λ e. let p = at-0 (lists_fit (length z) index mark) (all_z_fit z) e in (lists-true (length z) index mark p.0, each_fits z p.1),
    λ f. rw (true-lists (length z) index mark f.0, all_fit z f.1) refl,
  )
