-- Going back from the month at place m: the months from j up to m are open again, and what stands before j and from m on is as it was. Assumes nothing.
use mathlib.Core.Path.{◌≡◌, refl, sym, ap, ◌∙◌}
use mathlib.Core.Bool.{true, false}
use mathlib.Core.List.{List, [], ◌∷◌, ◌++◌}
use Prim.Native.Nat.{ℕ, zero, suc, ◌+◌, ◌-◌, ◌≤◌, ◌<◌}
use native.Mathlib.Nat.{not-suc-le-zero, le_of_suc-le-suc}
use native.Mathlib.Omega.{arith}
use lib.IntN.{ℤ}
use lib.ListN.{length, take, drop, set, replicate, take-append-drop, length-set}
use Rattle.spells.specs.Spells.{provisional}
use Rattle.refusals.specs.Book.{Book, book, values_at}
use Rattle.reopening.specs.Before.{decided, opens_before, shown_from, reopened}

-- a store right before what is written already
store : {A : Type 0} (l r : List A) (i : ℕ) (v : A) → i < length l → set (take (suc i) l ++ r) i v ≡ take i l ++ (v ∷ r)
store [] r i v h = absurd (not-suc-le-zero h)
store (x ∷ l) r zero v h = refl
store {A} (x ∷ l) r (suc i) v h = ap (λ (m : List A). x ∷ m) (store l r i v (le_of_suc-le-suc h))

-- a store keeps the length
pub kept : {A : Type 0} (l : List A) (i : ℕ) (v : A) {k : ℕ} → length l ≡ k → length (set l i v) ≡ k
kept l i v h = length-set l i v ∙ h

-- index and mark at place j of the way back
pub record Going (cs : Book) (m : ℕ) (index : List ℤ) (mark : List ℕ) (j : ℕ) : Type 0 where
  pub opens_is : opens_before cs m ≡ (m - j) + opens_before cs j
  pub index_is : index ≡ take j cs.index ++ (shown_from cs j (m - j) ++ drop m cs.index)
  pub mark_is : mark ≡ take j cs.mark ++ (replicate (m - j) 1 ++ drop m cs.mark)

-- at the start nothing is written
pub at_first : (cs : Book) (m : ℕ) → Going cs m cs.index cs.mark m
unfolding shown_from
at_first cs m =
    let e : m - m ≡ 0 = omega arith in
    record {
      opens_is = omega arith;
      index_is = rw e (sym (take-append-drop m cs.index));
      mark_is = rw e (sym (take-append-drop m cs.mark));
    }

-- one month further back: i is the place before j, and its month did not decide
module _ (cs : Book) (m i j : ℕ) (e : j ≡ suc i) (h : j ≤ m) (d : decided (values_at cs i) ≡ false) where
  one_more : m - i ≡ suc (m - j)
  one_more = omega arith

  opens-more : opens_before cs j ≡ suc (opens_before cs i)
  unfolding opens_before
  opens-more = rw (e, d)

  shown-more : shown_from cs i (m - i) ≡ provisional (values_at cs i) ∷ shown_from cs j (m - j)
  unfolding shown_from
  shown-more = rw (one_more, ← e) refl

  pub turn : (index : List ℤ) (mark : List ℕ) (shown : ℤ) → m ≤ length cs.index → m ≤ length cs.mark → shown ≡ provisional (values_at cs i)
      → Going cs m index mark j → Going cs m (set index i shown) (set mark i 1) i
  turn index mark shown hi hm v g =
      record {
        opens_is = omega (arith, opens-more, g.opens_is, one_more);
        index_is = rw (g.index_is, v, shown-more, e) (store cs.index (shown_from cs (suc i) (m - suc i) ++ drop m cs.index) i (provisional (values_at cs i)) (omega arith));
        mark_is = rw (g.mark_is, one_more, e) (store cs.mark (replicate (m - suc i) 1 ++ drop m cs.mark) i 1 (omega arith));
      }

-- a month that decided has no open months up to it
pub none_open : (cs : Book) (j : ℕ) → 0 < j → decided (values_at cs (j - 1)) ≡ true → opens_before cs j ≡ 0
unfolding opens_before
none_open cs zero h d = absurd (not-suc-le-zero h)
none_open cs (suc i) h d = let e : suc i - 1 ≡ i = omega arith in rw (rw e at d)

-- nor has the first month
pub first : (cs : Book) (j : ℕ) → j ≤ 0 → opens_before cs j ≡ 0
unfolding opens_before
first cs j h = let e : j ≡ 0 = omega arith in rw e

-- where no month before j is open, all is as it was before the month at place m
module _ (cs : Book) (m j : ℕ) (h : j ≤ m) (z : opens_before cs j ≡ 0) (index : List ℤ) (mark : List ℕ) (g : Going cs m index mark j) where
  pub stopped : m - j ≡ opens_before cs m
  stopped = omega (arith, g.opens_is)

  pub whole : j ≤ 0 → m ≡ opens_before cs m
  whole l = omega (arith, g.opens_is)

  pub opened : book cs.x1 cs.x2 cs.x3 index mark cs.records cs.v ≡ reopened cs m
  opened = let e : m - (m - j) ≡ j = omega arith in rw (← stopped, e, g.index_is, g.mark_is) refl
