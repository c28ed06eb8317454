-- Going back from the deciding month: the places from j up to `at` are settled, and what stands before j and from `at` on is as it was. Assumes nothing.
use mathlib.Core.Path.{◌≡◌, refl, ap}
use mathlib.Core.List.{List, [], ◌∷◌, ◌++◌}
use Prim.Native.Nat.{ℕ, zero, suc, ◌-◌, ◌≤◌, ◌<◌}
use native.Mathlib.Nat.{not-suc-le-zero, le_of_suc-le-suc}
use native.Mathlib.Omega.{arith}
use lib.IntN.{ℤ}
use lib.ListN.{length, take, drop, set, replicate, length-set}
use Rattle.std.specs.Option.{unwrap_or}
use Rattle.spells.specs.declared.With.{With}
use Rattle.spells.specs.declared.With.TheVariants.{X1, X2, X3}
use Rattle.hindsight.specs.declared.Side.{Side}
use Rattle.hindsight.specs.Rule.{X, nonzero, side_from, settled_index}
use Rattle.hindsight.specs.Adding.{settled_all}
use Rattle.hindsight.specs.Columns.{xs_from}
use Rattle.hindsight.specs.Coded.{told, side_by, value_by}
use Rattle.hindsight.proofs.Alone.{told-side}

-- a store right before what is written already
store : {A : Type 0} (l r : List A) (i : ℕ) (v : A) → i < length l → set (take (suc i) l ++ r) i v ≡ take i l ++ (v ∷ r)
store [] r i v h = absurd (not-suc-le-zero h)
store (x ∷ l) r zero v h = refl
store {A} (x ∷ l) r (suc i) v h = ap (λ (m : List A). x ∷ m) (store l r i v (le_of_suc-le-suc h))

-- the state of the loop at j
pub record Going (f : ℕ → X) (by : With) (index₀ : List ℤ) (mark₀ : List ℕ) (from at : ℕ) (index : List ℤ) (mark : List ℕ) (side : Side) (j : ℕ) : Type 0 where
  pub low : from ≤ j
  pub high : j ≤ at
  pub side_is : side ≡ side_from (xs_from f j (at - j)) (side_by by)
  pub index_is : index ≡ take j index₀ ++ (settled_all by (xs_from f j (at - j)) ++ drop at index₀)
  pub mark_is : mark ≡ take j mark₀ ++ (replicate (at - j) 2 ++ drop at mark₀)
  pub index_long : length index ≡ length index₀
  pub mark_long : length mark ≡ length mark₀

-- what the code picks is the rule's index
valued : (w : With) (m : X) (later : List X) → value_by w (side_from (m ∷ later) (side_by w)) m ≡ settled_index w m later
valued X1 m later = refl
valued X2 m later = refl
valued X3 m later = refl

-- one month further back: i is the place before j
module _ (f : ℕ → X) (by : With) (at i j : ℕ) (e : j ≡ suc i) (h : j ≤ at) where
  one_more : at - i ≡ suc (at - j)
  one_more = omega arith

  months-more : xs_from f i (at - i) ≡ f i ∷ xs_from f j (at - j)
  months-more = rw (one_more, ← e) refl

  pub side-more : (side : Side) → side ≡ side_from (xs_from f j (at - j)) (side_by by)
      → unwrap_or (told (nonzero (f i).x1) (nonzero (f i).x2)) side ≡ side_from (xs_from f i (at - i)) (side_by by)
  side-more side p = rw (months-more, told-side, p)

  pub index-more : (l index : List ℤ) (side : Side) → at ≤ length l → index ≡ take j l ++ (settled_all by (xs_from f j (at - j)) ++ drop at l)
      → side ≡ side_from (xs_from f i (at - i)) (side_by by)
      → set index i (value_by by side (f i)) ≡ take i l ++ (settled_all by (xs_from f i (at - i)) ++ drop at l)
  index-more l index side k p q = rw (q, months-more, p, e, valued by (f i) (xs_from f (suc i) (at - suc i))) (store l (settled_all by (xs_from f (suc i) (at - suc i)) ++ drop at l) i (settled_index by (f i) (xs_from f (suc i) (at - suc i))) (omega arith))

  pub mark-more : (l mark : List ℕ) → at ≤ length l → mark ≡ take j l ++ (replicate (at - j) 2 ++ drop at l)
      → set mark i 2 ≡ take i l ++ (replicate (at - i) 2 ++ drop at l)
  mark-more l mark k p = rw (one_more, p, e) (store l (replicate (at - suc i) 2 ++ drop at l) i 2 (omega arith))

-- one turn of the loop
pub turn : (f : ℕ → X) (by : With) (at i j : ℕ) → j ≡ suc i
    → (from : ℕ) (index₀ : List ℤ) (mark₀ : List ℕ) (index : List ℤ) (mark : List ℕ) (side side' : Side) (value : ℤ)
    → from < j → at ≤ length index₀ → at ≤ length mark₀
    → Going f by index₀ mark₀ from at index mark side j
    → side' ≡ unwrap_or (told (nonzero (f i).x1) (nonzero (f i).x2)) side
    → value ≡ value_by by side' (f i)
    → Going f by index₀ mark₀ from at (set index i value) (set mark i 2) side' i
turn f by at i j e from index₀ mark₀ index mark side side' value l hi hm g t v =
    let q : side' ≡ side_from (xs_from f i (at - i)) (side_by by) = rw t (side-more f by at i j e g.high side g.side_is) in
    record {
      low = omega arith;
      high = omega (arith, g.high);
      side_is = q;
      index_is = rw v (index-more f by at i j e g.high index₀ index side' hi g.index_is q);
      mark_is = mark-more f by at i j e g.high mark₀ mark hm g.mark_is;
      index_long = simp length-set g.index_long;
      mark_long = simp length-set g.mark_long;
    }
