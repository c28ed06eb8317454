-- The part of a column from one place up to another, and a column of which a part is rewritten. Assumes nothing.
use mathlib.Core.Path.{◌≡◌, refl, sym, ap, ◌∙◌}
use mathlib.Core.List.{List, [], ◌∷◌, ◌++◌, append_assoc}
use Prim.Native.Nat.{ℕ, suc, ◌+◌, ◌-◌, ◌≤◌, ◌<◌}
use native.Mathlib.Numerals.{add-one}
use native.Mathlib.Omega.{arith}
use lib.ListN.{length, take, drop, set, get_or, length-append, length-drop, take-append-drop}
use lib.Seq.{length-take-le, take-suc, drop-cons, drop-drop, get_or-drop, set_at, take_at, drop_at, take-append-add}
use Rattle.sides.proofs.Rewriting.{part}

module _ {A : Type 0} (l : List A) (from at : ℕ) (h : from ≤ at) where
  -- a part, and what follows it
  pub part-rest : drop from l ≡ part from at l ++ drop at l
  part-rest =
      let e : from + (at - from) ≡ at = omega arith in
      sym (rw (drop-drop (at - from) from l, e) at (take-append-drop (at - from) (drop from l)))

  -- nothing is rewritten
  pub part-kept : l ≡ take from l ++ (part from at l ++ drop at l)
  part-kept = sym (take-append-drop from l) ∙ rw (← part-rest) refl

  pub part_length : at ≤ length l → length (part from at l) ≡ at - from
  part_length k = length-take-le (at - from) (drop from l) (omega (arith, length-drop from l))

  -- one place more
  pub part-more : (d : A) → at < length l → part from (at + 1) l ≡ part from at l ++ (get_or l at d ∷ [])
  part-more d k =
      let e : at + 1 - from ≡ suc (at - from) = omega arith in
      let f : from + (at - from) ≡ at = omega arith in
      rw e (take-suc (drop from l) (at - from) d (omega (arith, length-drop from l)) ∙ rw (get_or-drop from l (at - from) d, f) refl)

-- the column l is l₀ up to `from`, m from there up to `at`, and then `tail`
pub record Column {A : Type 0} (l₀ l m tail : List A) (from at : ℕ) : Type 0 where
  pub low : from ≤ at
  pub within : from ≤ length l₀
  pub long : length m ≡ at - from
  pub is : l ≡ take from l₀ ++ (m ++ tail)

module _ {A : Type 0} {l₀ l m tail : List A} {from at : ℕ} (g : Column l₀ l m tail from at) where
  front_long : length (take from l₀) ≡ from
  front_long = length-take-le from l₀ g.within

  head-long : length (take from l₀ ++ m) ≡ at
  head-long = omega (arith, length-append (take from l₀) m, front_long, g.long, g.low)

  pub column-front : take from l ≡ take from l₀
  column-front = rw g.is (take_at (take from l₀) (m ++ tail) from front_long)

  pub column-part : part from at l ≡ m
  column-part = rw (g.is, drop_at (take from l₀) (m ++ tail) from front_long) (take_at m tail (at - from) g.long)

  pub column-tail : drop at l ≡ tail
  column-tail = rw (g.is, ← append_assoc (take from l₀) m tail) (drop_at (take from l₀ ++ m) tail at head-long)

  -- its first places, and one more if there is one
  pub column-take : take (at + 1) l ≡ take from l₀ ++ (m ++ take 1 tail)
  column-take = rw (g.is, ← append_assoc (take from l₀) m tail, ← head-long) (take-append-add (take from l₀ ++ m) tail 1 ∙ append_assoc (take from l₀) m (take 1 tail))

  -- a store behind the part, where it ends as l₀ does
  pub column-set : (a : A) → tail ≡ drop at l₀ → at < length l₀ → Column l₀ (set l at a) m (a ∷ drop (at + 1) l₀) from at
  column-set a t n =
      record {
        low = g.low;
        within = g.within;
        long = g.long;
        is =
            rw (g.is, t, drop-cons l₀ at a n, add-one at, ← append_assoc (take from l₀) m (get_or l₀ at a ∷ drop (suc at) l₀))
            (set_at (take from l₀ ++ m) (get_or l₀ at a) (drop (suc at) l₀) a at head-long ∙ append_assoc (take from l₀) m (a ∷ drop (suc at) l₀));
      }

-- one place more
pub column-more : {A : Type 0} {l₀ l m tail : List A} {a : A} {from at : ℕ} → Column l₀ l m (a ∷ tail) from at → Column l₀ l (m ++ (a ∷ [])) tail from (at + 1)
column-more {l₀ = l₀} {m = m} {tail = tail} {a = a} {from = from} g =
    record { low = omega (arith, g.low); within = g.within; long = omega (arith, g.low, g.long, length-append m (a ∷ [])); is = g.is ∙ rw (append_assoc m (a ∷ []) tail) refl }

-- a column l whose part is rewritten as m, read up to the place behind it, and then `rest`
pub rewritten : {A : Type 0} (l l' m rest : List A) (from at : ℕ) → from ≤ at → at ≤ length l → length l' ≡ length l → l' ≡ take from l ++ (m ++ drop at l)
    → take (at + 1) l' ++ rest ≡ take from l ++ (m ++ (take 1 (drop at l) ++ rest))
rewritten l l' m rest from at h k s e =
    let f : length m ≡ at - from = omega (arith, length-append (take from l) (m ++ drop at l), length-append m (drop at l), length-take-le from l (omega arith), length-drop at l, ap length e) in
    let c : Column l l' m (drop at l) from at = record { low = h; within = omega arith; long = f; is = e } in
    rw (column-take c) (simp append_assoc)
