-- A column that is rewritten from a place on. Assumes nothing.
use mathlib.Core.Path.{◌≡◌, refl, sym, ap, ◌∙◌}
use mathlib.Core.List.{List, [], ◌∷◌, ◌++◌, append_assoc}
use Prim.Native.Nat.{ℕ, suc, ◌+◌, ◌-◌, ◌≤◌, ◌<◌}
use native.Mathlib.Numerals.{add-one}
use native.Mathlib.Omega.{arith}
use lib.ListN.{length, take, drop, set, get_or, replicate, take-append-drop, length-set}
use lib.Seq.{drop-cons, take-suc-set, drop-set-lt, drop-drop}

-- what stands in a list from i up to `to`
abbrev pub part : {A : Type 0} → ℕ → ℕ → List A → List A
part i to l = take (to - i) (drop i l)

pub part-cons : {A : Type 0} (l : List A) (i to : ℕ) (d : A) → i < to → to ≤ length l → part i to l ≡ get_or l i d ∷ part (i + 1) to l
part-cons l i to d h k =
    let m : i < length l = omega arith in
    let e : to - i ≡ suc (to - (i + 1)) = omega arith in
    rw (e, add-one, drop-cons l i d) refl

pub part-set : {A : Type 0} (l : List A) (i to : ℕ) (v : A) → part (i + 1) to (set l i v) ≡ part (i + 1) to l
part-set l i to v = rw (drop-set-lt (i + 1) l i v (omega arith)) refl

-- a list was l₀, is l and becomes `whole`: the places before i are done, `left` is to stand from i up to `to`, and no place from i on is written
pub record Rewriting {A : Type 0} (l₀ whole : List A) (to i : ℕ) (l left : List A) : Type 0 where
  pub whole_is : take i l ++ (left ++ drop to l₀) ≡ whole
  pub rest : drop i l ≡ drop i l₀
  pub long : length l ≡ length l₀

module _ {A : Type 0} {l₀ whole l : List A} {to i : ℕ} where
  pub rewriting-next : {v : A} {left : List A} → i < length l₀ → Rewriting l₀ whole to i l (v ∷ left) → Rewriting l₀ whole to (i + 1) (set l i v) left
  rewriting-next {v} h g =
      let k : i < length l = omega (arith, g.long) in
      record {
        whole_is = rw (add-one, take-suc-set l i v, append_assoc) g.whole_is;
        rest = drop-set-lt (i + 1) l i v (omega arith) ∙ (simp drop-drop at (ap (drop 1) g.rest));
        long = simp length-set g.long;
      }

  -- one value at all the places
  pub rewriting-one : (v : A) → i < to → to ≤ length l₀ → Rewriting l₀ whole to i l (replicate (to - i) v) → Rewriting l₀ whole to (i + 1) (set l i v) (replicate (to - (i + 1)) v)
  rewriting-one v h k g = let e : to - i ≡ suc (to - (i + 1)) = omega arith in rewriting-next (omega arith) (rw e at g)

  pub rewriting-all : {left : List A} → Rewriting l₀ whole to i l left → i ≡ to → left ≡ [] → l ≡ whole
  rewriting-all g e n = sym (take-append-drop to l) ∙ (rw (← e, g.rest, e) (rw (e, n) at g.whole_is))
