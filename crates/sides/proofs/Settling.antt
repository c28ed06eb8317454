-- Settling a group of open months from its first on. Assumes nothing.
use mathlib.Core.Path.{◌≡◌, refl, ap, ◌∙◌}
use mathlib.Core.Bool.{Bool, true, false}
use mathlib.Core.List.{List, [], ◌∷◌}
use Prim.Native.Nat.{ℕ, zero, suc, ◌+◌, ◌-◌, ◌≤◌, ◌<◌}
use native.Mathlib.Omega.{arith}
use lib.IntN.{ℤ, pos, nat_abs}
use lib.ListN.{length, set, get_or, replicate}
use lib.Seq.{get_or-set_other}
use Rattle.outline.specs.Numbers.{most_x, most_z}
use Rattle.exact.specs.Next.{next_of}
use Rattle.spells.specs.Spells.{raised, lowered}
use Rattle.spells.proofs.Choices.{sides-kept}
use Rattle.std.specs.Prelude.{None, Some}
use Rattle.std.specs.Option.{unwrap_or}
use Rattle.hindsight.specs.declared.Side.{Side}
use Rattle.hindsight.specs.declared.Side.TheVariants.{First, Second}
use Rattle.hindsight.specs.Rule.{X, nonzero, one_of, side_from, value_on, settled_index}
use Rattle.hindsight.specs.Adding.{settled_all}
use Rattle.hindsight.specs.Coded.{told}
use Rattle.sides.specs.Sides.{sides_of, code, codes, side_mark, marked_side, with_side}
use Rattle.sides.proofs.Rewriting.{part, part-cons, part-set, Rewriting, rewriting-next, rewriting-one}

-- ---- the side

-- the first side that the marks hold, else n
abbrev pub first_side : List ℕ → Side → Side
first_side [] n = n
first_side (m ∷ later) n = unwrap_or (marked_side m) (first_side later n)

-- it is the rule's
first-is : (months : List X) (n : Side) → first_side (codes months) n ≡ side_from months n
first-is [] n = refl
first-is (m ∷ later) n = one (nonzero m.x1) (nonzero m.x2) (first-is later n)
  where
    one : (a b : Bool) → first_side (codes later) n ≡ side_from later n → unwrap_or (marked_side (side_mark (told a b))) (first_side (codes later) n) ≡ one_of a b (side_from later n)
    one true true e = e
    one true false e = refl
    one false true e = refl
    one false false e = e

-- what the scan for month i has passed: from i on no mark before `sided` holds a side
abbrev pub Unsided : List ℕ → ℕ → ℕ → Type 0
Unsided mark i sided = (j : ℕ) → j < sided → i ≤ j → marked_side (get_or mark j 0) ≡ None

module _ (mark : List ℕ) (at : ℕ) (n : Side) (long : at ≤ length mark) where
  passed : (sided i k : ℕ) → sided ≡ i + k → sided ≤ at → Unsided mark i sided → first_side (part i at mark) n ≡ first_side (part sided at mark) n
  passed sided i zero e h u = let i-sided : i ≡ sided = omega arith in rw i-sided refl
  passed sided i (suc k) e h u =
      let l : i < at = omega arith in
      rw (part-cons mark i at 0, u i (omega arith) (omega arith)) (passed sided (i + 1) k (omega arith) h (λ j p q. u j p (omega arith)))

  -- the scan is left at a side, or at the end
  pub side-found : (i sided : ℕ) (s : Side) → i ≤ sided → sided < at → Unsided mark i sided → marked_side (get_or mark sided 0) ≡ Some s → s ≡ first_side (part i at mark) n
  side-found i sided s h l u f =
      rw (passed sided i (sided - i) (omega arith) (omega arith) u, part-cons mark sided at 0, f) refl

  pub side-out : (i sided : ℕ) → i ≤ at → at ≤ sided → Unsided mark i sided → n ≡ first_side (part i at mark) n
  side-out i sided h l u =
      let e : at - at ≡ 0 = omega arith in
      rw (passed at i (at - i) (omega arith) (omega arith) (λ j p q. u j (omega arith) q), e) refl

-- ---- the months

-- the value on the side is the rule's
settled_is : (n : Side) (m : X) (later : List X) → value_on (side_from (m ∷ later) n) m ≡ settled_index (with_side n) m later
settled_is First m later = refl
settled_is Second m later = refl

-- the loop over the months, at month i, before which X1 and X2 are a and b
pub record Settling (z index₀ indexes : List ℤ) (mark₀ marks : List ℕ) (at : ℕ) (by : Side) (index : List ℤ) (mark : List ℕ) (a b : ℤ) (sided i : ℕ) : Type 0 where
  pub to : i ≤ at
  pub a_size : nat_abs a ≤ most_x
  pub b_size : nat_abs b ≤ most_x
  pub coded : part i at mark ≡ codes (sides_of a b (part i at z))
  pub unsided : Unsided mark i sided
  pub index_left : Rewriting index₀ indexes at i index (settled_all (with_side by) (sides_of a b (part i at z)))
  pub mark_left : Rewriting mark₀ marks at i mark (replicate (at - i) 2)

module _ {z index₀ indexes : List ℤ} {mark₀ marks : List ℕ} {at : ℕ} {by : Side} {index : List ℤ} {mark : List ℕ} {a b : ℤ} {sided i : ℕ}
    (g : Settling z index₀ indexes mark₀ marks at by index mark a b sided i) where
  pub turn : at ≤ length z → at ≤ length index₀ → at ≤ length mark₀ → i < at → nat_abs (get_or z i (pos 0)) ≤ most_z
      → {a' b' : ℤ} → a' ≡ raised (next_of a (get_or z i (pos 0))) → b' ≡ lowered (next_of b (get_or z i (pos 0)))
      → {sided' : ℕ} {side : Side} → Unsided mark i sided' → side ≡ first_side (part i at mark) by
      → {v : ℤ} → v ≡ value_on side (record { x1 = a'; x2 = b'; x3 = pos 0 })
      → Settling z index₀ indexes mark₀ marks at by (set index i v) (set mark i 2) a' b' sided' (i + 1)
  turn hz hi hm k t {a'} {b'} ea eb u es {v} ev =
      let long : at ≤ length mark = omega (arith, g.mark_left.long) in
      let fit = sides-kept a b (get_or z i (pos 0)) g.a_size g.b_size t in
      let m : X = record { x1 = a'; x2 = b'; x3 = pos 0 } in
      let later = sides_of a' b' (part (i + 1) at z) in
      let months : sides_of a b (part i at z) ≡ m ∷ later = rw (part-cons z i at (pos 0), ea, eb) refl in
      let coded : get_or mark i 0 ∷ part (i + 1) at mark ≡ code m ∷ codes later = rw (part-cons mark i at 0, months) at g.coded in
      let shown : v ≡ settled_index (with_side by) m later = ev ∙ rw (es, g.coded, months, first-is (m ∷ later) by) (settled_is by m later) in
      record {
        to = omega arith;
        a_size = rw ea fit.x1_size;
        b_size = rw eb fit.x2_size;
        coded = rw part-set (cc);
        unsided = λ j p q. ap marked_side (get_or-set_other mark i j 2 0 (λ e. omega arith)) ∙ u j p (omega arith);
        index_left = rewriting-next (omega arith) (rw (months, ← shown) at g.index_left);
        mark_left = rewriting-one 2 k hm g.mark_left;
      }
