-- What a month is settled at, in a list of Z and in the list turned: on the other side, with the sign changed. The side turns with the month
-- that decides; one that decides with X2 in both lists changes nothing where the side is told before it, or where X1 and X2 are 0 (`Told`).
-- Assumes nothing.
use mathlib.Core.Path.{◌≡◌, refl, sym, ap, ◌∙◌}
use mathlib.Core.Logic.{◌⊎◌, inl, inr}
use mathlib.Core.Bool.{Bool, true, false}
use mathlib.Core.List.{List, [], ◌∷◌, map}
use Prim.Native.Nat.{ℕ, zero, suc}
use native.Mathlib.Omega.{arith}
use lib.IntN.{ℤ, pos, negsuc, neg_ℤ}
use Rattle.spells.specs.declared.Running.{Running}
use Rattle.spells.specs.declared.With.{With}
use Rattle.spells.specs.declared.With.TheVariants.{X1, X2, X3}
use Rattle.spell_laws.specs.Uneven.{mirror_with}
use Rattle.hindsight.specs.declared.Side.{Side}
use Rattle.hindsight.specs.declared.Side.TheVariants.{First, Second}
use Rattle.hindsight.specs.Rule.{X, nonzero, one_of, side_from, value_on, settled_index}
use Rattle.demands.specs.Mirror.{mirror_x}

-- ---- a side and its other
abbrev other : Side → Side
other First = Second
other Second = First

nonzero-neg : (x : ℤ) → nonzero (neg_ℤ x) ≡ nonzero x
nonzero-neg (pos zero) = refl
nonzero-neg (pos (suc n)) = refl
nonzero-neg (negsuc n) = refl

one_of-other : (a b : Bool) (s : Side) → one_of b a (other s) ≡ other (one_of a b s)
one_of-other true true s = refl
one_of-other true false s = refl
one_of-other false true s = refl
one_of-other false false s = refl

side-turned : (l : List X) (s : Side) → side_from (map mirror_x l) (other s) ≡ other (side_from l s)
side-turned [] s = refl
side-turned (m ∷ l) s = rw (nonzero-neg m.x1, nonzero-neg m.x2, side-turned l s) (one_of-other (nonzero m.x1) (nonzero m.x2) (side_from l s))

value-turned : (s : Side) (m : X) → value_on (other s) (mirror_x m) ≡ neg_ℤ (value_on s m)
value-turned First m = refl
value-turned Second m = refl

-- what a month is settled at, by a month that decides with the other
pub settled-turned : (w : With) (m : X) (l : List X) → settled_index (mirror_with w) (mirror_x m) (map mirror_x l) ≡ neg_ℤ (settled_index w m l)
settled-turned X1 m l = ap (λ (t : Side). value_on t (mirror_x m)) (side-turned (m ∷ l) First) ∙ value-turned (side_from (m ∷ l) First) m
settled-turned X2 m l = ap (λ (t : Side). value_on t (mirror_x m)) (side-turned (m ∷ l) Second) ∙ value-turned (side_from (m ∷ l) Second) m
settled-turned X3 m l = refl

-- ---- months before one that decides with X2 in both lists
pub nothing : (x : ℤ) → nonzero x ≡ false → x ≡ pos 0
nothing (pos zero) e = refl
nothing (pos (suc n)) e = absurd (let k : ◌≡◌ {A = ℕ} 0 1 = cc in omega arith)
nothing (negsuc n) e = absurd (let k : ◌≡◌ {A = ℕ} 0 1 = cc in omega arith)

pub some : (x : ℤ) → nonzero x ≡ true → x ≡ pos 0 → ⊥
some x p q = let k : ◌≡◌ {A = ℕ} 0 1 = cc (p, ap nonzero q) in omega arith

-- X1 and X2 of the first of these months, if there is one, are 0
abbrev pub HeadZero : List X → Type 0
HeadZero [] = Unit {0}
HeadZero (m ∷ l) = (m.x1 ≡ pos 0) × (m.x2 ≡ pos 0)

-- X1 and X2 are not both something
abbrev pub NotBoth : Running → Type 0
NotBoth s = (s.x1 ≡ pos 0 → ⊥) → (s.x2 ≡ pos 0 → ⊥) → ⊥

-- the side is told among these months; or the first of them has 0 on both sides, and then the values before it were not both something
abbrev pub Told : Running → List X → Type 0
Told s l = (side_from l First ≡ side_from l Second) ⊎ (HeadZero l × NotBoth s)

zero-value : (t : Side) (m : X) → m.x1 ≡ pos 0 → m.x2 ≡ pos 0 → value_on t m ≡ pos 0
zero-value First m p q = p
zero-value Second m p q = q

pub settled-level : (s : Running) (m : X) (l : List X) → Told s (m ∷ l) → settled_index X2 (mirror_x m) (map mirror_x l) ≡ neg_ℤ (settled_index X2 m l)
settled-level s m l (inl e) =
    ap (λ (t : Side). value_on t (mirror_x m)) (side-turned (m ∷ l) First)
    ∙ value-turned (side_from (m ∷ l) First) m
    ∙ ap (λ (t : Side). neg_ℤ (value_on t m)) e
settled-level s m l (inr (h, f)) =
    zero-value (side_from (mirror_x m ∷ map mirror_x l) Second) (mirror_x m) (ap neg_ℤ h.1) (ap neg_ℤ h.0)
    ∙ sym (ap neg_ℤ (zero-value (side_from (m ∷ l) Second) m h.0 h.1))
