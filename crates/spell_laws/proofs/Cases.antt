-- A month by cases: what holds in each case holds of the month. A spell in force is steady, ended or abating; with none, or one just
-- ended, X1 and X2 are tried in five ways. Assumes nothing.
use mathlib.Core.Path.{◌≡◌, refl, sym, ap, ◌∙◌, subst}
use mathlib.Core.Bool.{Bool, true, false}
use Prim.Native.Nat.{ℕ, zero, suc}
use native.Mathlib.Omega.{arith}
use lib.IntN.{ℤ, pos, negsuc, neg_ℤ}
use lib.Signed.{◌≤ℤ◌, ◌<ℤ◌, le_z}
use Rattle.exact.proofs.Z.{zs, is-Z, le_yes, le-no}
use Rattle.spells.specs.declared.Running.{Running}
use Rattle.spells.specs.declared.With.{With}
use Rattle.spells.specs.declared.With.TheVariants.{X1, X2}
use Rattle.spells.specs.declared.SpellMonth.{SpellMonth}
use Rattle.spells.specs.Spells.{larger_in_size, founded, unfounded, tried, no_spell, ending_month, in_force, step_of}
use Rattle.ending.specs.Ending.{Ending, turn}
use Rattle.spell_laws.specs.Cases.{InForce, NoneInForce, ending_in}
use Rattle.spells.proofs.Choices.{tried-first, tried-second, tried-x1, tried-x2, tried_open, step-drought, step-wet, step-none}
use Rattle.std.specs.Prelude.{None, Some}

-- a number is 0, or it is not
pub by_zero : (x : ℤ) (P : Type 0) → (x ≡ pos 0 → P) → ((x ≡ pos 0 → ⊥) → P) → P
by_zero (pos zero) P f g = f refl
by_zero (pos (suc n)) P f g = g (λ e. no n e)
  where
    no : (n : ℕ) → pos (suc n) ≡ pos 0 → ⊥
    no n = simp zs (omega arith)
by_zero (negsuc n) P f g = g (λ e. no n e)
  where
    no : (n : ℕ) → negsuc n ≡ pos 0 → ⊥
    no n = simp zs (omega arith)

-- a month that decides is not one that does not
pub decides-some : (w : With) → Some w ≡ None → ⊥
decides-some w e = let k : ◌≡◌ {A = ℕ} 0 1 = cc in omega arith

-- a number is at most another, or above it
pub by_order : (a b : ℤ) (P : Type 0) → (a ≤ℤ b → P) → (b <ℤ a → P) → P
by_order a b P f g = go (le_z a b) refl
  where
    go : (t : Bool) → le_z a b ≡ t → P
    go true e = f (le_yes a b e)
    go false e = g (le-no a b e)

-- X1 is tried, and then X2
module _ (x1 x2 : ℤ) (percent : ℕ) (P : SpellMonth → Type 0) where
  pub by-tried :
      (pos 1000 ≤ℤ x1 → P (founded x1 (Some X1) percent)) →
      (x1 <ℤ pos 1000 → x2 ≤ℤ neg_ℤ (pos 1000) → P (founded x2 (Some X2) percent)) →
      (x1 <ℤ pos 1000 → neg_ℤ (pos 1000) <ℤ x2 → x1 ≡ pos 0 → P (unfounded x1 x2 (Some X2) x2 percent)) →
      (x1 <ℤ pos 1000 → neg_ℤ (pos 1000) <ℤ x2 → (x1 ≡ pos 0 → ⊥) → x2 ≡ pos 0 → P (unfounded x1 x2 (Some X1) x1 percent)) →
      (x1 <ℤ pos 1000 → neg_ℤ (pos 1000) <ℤ x2 → (x1 ≡ pos 0 → ⊥) → (x2 ≡ pos 0 → ⊥) → P (unfounded x1 x2 None (larger_in_size x1 x2) percent)) →
      P (tried x1 x2 percent)
  by-tried f g h k l =
      by_order (pos 1000) x1 (P (tried x1 x2 percent)) (λ p. subst P (sym (tried-first x1 x2 percent p)) (f p)) (λ p.
      by_order x2 (negsuc 999) (P (tried x1 x2 percent)) (λ q. subst P (sym (tried-second x1 x2 percent p q)) (g p q)) (λ q.
      by_zero x1 (P (tried x1 x2 percent)) (λ r. subst P (sym (tried-x2 x1 x2 percent p q r)) (h p q r)) (λ r.
      by_zero x2 (P (tried x1 x2 percent)) (λ t. subst P (sym (tried-x1 x1 x2 percent p q r t)) (k p q r t)) (λ t.
      subst P (sym (tried_open x1 x2 percent p q r t)) (l p q r t)))))

-- the spell in force is the one that the rules look at
pub step-force : (wet : Bool) (s : Running) (z : ℤ) → InForce wet s → step_of s z ≡ in_force wet s z
unfolding turn
step-force false s z h = step-drought s z h
step-force true s z h = step-wet s z (above s.x3 h) (far s.x3 h)
  where
    above : (x : ℤ) → neg_ℤ x <ℤ negsuc 499 → negsuc 499 ≤ℤ x
    above x = rw (is-Z x) (simp zs (omega arith))

    far : (x : ℤ) → neg_ℤ x <ℤ negsuc 499 → pos 500 <ℤ x
    far x = rw (is-Z x) (simp zs (omega arith))

-- and with what the rules make of it
pub step-ending : (wet : Bool) (s : Running) (z : ℤ) (e : Ending) → InForce wet s → ending_in wet s z ≡ e → step_of s z ≡ ending_month e wet s z
unfolding in_force
step-ending wet s z e h i = step-force wet s z h ∙ ap (λ (k : Ending). ending_month k wet s z) i

-- the whole month
module _ (s : Running) (z : ℤ) (P : SpellMonth → Type 0) where
  pub by-month :
      ((wet : Bool) (e : Ending) → InForce wet s → ending_in wet s z ≡ e → P (ending_month e wet s z)) →
      (NoneInForce s → P (no_spell s z 0)) →
      P (step_of s z)
  unfolding turn
  by-month f g =
      by_order (negsuc 499) s.x3 (P (step_of s z)) (λ p.
      by_order s.x3 (pos 500) (P (step_of s z)) (λ q. subst P (sym (step-none s z p q)) (g (p, q))) (λ q. spell true (wet s.x3 q))) (λ p. spell false p)
    where
      spell : (wet : Bool) → InForce wet s → P (step_of s z)
      spell wet h = subst P (sym (step-ending wet s z (ending_in wet s z) h refl)) (f wet (ending_in wet s z) h refl)

      wet : (x : ℤ) → pos 500 <ℤ x → neg_ℤ x <ℤ negsuc 499
      wet x = rw (is-Z x) (simp zs (omega arith))
