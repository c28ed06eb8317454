-- The modified index by the cases of a month: while a spell abates it is `leaning`, and elsewhere the month's index. Assumes nothing.
use mathlib.Core.Path.{◌≡◌, refl, sym, ap, ◌∙◌}
use mathlib.Core.Bool.{Bool, true, false}
use Prim.Native.Nat.{ℕ, zero, suc}
use native.Mathlib.Omega.{arith}
use borrow.Author.Tests.{le-leb, lt-leb}
use lib.IntN.{ℤ, pos, negsuc, neg_ℤ, nat_abs}
use lib.Signed.{◌≤ℤ◌, ◌<ℤ◌}
use Rattle.exact.specs.Next.{next_of}
use Rattle.exact.proofs.Z.{zs, is-Z}
use Rattle.exact.proofs.Orders.{lt-is, lt_not}
use Rattle.ending.specs.Ending.{Ending, steady, ended, abating, turn, v_of}
use Rattle.spells.specs.declared.Running.{Running}
use Rattle.spells.specs.declared.SpellMonth.{SpellMonth}
use Rattle.spells.specs.Spells.{larger_in_size, provisional, steady_month, abating_values, abating_month, founded, unfounded, tried, no_spell, ending_month, step_of}
use Rattle.spells.proofs.Choices.{provisional-none, provisional-x3}
use Rattle.spell_laws.specs.Cases.{InForce, NoneInForce, ending_in}
use Rattle.spell_laws.specs.Months.{x1_of, x2_of}
use Rattle.spell_laws.proofs.Cases.{by_zero, by-tried, by-month, step-ending}
use Rattle.modified.specs.Modified.{leaning, modified_by, modified_in, modified_of}

-- ---- a month's index, when it is added, is the provisional rule's, whatever it decides
abbrev values : ℤ → ℤ → ℤ → Running
values x1 x2 x3 = record { x1 = x1; x2 = x2; x3 = x3; v = pos 0 }

-- a spell that stands: its X3, be it 0 or not
alone : (x : ℤ) → x ≡ provisional (values (pos 0) (pos 0) x)
unfolding larger_in_size provisional
alone x =
    by_zero x (x ≡ provisional (values (pos 0) (pos 0) x))
    (λ e. e ∙ sym (provisional-none (values (pos 0) (pos 0) x) e))
    (λ n. sym (provisional-x3 (values (pos 0) (pos 0) x) n))

larger-second : (x y : ℤ) → x ≡ pos 0 → larger_in_size x y ≡ y
unfolding larger_in_size
larger-second x y e = rw (e, le-leb 0 (nat_abs y) (omega arith))

larger-first : (x : ℤ) → (x ≡ pos 0 → ⊥) → larger_in_size x (pos 0) ≡ x
unfolding larger_in_size
larger-first (pos zero) n = absurd (n refl)
larger-first (pos (suc k)) n = rw (lt-leb (suc k) 0 (omega arith))
larger-first (negsuc k) n = rw (lt-leb (suc k) 0 (omega arith))

tried-index : (x1 x2 : ℤ) (percent : ℕ) → (tried x1 x2 percent).index ≡ provisional (tried x1 x2 percent).after
unfolding founded unfounded
tried-index x1 x2 percent =
    by-tried x1 x2 percent (λ m. m.index ≡ provisional m.after)
    (λ p. alone x1)
    (λ p q. alone x2)
    (λ p q r. sym (provisional-none (values x1 x2 (pos 0)) refl ∙ larger-second x1 x2 r))
    (λ p q r t. sym (provisional-none (values x1 x2 (pos 0)) refl ∙ ap (larger_in_size x1) t ∙ larger-first x1 r))
    (λ p q r t. sym (provisional-none (values x1 x2 (pos 0)) refl))

pub index-provisional : (s : Running) (z : ℤ) → (step_of s z).index ≡ provisional (step_of s z).after
unfolding ending_month steady_month abating_month no_spell
index-provisional s z = by-month s z (λ m. m.index ≡ provisional m.after) spell (λ h. tried-index (x1_of s z) (x2_of s z) 0)
  where
    spell : (wet : Bool) (e : Ending) → InForce wet s → ending_in wet s z ≡ e → (ending_month e wet s z).index ≡ provisional (ending_month e wet s z).after
    spell wet steady h i = alone (next_of s.x3 z)
    spell wet ended h i = tried-index (x1_of s z) (x2_of s z) 100
    spell wet abating h i = refl

-- ---- which spell is in force
pub modified-force : (wet : Bool) (s : Running) (z : ℤ) → InForce wet s → modified_of s z ≡ modified_in wet s z
unfolding turn modified_of
modified-force false s z h = rw (lt-is s.x3 (negsuc 499) h)
modified-force true s z h = rw (lt_not s.x3 (negsuc 499) (above s.x3 h), lt-is (pos 500) s.x3 (far s.x3 h))
  where
    above : (x : ℤ) → neg_ℤ x <ℤ negsuc 499 → negsuc 499 ≤ℤ x
    above x = rw (is-Z x) (simp zs (omega arith))

    far : (x : ℤ) → neg_ℤ x <ℤ negsuc 499 → pos 500 <ℤ x
    far x = rw (is-Z x) (simp zs (omega arith))

pub modified-none : (s : Running) (z : ℤ) → NoneInForce s → modified_of s z ≡ provisional (step_of s z).after
unfolding modified_of
modified-none s z h = rw (lt_not s.x3 (negsuc 499) h.0, lt_not (pos 500) s.x3 h.1)

-- and what becomes of it
pub modified-ending : (wet : Bool) (s : Running) (z : ℤ) (e : Ending) → InForce wet s → ending_in wet s z ≡ e → modified_of s z ≡ modified_by e wet s (step_of s z).after
unfolding modified_in
modified-ending wet s z e h i = modified-force wet s z h ∙ ap (λ (k : Ending). modified_by k wet s (step_of s z).after) i

-- an abating month
pub abating-month : (wet : Bool) (s : Running) (z : ℤ) → InForce wet s → ending_in wet s z ≡ abating → ((step_of s z).after ≡ abating_values s (turn wet (v_of (turn wet s.v) (turn wet z))) z) × (modified_of s z ≡ leaning wet s (step_of s z).after)
unfolding ending_month abating_month modified_by
abating-month wet s z h i = (ap (λ (m : SpellMonth). m.after) (step-ending wet s z abating h i), modified-ending wet s z abating h i)

-- ---- the month by its V: a spell abates and V is kept, or V is 0 and the modified index is the index
tried-v : (x1 x2 : ℤ) (percent : ℕ) → (tried x1 x2 percent).after.v ≡ pos 0
unfolding founded unfounded
tried-v x1 x2 percent = by-tried x1 x2 percent (λ m. m.after.v ≡ pos 0) (λ p. refl) (λ p q. refl) (λ p q r. refl) (λ p q r t. refl) (λ p q r t. refl)

module _ (s : Running) (z : ℤ) (P : Type 0) where
  pub by-v :
      ((step_of s z).after.v ≡ pos 0 → modified_of s z ≡ (step_of s z).index → P) →
      ((wet : Bool) → InForce wet s → ending_in wet s z ≡ abating → (step_of s z).after ≡ abating_values s (turn wet (v_of (turn wet s.v) (turn wet z))) z → modified_of s z ≡ leaning wet s (step_of s z).after → P) →
      P
  unfolding ending_month steady_month no_spell modified_by
  by-v f g = by-month s z (λ m. m ≡ step_of s z → P) spell (λ h e. f (ap (λ (m : SpellMonth). m.after.v) (sym e) ∙ tried-v (x1_of s z) (x2_of s z) 0) (modified-none s z h ∙ sym (index-provisional s z))) refl
    where
      spell : (wet : Bool) (e : Ending) → InForce wet s → ending_in wet s z ≡ e → ending_month e wet s z ≡ step_of s z → P
      spell wet steady h i k = f (ap (λ (m : SpellMonth). m.after.v) (sym k)) (modified-ending wet s z steady h i ∙ sym (index-provisional s z))
      spell wet ended h i k = f (ap (λ (m : SpellMonth). m.after.v) (sym k) ∙ tried-v (x1_of s z) (x2_of s z) 100) (modified-ending wet s z ended h i ∙ sym (index-provisional s z))
      spell wet abating h i k = g wet h i (abating-month wet s z h i).0 (abating-month wet s z h i).1
