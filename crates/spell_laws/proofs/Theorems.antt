-- The theorems about one month of spells, of the definition `step_of` that the promise of `step` cites: the running values stay a run's, the
-- index stays within 13,000,000, what the percent says, that nothing is founded while a spell stands, and what a month shows by its
-- decision. Each goes by the cases of a month (proofs/Cases.antt), whose parts are in proofs/Parts.antt. Assumes nothing.
use mathlib.Core.Path.{◌≡◌, refl, sym, ◌∙◌, subst}
use mathlib.Core.Logic.{◌⊎◌, inl, inr, ⊎_elim, ◌↔◌}
use mathlib.Core.Bool.{Bool}
use Prim.Native.Nat.{ℕ, ◌+◌, ◌≤◌}
use native.Mathlib.Nat.{le_refl}
use native.Mathlib.Omega.{arith}
use lib.IntN.{ℤ, pos, neg_ℤ, nat_abs, ◌*ℤ◌}
use lib.Signed.{◌≤ℤ◌, ◌<ℤ◌}
use Rattle.exact.specs.Next.{next_of}
use Rattle.outline.specs.Numbers.{most_x, most_z, most_u}
use Rattle.exact.proofs.Z.{zs, is-Z}
use Rattle.spells.specs.declared.Running.{Running}
use Rattle.spells.specs.declared.With.TheVariants.{X1, X2, X3}
use Rattle.spells.specs.declared.SpellMonth.{SpellMonth}
use Rattle.spells.specs.ValuesFit.{FitsWithin, ValuesFit}
use Rattle.ending.specs.Ending.{Ending, steady, ended, abating, turn, v_of, q_of}
use Rattle.ending.specs.Bounds.{most_v}
use Rattle.spells.specs.Spells.{steady_month, abating_values, abating_month, no_spell, ending_month, step_of}
use Rattle.spell_laws.specs.Months.{x1_of, x2_of}
use Rattle.spell_laws.specs.Cases.{InForce, ending_in, SpellIs, spell_is, Shows}
use Rattle.spell_laws.proofs.Cases.{by-month, step-ending}
use Rattle.spell_laws.proofs.Parts.{tried-kept, tried-index, month-sides, spell-kept, spell-index, percent-tells, spell-percent, tried-shows, spell-shows}
use Rattle.spell_laws.proofs.Abates.{abating-x3, abating-v, q-above}
use Rattle.std.specs.Prelude.{Option, None, Some}
use Rattle.spells.specs.declared.With.{With}

-- ---- the promise has one answer

-- any two answers that the promise of `step` allows are the same
pub one-step : (s : Running) (z : ℤ) (m n : SpellMonth) → m ≡ step_of s z → n ≡ step_of s z → m ≡ n
one-step s z m n p q = p ∙ sym q

-- ---- the running values and the index
module _ (s : Running) (z : ℤ) (most : ℕ) (fit : FitsWithin most s) (hz : nat_abs z ≤ most_z) where
  -- after a month the running values are a run's again, and V has grown by at most 4,000,150
  pub values-kept : FitsWithin (most + most_u) (step_of s z).after
  unfolding no_spell
  values-kept =
      by-month s z (λ m. FitsWithin (most + most_u) m.after) (spell-kept s z most fit hz) (λ h. tried-kept (most + most_u) (x1_of s z) (x2_of s z) 0 (month-sides s z most fit hz))

  -- the index, provisional or not, stays within 13,000,000
  pub index-within : nat_abs (step_of s z).index ≤ most_x
  unfolding no_spell
  index-within =
      by-month s z (λ m. nat_abs m.index ≤ most_x) (spell-index s z most fit hz) (λ h. tried-index (x1_of s z) (x2_of s z) 0 (month-sides s z most fit hz))

-- V has the room that it needs, no more
pub fits_in : (k l : ℕ) (s : Running) → FitsWithin k s → nat_abs s.v ≤ l → FitsWithin l s
fits_in k l s f h =
    record {
      x1_size = f.x1_size;
      x2_size = f.x2_size;
      x3_size = f.x3_size;
      v_size = h;
      x1_sign = f.x1_sign;
      x2_sign = f.x2_sign;
      v_above = f.v_above;
      v_below = f.v_below;
    }

-- V grows by at most 4,000,150 a month
pub v-grows : (s : Running) (z : ℤ) → ValuesFit s → nat_abs z ≤ most_z → nat_abs (step_of s z).after.v ≤ nat_abs s.v + most_u
v-grows s z fit hz = (values-kept s z (nat_abs s.v) (fits_in most_v (nat_abs s.v) s fit (le_refl _)) hz).v_size

-- a spell that abates is still in force afterwards
pub abating-stays : (wet : Bool) (s : Running) (z : ℤ) → InForce wet s → ending_in wet s z ≡ abating → InForce wet (step_of s z).after
unfolding ending_month abating_month abating_values
abating-stays wet s z h e =
    subst (λ (m : SpellMonth). InForce wet m.after) (sym (step-ending wet s z abating h e)) (far (turn wet (next_of s.x3 z)) (abating-x3 wet s z e))
  where
    far : (x : ℤ) → x ≤ℤ neg_ℤ (pos 550) → x <ℤ neg_ℤ (pos 500)
    far x = rw (is-Z x) (simp zs (omega arith))

-- ---- the percent
module _ (s : Running) (z : ℤ) where
  -- the percent is at most 100
  pub percent-most : (step_of s z).percent ≤ 100
  percent-most = percent-tells s z (λ p. p ≤ 100) (λ h. omega arith) (λ h. omega arith) (λ h p l k. omega arith) (λ h. omega arith)

  -- it is 1 to 99 exactly while a spell is abating
  pub percent-abating : SpellIs abating s z ↔ ((1 ≤ (step_of s z).percent) × ((step_of s z).percent ≤ 99))
  percent-abating = (
    spell-percent abating s z,
    (λ r.
        percent-tells s z (λ p. 1 ≤ p → p ≤ 99 → SpellIs abating s z) (λ h l k. absurd (no l)) (λ h l k. absurd (big k)) (λ h p l k l' k'. h) (λ h l k. absurd (no l)) r.0 r.1),
  )
    where
      no : 1 ≤ 0 → ⊥
      no l = omega arith

      big : 100 ≤ 99 → ⊥
      big k = omega arith

  -- it is 100 exactly when a spell has ended
  pub percent-ended : SpellIs ended s z ↔ ((step_of s z).percent ≡ 100)
  percent-ended = (
    spell-percent ended s z,
    (λ r.
        percent-tells s z (λ p. p ≡ 100 → SpellIs ended s z) (λ h e. absurd (no 0 e (omega arith))) (λ h e. h) (λ h p l k e. absurd (no p e k)) (λ h e. absurd (no 0 e (omega arith))) r),
  )
    where
      no : (p : ℕ) → p ≡ 100 → p ≤ 99 → ⊥
      no p e k = omega arith

  -- and 0 otherwise
  pub percent-otherwise : (SpellIs abating s z → ⊥) → (SpellIs ended s z → ⊥) → (step_of s z).percent ≡ 0
  percent-otherwise a b = percent-tells s z (λ p. p ≡ 0) (λ h. refl) (λ h. absurd (b h)) (λ h p l k. absurd (a h)) (λ h. refl)

-- while a spell abates V and Q are above 0, and 1000 V below Q: the percent, before it is rounded, is above 0 and below 100
pub percent-apart :
    (wet : Bool) (s : Running) (z : ℤ) →
    ending_in wet s z ≡ abating →
    (pos 0 <ℤ v_of (turn wet s.v) (turn wet z)) × ((pos 1000 *ℤ v_of (turn wet s.v) (turn wet z)) <ℤ q_of (turn wet s.x3) (turn wet s.v))
percent-apart wet s z h = (abating-v wet s z h, q-above (turn wet s.x3) (turn wet s.v) (turn wet z) h)

-- ---- nothing is founded while a spell stands

-- while a spell is in force and has not ended, X3 is next(X3), and the month decides with X3 or not at all: X1 and X2 found no other
pub never-founds :
    (s : Running) (z : ℤ) (wet : Bool) →
    InForce wet s →
    (SpellIs ended s z → ⊥) →
    ((step_of s z).after.x3 ≡ next_of s.x3 z) × (((step_of s z).decision ≡ Some X3) ⊎ ((step_of s z).decision ≡ None))
unfolding ending_month steady_month abating_month abating_values
never-founds s z wet h n = subst Stands (sym (step-ending wet s z (ending_in wet s z) h refl)) (go (ending_in wet s z) refl)
  where
    Stands : SpellMonth → Type 0
    Stands m = (m.after.x3 ≡ next_of s.x3 z) × ((m.decision ≡ Some X3) ⊎ (m.decision ≡ None))

    go : (e : Ending) → ending_in wet s z ≡ e → Stands (ending_month e wet s z)
    go steady i = (refl, inl refl)
    go ended i = absurd (n (spell_is wet h i))
    go abating i = (refl, inr refl)

-- ---- what a month shows by its decision

module _ (s : Running) (z : ℤ) where
  -- the index and the running values, by what the month decides with
  pub decides-own : Shows (step_of s z).decision (step_of s z)
  unfolding no_spell
  decides-own = by-month s z (λ m. Shows m.decision m) (spell-shows s z) (λ h. tried-shows (x1_of s z) (x2_of s z) 0)

  decided : (d : Option With) → (step_of s z).decision ≡ d → Shows d (step_of s z)
  decided d e = subst (λ (d : Option With). Shows d (step_of s z)) e decides-own

  -- a month that decides with X3 has it for its index, and X1 = X2 = 0
  pub decides-x3 : (step_of s z).decision ≡ Some X3 → Shows (Some X3) (step_of s z)
  decides-x3 = decided (Some X3)

  -- with X1: a wet spell is founded, or the index is the month's own X1, not 0, and X2 = 0
  pub decides-x1 : (step_of s z).decision ≡ Some X1 → Shows (Some X1) (step_of s z)
  decides-x1 = decided (Some X1)

  -- with X2: a drought is founded, or the index is the month's own X2, and X1 = 0
  pub decides-x2 : (step_of s z).decision ≡ Some X2 → Shows (Some X2) (step_of s z)
  decides-x2 = decided (Some X2)

  -- with nothing: the index is the provisional one, and either X3 is not 0 or neither X1 nor X2 is
  pub decides-nothing : (step_of s z).decision ≡ None → Shows None (step_of s z)
  decides-nothing = decided None

  -- a month that decides with X1 and founds nothing has its own X1 for its index, which is not 0, and X2 = 0
  pub own-x1 :
      (step_of s z).decision ≡ Some X1 →
      (step_of s z).after.x3 ≡ pos 0 →
      ((step_of s z).index ≡ (step_of s z).after.x1) × ((step_of s z).after.x1 ≡ pos 0 → ⊥) × ((step_of s z).after.x2 ≡ pos 0)
  own-x1 d e = ⊎_elim (λ f. absurd (no (step_of s z).after.x3 f.1 e)) (λ r. (r.0, r.2, r.3)) (decides-x1 d)
    where
      no : (x : ℤ) → pos 1000 ≤ℤ x → x ≡ pos 0 → ⊥
      no x = rw (is-Z x) (simp zs (omega arith))

  -- one that decides with X2 and founds nothing has its own X2 for its index, and X1 = 0
  pub own-x2 :
      (step_of s z).decision ≡ Some X2 →
      (step_of s z).after.x3 ≡ pos 0 →
      ((step_of s z).index ≡ (step_of s z).after.x2) × ((step_of s z).after.x1 ≡ pos 0)
  own-x2 d e = ⊎_elim (λ f. absurd (no (step_of s z).after.x3 f.1 e)) (λ r. (r.0, r.2)) (decides-x2 d)
    where
      no : (x : ℤ) → x ≤ℤ neg_ℤ (pos 1000) → x ≡ pos 0 → ⊥
      no x = rw (is-Z x) (simp zs (omega arith))
