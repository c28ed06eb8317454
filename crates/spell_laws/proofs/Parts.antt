-- The parts of the theorems: what holds in each case of a month, a steady, ended or abating spell, and X1 and X2 tried.
-- Assumes nothing.
use mathlib.Core.Path.{◌≡◌, refl, sym, subst}
use mathlib.Core.Logic.{inl, inr}
use mathlib.Core.Bool.{Bool}
use Prim.Native.Nat.{ℕ, ◌+◌, ◌≤◌}
use native.Mathlib.Omega.{arith}
use lib.IntN.{ℤ, pos, nat_abs}
use Rattle.exact.specs.Next.{next_of}
use Rattle.outline.specs.Numbers.{most_x, most_z, most_u}
use Rattle.exact.proofs.NextLaws.{next-within}
use Rattle.spells.specs.declared.Running.{Running}
use Rattle.spells.specs.declared.SpellMonth.{SpellMonth}
use Rattle.spells.specs.ValuesFit.{SidesFit, FitsWithin}
use Rattle.spells.specs.Spells.{provisional, steady_month, abating_values, abating_month, founded, unfounded, tried, no_spell, ending_month, step_of}
use Rattle.ending.specs.Ending.{Ending, steady, ended, abating, turn, v_of, percent_of}
use Rattle.spell_laws.specs.Months.{x1_of, x2_of}
use Rattle.spell_laws.specs.Cases.{InForce, NoneInForce, ending_in, SpellIs, spell_is, Shows}
use Rattle.spells.proofs.Choices.{sides-kept, larger-within, provisional-x3}
use Rattle.ending.proofs.Rooms.{turn-size}
use Rattle.spell_laws.proofs.Cases.{by-tried, by-month, step-ending}
use Rattle.spell_laws.proofs.Abates.{abating-x3, abating-v, abating-some, signs, v-room}

-- ---- the running values and the index
module _ (most : ℕ) where
  pub alone : (x : ℤ) → nat_abs x ≤ most_x → FitsWithin most (record { x1 = pos 0; x2 = pos 0; x3 = x; v = pos 0 })
  alone x h =
      record {
        x1_size = omega arith;
        x2_size = omega arith;
        x3_size = h;
        v_size = omega arith;
        x1_sign = record { le = tt };
        x2_sign = record { le = tt };
        v_above = λ k. absurd k.lt;
        v_below = λ k. absurd k.lt;
      }

  sides : (x1 x2 : ℤ) → SidesFit x1 x2 → FitsWithin most (record { x1 = x1; x2 = x2; x3 = pos 0; v = pos 0 })
  sides x1 x2 f =
      record {
        x1_size = f.x1_size;
        x2_size = f.x2_size;
        x3_size = omega arith;
        v_size = omega arith;
        x1_sign = f.x1_sign;
        x2_sign = f.x2_sign;
        v_above = λ k. absurd k.lt;
        v_below = λ k. absurd k.lt;
      }

  pub tried-kept : (x1 x2 : ℤ) (percent : ℕ) → SidesFit x1 x2 → FitsWithin most (tried x1 x2 percent).after
  unfolding founded unfounded
  tried-kept x1 x2 percent f =
      by-tried x1 x2 percent (λ m. FitsWithin most m.after)
      (λ p. alone x1 f.x1_size)
      (λ p q. alone x2 f.x2_size)
      (λ p q r. sides x1 x2 f)
      (λ p q r t. sides x1 x2 f)
      (λ p q r t. sides x1 x2 f)

pub tried-index : (x1 x2 : ℤ) (percent : ℕ) → SidesFit x1 x2 → nat_abs (tried x1 x2 percent).index ≤ most_x
unfolding founded unfounded
tried-index x1 x2 percent f =
    by-tried x1 x2 percent (λ m. nat_abs m.index ≤ most_x)
    (λ p. f.x1_size)
    (λ p q. f.x2_size)
    (λ p q r. f.x2_size)
    (λ p q r t. f.x1_size)
    (λ p q r t. larger-within x1 x2 most_x f.x1_size f.x2_size)

module _ (s : Running) (z : ℤ) (most : ℕ) (fit : FitsWithin most s) (hz : nat_abs z ≤ most_z) where
  pub month-sides : SidesFit (x1_of s z) (x2_of s z)
  month-sides = sides-kept s.x1 s.x2 z fit.x1_size fit.x2_size hz

  pub month-x3 : nat_abs (next_of s.x3 z) ≤ most_x
  month-x3 = next-within s.x3 z fit.x3_size hz

  pub spell-kept : (wet : Bool) (e : Ending) → InForce wet s → ending_in wet s z ≡ e → FitsWithin (most + most_u) (ending_month e wet s z).after
  unfolding ending_month steady_month abating_month abating_values no_spell
  spell-kept wet steady h i = alone (most + most_u) (next_of s.x3 z) month-x3
  spell-kept wet ended h i = tried-kept (most + most_u) (x1_of s z) (x2_of s z) 100 month-sides
  spell-kept wet abating h i =
      let w = v_of (turn wet s.v) (turn wet z) in
      let k = signs wet w (next_of s.x3 z) (abating-v wet s z i) (abating-x3 wet s z i) in
      record {
        x1_size = month-sides.x1_size;
        x2_size = month-sides.x2_size;
        x3_size = month-x3;
        v_size = turn-size wet w (most + most_u) (v-room (turn wet s.v) (turn wet z) most (turn-size wet s.v most fit.v_size) (turn-size wet z most_z hz));
        x1_sign = month-sides.x1_sign;
        x2_sign = month-sides.x2_sign;
        v_above = k.0;
        v_below = k.1;
      }

  pub spell-index : (wet : Bool) (e : Ending) → InForce wet s → ending_in wet s z ≡ e → nat_abs (ending_month e wet s z).index ≤ most_x
  unfolding ending_month steady_month abating_month abating_values no_spell
  spell-index wet steady h i = month-x3
  spell-index wet ended h i = tried-index (x1_of s z) (x2_of s z) 100 month-sides
  spell-index wet abating h i = rw (provisional-x3 (abating_values s (turn wet (v_of (turn wet s.v) (turn wet z))) z) (abating-some wet s z i)) month-x3

-- ---- the percent
percent-holds : (v q : ℤ) → (1 ≤ percent_of v q) × (percent_of v q ≤ 99)
unfolding percent_of
percent-holds v q = omega arith

pub tried-percent : (x1 x2 : ℤ) (percent : ℕ) → (tried x1 x2 percent).percent ≡ percent
unfolding founded unfounded
tried-percent x1 x2 percent =
    by-tried x1 x2 percent (λ m. m.percent ≡ percent) (λ p. refl) (λ p q. refl) (λ p q r. refl) (λ p q r t. refl) (λ p q r t. refl)

-- what the percent of each case is
abbrev pub Percent : Ending → ℕ → Type 0
Percent steady p = p ≡ 0
Percent ended p = p ≡ 100
Percent abating p = (1 ≤ p) × (p ≤ 99)

pub ending-percent : (wet : Bool) (e : Ending) (s : Running) (z : ℤ) → Percent e (ending_month e wet s z).percent
unfolding ending_month steady_month abating_month no_spell
ending-percent wet steady s z = refl
ending-percent wet ended s z = tried-percent (x1_of s z) (x2_of s z) 100
ending-percent wet abating s z = percent-holds _ _

pub spell-percent : (e : Ending) (s : Running) (z : ℤ) → SpellIs e s z → Percent e (step_of s z).percent
spell-percent e s z (spell_is wet h i) = subst (λ (m : SpellMonth). Percent e m.percent) (sym (step-ending wet s z e h i)) (ending-percent wet e s z)

pub none-percent : (s : Running) (z : ℤ) → (no_spell s z 0).percent ≡ 0
unfolding no_spell
none-percent s z = tried-percent (x1_of s z) (x2_of s z) 0

-- from the percent back to the case
pub percent-tells : (s : Running) (z : ℤ) (P : ℕ → Type 0) → (SpellIs steady s z → P 0) → (SpellIs ended s z → P 100) → (SpellIs abating s z → (p : ℕ) → 1 ≤ p → p ≤ 99 → P p) → (NoneInForce s → P 0) → P (step_of s z).percent
percent-tells s z P f g h k = by-month s z (λ m. P m.percent) spell (λ n. subst P (sym (none-percent s z)) (k n))
  where
    spell : (wet : Bool) (e : Ending) → InForce wet s → ending_in wet s z ≡ e → P (ending_month e wet s z).percent
    spell wet steady n i = subst P (sym (ending-percent wet steady s z)) (f (spell_is wet n i))
    spell wet ended n i = subst P (sym (ending-percent wet ended s z)) (g (spell_is wet n i))
    spell wet abating n i = h (spell_is wet n i) (ending_month abating wet s z).percent (ending-percent wet abating s z).0 (ending-percent wet abating s z).1

-- ---- what the month shows by its decision
pub tried-shows : (x1 x2 : ℤ) (percent : ℕ) → Shows (tried x1 x2 percent).decision (tried x1 x2 percent)
unfolding founded unfounded provisional
tried-shows x1 x2 percent =
    by-tried x1 x2 percent (λ m. Shows m.decision m)
    (λ p. inl (record { founds_index = refl; founds_x1 = refl; founds_x2 = refl }, p))
    (λ p q. inl (record { founds_index = refl; founds_x1 = refl; founds_x2 = refl }, q))
    (λ p q r. inr (refl, refl, r))
    (λ p q r t. inr (refl, refl, r, t))
    (λ p q r t. (refl, inr (refl, r, t)))

module _ (s : Running) (z : ℤ) where
  pub spell-shows : (wet : Bool) (e : Ending) → InForce wet s → ending_in wet s z ≡ e → Shows (ending_month e wet s z).decision (ending_month e wet s z)
  unfolding ending_month steady_month abating_month abating_values no_spell
  spell-shows wet steady h i = (refl, refl, refl)
  spell-shows wet ended h i = tried-shows (x1_of s z) (x2_of s z) 100
  spell-shows wet abating h i = (refl, inl (abating-some wet s z i))
