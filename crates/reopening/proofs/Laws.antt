-- Laws of the run before a month: that the values after a month tell whether it decided and what it showed, the calendar back, and how many months
-- open again. Assumes nothing.
use mathlib.Core.Path.{◌≡◌, refl, sym, ap, ◌∙◌}
use mathlib.Core.Bool.{Bool, true, false, cond, false≢true}
use Prim.Native.Nat.{ℕ, zero, suc, ◌+◌, ◌-◌, ◌%◌, ◌≤◌}
use native.Mathlib.Omega.{arith}
use borrow.Author.Tests.{leb-true, le-leb, lt-leb}
use lib.Dec.{leb}
use lib.IntN.{ℤ, pos, negsuc, neg_ℤ, ◌*ℤ◌}
use lib.ListN.{length, length-append, length-take, length-drop, length-replicate}
use lib.Signed.{le_z, lt_z}
use Rattle.outline.specs.Numbers.{founds_from, in_force_beyond, weight_of_z}
use Rattle.outline.proofs.Tests.{each, both}
use Rattle.ending.specs.Ending.{steady, ended, abating, turn, u_of, v_of, e_of, ending_of}
use Rattle.spells.specs.declared.Running.{Running}
use Rattle.spells.specs.declared.With.{With}
use Rattle.spells.specs.declared.With.TheVariants.{X1, X2, X3}
use Rattle.spells.specs.declared.SpellMonth.{SpellMonth}
use Rattle.spells.specs.Spells.{is_zero, larger_in_size, provisional, steady_month, abating_values, abating_month, founded, unfounded, tried, no_spell, ending_month, in_force, step_of}
use Rattle.ranges.specs.Ranges.{calendar_fits}
use Rattle.refusals.specs.Book.{Book, values_at}
use Rattle.reopening.specs.Before.{decided, opens_before, calendar_back, shown_from, reopened}
use Rattle.std.specs.Prelude.{None, Some}

-- ---- the values after a month tell whether it decided, and an open month's index

-- a month whose values say that it decided, and it did; or that it did not, and it shows the provisional index
data Told (m : SpellMonth) : Type 0 where
  settled : (w : With) → decided m.after ≡ true → m.decision ≡ Some w → Told m
  shown : decided m.after ≡ false → m.decision ≡ None → m.index ≡ provisional m.after → Told m

module _ (x1 x2 : ℤ) (percent : ℕ) where
  x1-none : is_zero x1 ≡ true → Told (unfounded x1 x2 (Some X2) x2 percent)
  unfolding unfounded decided
  x1-none r = settled X2 (rw r) refl

  x2-none : is_zero x1 ≡ false → is_zero x2 ≡ true → Told (unfounded x1 x2 (Some X1) x1 percent)
  unfolding unfounded decided
  x2-none r t = settled X1 (rw (r, t)) refl

  neither : is_zero x1 ≡ false → is_zero x2 ≡ false → Told (unfounded x1 x2 None (larger_in_size x1 x2) percent)
  unfolding unfounded decided provisional
  neither r t = shown (rw (r, t)) refl refl

  tried-told : Told (tried x1 x2 percent)
  unfolding tried founded decided
  tried-told = go (le_z (pos founds_from) x1) (le_z x2 (neg_ℤ (pos founds_from))) (is_zero x1) (is_zero x2) refl refl
    where
      go :
          (a b c d : Bool) →
          is_zero x1 ≡ c →
          is_zero x2 ≡ d →
          Told
          (cond a (founded x1 (Some X1) percent)
          (cond b (founded x2 (Some X2) percent)
          (cond c (unfounded x1 x2 (Some X2) x2 percent)
          (cond d (unfounded x1 x2 (Some X1) x1 percent)
          (unfounded x1 x2 None (larger_in_size x1 x2) percent)))))
      go true b c d r t = settled X1 refl refl
      go false true c d r t = settled X2 refl refl
      go false false true d r t = x1-none r
      go false false false true r t = x2-none r t
      go false false false false r t = neither r t

-- V above 0 in the drought's sense is not 0
v-some : (wet : Bool) (w : ℤ) → le_z w (pos 0) ≡ false → is_zero (turn wet w) ≡ false
unfolding turn
v-some wet (pos zero) h = absurd (false≢true (sym h))
v-some false (pos (suc n)) h = lt-leb (suc n) 0 (omega arith)
v-some true (pos (suc n)) h = lt-leb (suc n) 0 (omega arith)
v-some wet (negsuc n) h = absurd (false≢true (sym h))

module _ (wet : Bool) (s : Running) (z : ℤ) where
  force-told : Told (in_force wet s z)
  unfolding in_force ending_of ending_month steady_month abating_month abating_values no_spell decided
  force-told = go (le_z v (pos 0)) (le_z (e_of (turn wet s.x3)) (pos weight_of_z *ℤ u_of (turn wet z))) refl
    where
      v : ℤ
      v = v_of (turn wet s.v) (turn wet z)

      go : (a b : Bool) → le_z v (pos 0) ≡ a → Told (ending_month (cond a steady (cond b ended abating)) wet s z)
      go true b p = settled X3 refl refl
      go false true p = tried-told _ _ 100
      go false false p = shown (rw (v-some wet v p)) refl refl

step-told : (s : Running) (z : ℤ) → Told (step_of s z)
unfolding step_of no_spell
step-told s z = go (lt_z s.x3 (neg_ℤ (pos in_force_beyond))) (lt_z (pos in_force_beyond) s.x3)
  where
    go : (a b : Bool) → Told (cond a (in_force false s z) (cond b (in_force true s z) (no_spell s z 0)))
    go true b = force-told false s z
    go false true = force-told true s z
    go false false = tried-told _ _ 0

-- a month decided where the values after it say so
pub step-decides : (s : Running) (z : ℤ) → decided (step_of s z).after ≡ true → ((step_of s z).decision ≡ None → ⊥)
step-decides s z h = go (step-told s z)
  where
    go : Told (step_of s z) → (step_of s z).decision ≡ None → ⊥
    go (settled w d e) n = let k : ◌≡◌ {A = ℕ} 0 1 = cc in omega arith
    go (shown d e i) n = false≢true (sym d ∙ h)

-- and not where they do not
pub step-open : (s : Running) (z : ℤ) → decided (step_of s z).after ≡ false → (step_of s z).decision ≡ None
step-open s z h = go (step-told s z)
  where
    go : Told (step_of s z) → (step_of s z).decision ≡ None
    go (settled w d e) = absurd (false≢true (sym h ∙ d))
    go (shown d e i) = e

-- a month that decides nothing shows the provisional index of the values after it
pub open-shows : (s : Running) (z : ℤ) → (step_of s z).decision ≡ None → (step_of s z).index ≡ provisional (step_of s z).after
open-shows s z h = go (step-told s z)
  where
    go : Told (step_of s z) → (step_of s z).index ≡ provisional (step_of s z).after
    go (settled w d e) = absurd (let k : ◌≡◌ {A = ℕ} 0 1 = cc in omega arith)
    go (shown d e i) = i

-- ---- the calendar
pub calendar-is : (c : ℕ) → calendar_fits c ≡ true → (1 ≤ c) × (c ≤ 12)
unfolding calendar_fits
calendar-is c h = let e = each (leb 1 c) (leb c 12) h in (leb-true 1 c e.0, leb-true c 12 e.1)

is-calendar : (c : ℕ) → 1 ≤ c → c ≤ 12 → calendar_fits c ≡ true
unfolding calendar_fits
is-calendar c l h = both (le-leb 1 c l) (le-leb c 12 h)

-- a calendar month so many months back is a calendar month
pub calendar-back : (c k : ℕ) → calendar_fits c ≡ true → calendar_fits (calendar_back c k) ≡ true
unfolding calendar_back
calendar-back c k h = is-calendar (calendar_back c k) (omega arith) (omega arith)

-- as many months on and back again
pub back-again : (c k : ℕ) → 1 ≤ c → c ≤ 12 → calendar_back ((c - 1 + k) % 12 + 1) k ≡ c
unfolding calendar_back
back-again c k l h = omega arith

-- ---- the months that are open again

-- they are among those before
pub opens-most : (cs : Book) (m : ℕ) → opens_before cs m ≤ m
unfolding opens_before
opens-most cs zero = omega arith
opens-most cs (suc i) = go (decided (values_at cs i)) (opens-most cs i)
  where
    go : (t : Bool) → opens_before cs i ≤ i → cond t 0 (suc (opens_before cs i)) ≤ suc i
    go true h = omega arith
    go false h = omega arith

pub shown-long : (cs : Book) (i k : ℕ) → length (shown_from cs i k) ≡ k
unfolding shown_from
shown-long cs i zero = refl
shown-long cs i (suc k) = ap suc (shown-long cs (suc i) k)

-- index and mark keep their lengths
pub index_long : (cs : Book) (m : ℕ) → m ≤ length cs.index → length (reopened cs m).index ≡ length cs.index
index_long cs m h = let k = opens-most cs m in simp (length-append, length-take, length-drop, shown-long) (omega arith)

pub mark_long : (cs : Book) (m : ℕ) → m ≤ length cs.mark → length (reopened cs m).mark ≡ length cs.mark
mark_long cs m h = let k = opens-most cs m in simp (length-append, length-take, length-drop, length-replicate) (omega arith)
