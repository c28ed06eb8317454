-- What the definitions of one month choose, each case from a plain fact of the numbers: the form in which the code's branches and the
-- theorems ask it. Assumes nothing.
use mathlib.Core.Path.{◌≡◌, refl, sym, ap, ◌∙◌}
use mathlib.Core.Bool.{Bool, true, false, cond, ◌||◌, or-false, false≢true}
use Prim.Native.Nat.{ℕ, zero, suc, ◌≤◌, ◌<◌}
use native.Mathlib.Omega.{arith}
use borrow.Author.Tests.{le-leb, lt-leb}
use lib.Dec.{leb}
use lib.IntN.{ℤ, pos, negsuc, nat_abs, ◌-ℤ◌, ◌*ℤ◌}
use lib.Signed.{◌≤ℤ◌, ◌<ℤ◌, le_z, lt_z}
use Rattle.std.specs.Int.{int_min, int_max}
use Rattle.exact.specs.Next.{next_of}
use Rattle.outline.specs.Numbers.{most_x, most_z}
use Rattle.outline.proofs.Tests.{if-so}
use Rattle.exact.proofs.Orders.{le_is, le_not, lt-is, lt_not}
use Rattle.exact.proofs.Z.{zs, zs-abs, is-Z, le_yes, lt_yes, lt_no}
use Rattle.exact.proofs.NextLaws.{next-within}
use Rattle.spells.specs.ValuesFit.{SidesFit}
use Rattle.spells.specs.Spells.{raised, lowered, is_zero, larger_in_size, provisional, founded, unfounded, tried, no_spell, ending_month, in_force, step_of}
use Rattle.ending.specs.Ending.{Ending, steady, ended, abating, turn, u_of, v_of, e_of, ending_of}
use Rattle.spells.specs.declared.Running.{Running}
use Rattle.spells.specs.declared.With.TheVariants.{X1, X2}
use Rattle.std.specs.Prelude.{None, Some}

-- ---- the outcome of a test, from the fact
pub zero_is : (x : ℤ) → x ≡ pos 0 → is_zero x ≡ true
zero_is x e = ap is_zero e

pub zero-not : (x : ℤ) → (x ≡ pos 0 → ⊥) → is_zero x ≡ false
zero-not (pos zero) h = absurd (h refl)
zero-not (pos (suc n)) h = lt-leb (suc n) 0 (omega arith)
zero-not (negsuc n) h = lt-leb (suc n) 0 (omega arith)

-- ---- running values, one by one
abbrev values : ℤ → ℤ → ℤ → ℤ → Running
values x1 x2 x3 v = record { x1 = x1; x2 = x2; x3 = x3; v = v }

pub same-values : {x1 y1 x2 y2 x3 y3 v w : ℤ} → x1 ≡ y1 → x2 ≡ y2 → x3 ≡ y3 → v ≡ w → values x1 x2 x3 v ≡ values y1 y2 y3 w
same-values p q r t = cc

-- ---- the larger of 0 and a number, and the smaller
pub raised-kept : (n m : ℤ) → n ≡ m → pos 0 ≤ℤ n → n ≡ raised m
unfolding raised
raised-kept n m e h = e ∙ rw (ap (le_z (pos 0)) (sym e) ∙ le_is (pos 0) n h)

pub raised-off : (n m : ℤ) → n ≡ m → n <ℤ pos 0 → pos 0 ≡ raised m
unfolding raised
raised-off n m e h = rw (ap (le_z (pos 0)) (sym e) ∙ le_not (pos 0) n h)

pub lowered-kept : (n m : ℤ) → n ≡ m → n ≤ℤ pos 0 → n ≡ lowered m
unfolding lowered
lowered-kept n m e h = e ∙ rw (ap (λ (t : ℤ). le_z t (pos 0)) (sym e) ∙ le_is n (pos 0) h)

pub lowered-off : (n m : ℤ) → n ≡ m → pos 0 <ℤ n → pos 0 ≡ lowered m
unfolding lowered
lowered-off n m e h = rw (ap (λ (t : ℤ). le_z t (pos 0)) (sym e) ∙ le_not n (pos 0) h)

pub raised-max : (n : ℤ) → int_max n (pos 0) ≡ raised n
unfolding raised
raised-max (pos zero) = refl
raised-max (pos (suc n)) = rw (le-leb 0 (suc n) (omega arith), le-leb 1 (suc n) (omega arith)) refl
raised-max (negsuc n) = refl

pub lowered-min : (n : ℤ) → int_min n (pos 0) ≡ lowered n
unfolding lowered
lowered-min (pos zero) = refl
lowered-min (pos (suc n)) = rw (lt-leb (suc n) 0 (omega arith), le-leb 1 (suc n) (omega arith)) refl
lowered-min (negsuc n) = refl

-- they keep the size and have the sign
pub raised-fits : (n : ℤ) (k : ℕ) → nat_abs n ≤ k → (nat_abs (raised n) ≤ k) × (pos 0 ≤ℤ raised n)
unfolding raised
raised-fits (pos n) k h = let e = le-leb 0 n (omega arith) in rw e (h, le_yes (pos 0) (pos n) e)
raised-fits (negsuc n) k h = (omega arith, record { le = tt })

pub lowered-fits : (n : ℤ) (k : ℕ) → nat_abs n ≤ k → (nat_abs (lowered n) ≤ k) × (lowered n ≤ℤ pos 0)
unfolding lowered
lowered-fits (pos zero) k h = (omega arith, record { le = tt })
lowered-fits (pos (suc n)) k h = rw (lt-leb (suc n) 0 (omega arith)) (omega arith, record { le = tt })
lowered-fits (negsuc n) k h = (h, record { le = tt })

pub sides-kept : (x1 x2 z : ℤ) → nat_abs x1 ≤ most_x → nat_abs x2 ≤ most_x → nat_abs z ≤ most_z → SidesFit (raised (next_of x1 z)) (lowered (next_of x2 z))
sides-kept x1 x2 z h1 h2 hz =
    let r = raised-fits (next_of x1 z) most_x (next-within x1 z h1 hz) in
    let l = lowered-fits (next_of x2 z) most_x (next-within x2 z h2 hz) in
    record { x1_size = r.0; x2_size = l.0; x1_sign = r.1; x2_sign = l.1 }

-- ---- the larger in size, and the provisional index
module _ (x1 x2 : ℤ) (fit : SidesFit x1 x2) where
  pub larger-second : le_z x1 (pos 0 -ℤ x2) ≡ true → x2 ≡ larger_in_size x1 x2
  unfolding larger_in_size
  larger-second h = rw (le-leb (nat_abs x1) (nat_abs x2) (sizes x1 x2 fit.x1_sign fit.x2_sign h))
    where
      sizes : (x1 x2 : ℤ) → pos 0 ≤ℤ x1 → x2 ≤ℤ pos 0 → le_z x1 (pos 0 -ℤ x2) ≡ true → nat_abs x1 ≤ nat_abs x2
      sizes x1 x2 = rw (is-Z x1, is-Z x2) (simp zs-abs (omega arith))

  pub larger-first : le_z x1 (pos 0 -ℤ x2) ≡ false → x1 ≡ larger_in_size x1 x2
  unfolding larger_in_size
  larger-first h = rw (lt-leb (nat_abs x1) (nat_abs x2) (sizes x1 x2 fit.x1_sign fit.x2_sign h))
    where
      sizes : (x1 x2 : ℤ) → pos 0 ≤ℤ x1 → x2 ≤ℤ pos 0 → le_z x1 (pos 0 -ℤ x2) ≡ false → nat_abs x2 < nat_abs x1
      sizes x1 x2 = rw (is-Z x1, is-Z x2) (simp zs-abs (omega arith))

pub larger-within : (x1 x2 : ℤ) (k : ℕ) → nat_abs x1 ≤ k → nat_abs x2 ≤ k → nat_abs (larger_in_size x1 x2) ≤ k
unfolding larger_in_size
larger-within x1 x2 k h g = go (leb (nat_abs x1) (nat_abs x2))
  where
    go : (t : Bool) → nat_abs (cond t x2 x1) ≤ k
    go true = g
    go false = h

pub provisional-none : (s : Running) → s.x3 ≡ pos 0 → provisional s ≡ larger_in_size s.x1 s.x2
unfolding provisional
provisional-none s e = rw (zero_is s.x3 e)

pub provisional-x3 : (s : Running) → (s.x3 ≡ pos 0 → ⊥) → provisional s ≡ s.x3
unfolding provisional
provisional-x3 s h = rw (zero-not s.x3 h)

-- ---- no spell: which of X1 and X2 founds, and which decides
module _ (x1 x2 : ℤ) (percent : ℕ) where
  pub tried-first : pos 1000 ≤ℤ x1 → tried x1 x2 percent ≡ founded x1 (Some X1) percent
  unfolding tried
  tried-first h = rw (le_is (pos 1000) x1 h)

  pub tried-second : x1 <ℤ pos 1000 → x2 ≤ℤ negsuc 999 → tried x1 x2 percent ≡ founded x2 (Some X2) percent
  unfolding tried
  tried-second h g = rw (le_not (pos 1000) x1 h, le_is x2 (negsuc 999) g)

  pub tried-x2 : x1 <ℤ pos 1000 → negsuc 999 <ℤ x2 → x1 ≡ pos 0 → tried x1 x2 percent ≡ unfounded x1 x2 (Some X2) x2 percent
  unfolding tried
  tried-x2 h g e = rw (le_not (pos 1000) x1 h, le_not x2 (negsuc 999) g, zero_is x1 e)

  pub tried-x1 : x1 <ℤ pos 1000 → negsuc 999 <ℤ x2 → (x1 ≡ pos 0 → ⊥) → x2 ≡ pos 0 → tried x1 x2 percent ≡ unfounded x1 x2 (Some X1) x1 percent
  unfolding tried
  tried-x1 h g n e = rw (le_not (pos 1000) x1 h, le_not x2 (negsuc 999) g, zero-not x1 n, zero_is x2 e)

  pub tried_open : x1 <ℤ pos 1000 → negsuc 999 <ℤ x2 → (x1 ≡ pos 0 → ⊥) → (x2 ≡ pos 0 → ⊥) → tried x1 x2 percent ≡ unfounded x1 x2 None (larger_in_size x1 x2) percent
  unfolding tried
  tried_open h g n m = rw (le_not (pos 1000) x1 h, le_not x2 (negsuc 999) g, zero-not x1 n, zero-not x2 m)

-- ---- what becomes of a spell in force, in the drought's sense
module _ (x3 v z : ℤ) where
  pub ending-steady : le_z (v_of v z) (pos 0) ≡ true → ending_of x3 v z ≡ steady
  unfolding ending_of
  ending-steady h = rw h

  pub ending-ended : le_z (v_of v z) (pos 0) ≡ false → le_z (e_of x3) (pos 1000 *ℤ u_of z) ≡ true → ending_of x3 v z ≡ ended
  unfolding ending_of
  ending-ended h g = rw (h, g)

  pub ending-abating : le_z (v_of v z) (pos 0) ≡ false → le_z (e_of x3) (pos 1000 *ℤ u_of z) ≡ false → ending_of x3 v z ≡ abating
  unfolding ending_of
  ending-abating h g = rw (h, g)

-- the month of the case that the rules come to
pub ending-month : (wet : Bool) (s : Running) (z : ℤ) (e : Ending) → ending_of (turn wet s.x3) (turn wet s.v) (turn wet z) ≡ e → in_force wet s z ≡ ending_month e wet s z
unfolding in_force
ending-month wet s z e h = ap (λ (k : Ending). ending_month k wet s z) h

-- ---- which spell is in force
pub step-drought : (s : Running) (z : ℤ) → s.x3 <ℤ negsuc 499 → step_of s z ≡ in_force false s z
unfolding step_of
step-drought s z h = rw (lt-is s.x3 (negsuc 499) h)

pub step-wet : (s : Running) (z : ℤ) → negsuc 499 ≤ℤ s.x3 → pos 500 <ℤ s.x3 → step_of s z ≡ in_force true s z
unfolding step_of
step-wet s z h g = rw (lt_not s.x3 (negsuc 499) h, lt-is (pos 500) s.x3 g)

pub step-none : (s : Running) (z : ℤ) → negsuc 499 ≤ℤ s.x3 → s.x3 ≤ℤ pos 500 → step_of s z ≡ no_spell s z 0
unfolding step_of
step-none s z h g = rw (lt_not s.x3 (negsuc 499) h, lt_not (pos 500) s.x3 g)

-- a spell is in force where either test says so, a wet one where the first does; the month is that of the case that the rules come to
abbrev pub is_wet : Running → Bool
is_wet s = lt_z (pos 500) s.x3

pub step-ending : (s : Running) (z : ℤ) (e : Ending) → (is_wet s || lt_z s.x3 (negsuc 499)) ≡ true → ending_of (turn (is_wet s) s.x3) (turn (is_wet s) s.v) (turn (is_wet s) z) ≡ e → step_of s z ≡ ending_month e (is_wet s) s z
step-ending s z e h g = force ∙ ending-month (is_wet s) s z e g
  where
    never : (x : ℤ) → x <ℤ negsuc 499 → x ≤ℤ pos 500
    never x = rw (is-Z x) (simp zs (omega arith))

    wet-only : lt_z s.x3 (negsuc 499) ≡ false → is_wet s ≡ true
    wet-only n = sym (rw n (or-false (is_wet s))) ∙ h

    force : step_of s z ≡ in_force (is_wet s) s z
    force =
        if-so (lt_z s.x3 (negsuc 499))
        (λ d. let l = lt_yes s.x3 (negsuc 499) d in rw (lt_not (pos 500) s.x3 (never s.x3 l)) (step-drought s z l))
        (λ n. let w = wet-only n in rw w (step-wet s z (lt_no s.x3 (negsuc 499) n) (lt_yes (pos 500) s.x3 w)))

pub step-unforced : (s : Running) (z : ℤ) → (is_wet s || lt_z s.x3 (negsuc 499)) ≡ false → step_of s z ≡ no_spell s z 0
step-unforced s z h = let n = neither (is_wet s) (lt_z s.x3 (negsuc 499)) h in step-none s z (lt_no s.x3 (negsuc 499) n.1) (lt_no (pos 500) s.x3 n.0)
  where
    neither : (a b : Bool) → (a || b) ≡ false → (a ≡ false) × (b ≡ false)
    neither true b e = absurd (false≢true (sym e))
    neither false b e = (refl, e)
