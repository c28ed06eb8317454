-- An abating month: its numbers lean as `leaning` takes them, Q being what the spell lacks of its ending and 1000 V. So the modified index is the promise of the
-- code's one division, lies between X3 and the side that it leans to, and fits. Assumes nothing.
use mathlib.Core.Path.{◌≡◌, sym, ap, ◌∙◌}
use mathlib.Core.Bool.{Bool, true, false}
use Prim.Native.Nat.{◌*◌, ◌≤◌}
use native.Mathlib.Omega.{arith}
use lib.IntN.{ℤ, pos, neg_ℤ, nat_abs, ◌+ℤ◌, ◌-ℤ◌, ◌*ℤ◌}
use lib.Signed.{◌≤ℤ◌, ◌<ℤ◌}
use Rattle.exact.specs.Next.{next_of}
use Rattle.exact.proofs.Z.{zs, is-Z}
use Rattle.outline.specs.Numbers.{most_x, most_z}
use Rattle.ending.specs.Bounds.{most_v}
use Rattle.ending.specs.Ending.{turn, u_of, v_of, e_of, q_of, abating}
use Rattle.ending.proofs.Rooms.{turn-size, v_size}
use Rattle.spells.specs.Spells.{abating_values, step_of}
use Rattle.spells.specs.ValuesFit.{SidesFit, ValuesFit}
use Rattle.spells.specs.declared.Running.{Running}
use Rattle.spell_laws.specs.Cases.{InForce, ending_in}
use Rattle.spell_laws.specs.Months.{x1_of, x2_of}
use Rattle.spell_laws.proofs.Abates.{abating-tests, abating-x3, abating-v}
use Rattle.spell_laws.proofs.Parts.{month-sides, month-x3}
use Rattle.spell_laws.proofs.Mirror.{neg-up}
use Rattle.spell_laws.proofs.Theorems.{index-within}
use Rattle.modified.specs.Modified.{mixed, side, leaning, modified_of}
use Rattle.modified.specs.Leans.{lacking_of, Leans}
use Rattle.modified.proofs.Mixture.{turn-turn, between-both}
use Rattle.modified.proofs.Laws.{abating-month, by-v}

module _ (wet : Bool) (s : Running) (z : ℤ) (fit : ValuesFit s) (hz : nat_abs z ≤ most_z) (h : ending_in wet s z ≡ abating) where
  -- what the month leaves
  abbrev new_v : ℤ
  new_v = v_of (turn wet s.v) (turn wet z)

  abbrev left : Running
  left = abating_values s (turn wet new_v) z

  v-turned : turn wet left.v ≡ new_v
  unfolding abating_values
  v-turned = turn-turn wet new_v

  sided : (pos 0 ≤ℤ turn wet (side wet left)) × (nat_abs (side wet left) ≤ most_x)
  unfolding abating_values side turn
  sided = go wet (month-sides s z most_v fit hz)
    where
      go : (t : Bool) → SidesFit (x1_of s z) (x2_of s z) → (pos 0 ≤ℤ turn t (side t left)) × (nat_abs (side t left) ≤ most_x)
      go false b = (b.x1_sign, b.x1_size)
      go true b = (neg-up (x2_of s z) b.x2_sign, b.x2_size)

  leans-left : Leans wet s.x3 z left.v left.x3 (side wet left)
  unfolding abating_values
  leans-left =
      record {
        x3_size = fit.x3_size;
        z_size = hz;
        v_size = turn-size wet new_v (2 * most_v) (v_size wet s.v z fit.v_size hz);
        a_size = month-x3 s z most_v fit hz;
        b_size = sided.1;
        v_sign = rw v-turned (abating-v wet s z h);
        a_sign = down (turn wet (next_of s.x3 z)) (abating-x3 wet s z h);
        b_sign = sided.0;
        lacks = (abating-tests (turn wet s.x3) (turn wet s.v) (turn wet z) h).1;
      }
    where
      down : (x : ℤ) → x ≤ℤ neg_ℤ (pos 550) → x ≤ℤ pos 0
      down x = rw (is-Z x) (simp zs (omega arith))

  module _ (m : Running) (e : m ≡ left) where
    pub leans : Leans wet s.x3 z m.v m.x3 (side wet m)
    leans = rw e leans-left

    -- E - 1000 U + 1000 V is Q
    q-is : lacking_of wet s.x3 z +ℤ pos 1000 *ℤ turn wet m.v ≡ q_of (turn wet s.x3) (turn wet s.v)
    unfolding v_of q_of
    q-is = rw (ap (λ (n : Running). turn wet n.v) e ∙ v-turned) (sum (e_of (turn wet s.x3)) (u_of (turn wet z)) (turn wet s.v))
      where
        sum : (e u v : ℤ) → e -ℤ pos 1000 *ℤ u +ℤ pos 1000 *ℤ (u +ℤ v) ≡ e +ℤ pos 1000 *ℤ v
        sum e u v = rw (is-Z e, is-Z u, is-Z v) (simp zs (omega arith))

    pub leaning-is : mixed (turn wet m.v) (lacking_of wet s.x3 z +ℤ pos 1000 *ℤ turn wet m.v) m.x3 (side wet m) ≡ leaning wet s m
    unfolding leaning
    leaning-is = ap (λ (q : ℤ). mixed (turn wet m.v) q m.x3 (side wet m)) q-is

    pub leaning-between : (turn wet m.x3 ≤ℤ turn wet (leaning wet s m)) × (turn wet (leaning wet s m) ≤ℤ turn wet (side wet m))
    leaning-between = rw (← leaning-is) (between-both wet s.x3 z m.v m.x3 (side wet m) leans)

    leaning-size : nat_abs (leaning wet s m) ≤ most_x
    unfolding turn
    leaning-size = go wet m.x3 (leaning wet s m) (side wet m) leans.a_size leans.b_size leaning-between.0 leaning-between.1
      where
        go : (t : Bool) (a x b : ℤ) → nat_abs a ≤ most_x → nat_abs b ≤ most_x → turn t a ≤ℤ turn t x → turn t x ≤ℤ turn t b → nat_abs x ≤ most_x
        go false a x b = rw (is-Z a, is-Z x, is-Z b) (simp zs (omega arith))
        go true a x b = rw (is-Z a, is-Z x, is-Z b) (simp zs (omega arith))

-- the sign of V tells whether a spell abates, and which: the numbers of the month, and their mixture
pub record Abated (wet : Bool) (s : Running) (z : ℤ) (m : Running) : Type 0 where
  pub leans_so : Leans wet s.x3 z m.v m.x3 (side wet m)
  pub is : mixed (turn wet m.v) (lacking_of wet s.x3 z +ℤ pos 1000 *ℤ turn wet m.v) m.x3 (side wet m) ≡ modified_of s z

-- V of a spell that abates is not 0
some : (t : Bool) (v : ℤ) → v ≡ pos 0 → pos 0 <ℤ turn t v → ⊥
unfolding turn
some false v = rw (is-Z v) (simp zs (omega arith))
some true v = rw (is-Z v) (simp zs (omega arith))

pub abated : (t : Bool) (s : Running) (z : ℤ) → ValuesFit s → nat_abs z ≤ most_z → pos 0 <ℤ turn t (step_of s z).after.v → Abated t s z (step_of s z).after
unfolding turn
abated t s z fit hz p = by-v s z (Abated t s z (step_of s z).after) (λ e i. absurd (some t (step_of s z).after.v e p)) (λ wet f h e i. same t wet p h e i)
  where
    found : (wet : Bool) (h : ending_in wet s z ≡ abating) → (step_of s z).after ≡ left wet s z fit hz h → modified_of s z ≡ leaning wet s (step_of s z).after → Abated wet s z (step_of s z).after
    found wet h e i = record { leans_so = leans wet s z fit hz h (step_of s z).after e; is = leaning-is wet s z fit hz h (step_of s z).after e ∙ sym i }

    both : (v : ℤ) → pos 0 <ℤ v → pos 0 <ℤ neg_ℤ v → ⊥
    both v = rw (is-Z v) (simp zs (omega arith))

    same : (t wet : Bool) → pos 0 <ℤ turn t (step_of s z).after.v → (h : ending_in wet s z ≡ abating) → (step_of s z).after ≡ left wet s z fit hz h → modified_of s z ≡ leaning wet s (step_of s z).after → Abated t s z (step_of s z).after
    same false false p h e i = found false h e i
    same true true p h e i = found true h e i
    same false true p h e i = absurd (both (step_of s z).after.v p (found true h e i).leans_so.v_sign)
    same true false p h e i = absurd (both (step_of s z).after.v (found false h e i).leans_so.v_sign p)

-- ---- the theorems: it lies between X3 and the side that it leans to while a spell abates, and within 13,000,000 always
pub lies-between :
    (wet : Bool) (s : Running) (z : ℤ) → ValuesFit s → nat_abs z ≤ most_z → InForce wet s → ending_in wet s z ≡ abating
    → let m = (step_of s z).after in
    (turn wet m.x3 ≤ℤ turn wet (modified_of s z)) × (turn wet (modified_of s z) ≤ℤ turn wet (side wet m))
lies-between wet s z fit hz f h =
    let a = abating-month wet s z f h in
    rw a.1 (leaning-between wet s z fit hz h (step_of s z).after a.0)

pub modified-within : (s : Running) (z : ℤ) → ValuesFit s → nat_abs z ≤ most_z → nat_abs (modified_of s z) ≤ most_x
modified-within s z fit hz =
    by-v s z (nat_abs (modified_of s z) ≤ most_x)
    (λ e i. rw i (index-within s z most_v fit hz))
    (λ wet f h e i. rw i (leaning-size wet s z fit hz h (step_of s z).after e))

-- where V is 0 no spell abates, and the modified index is the month's index when it is added
pub elsewhere : (s : Running) (z : ℤ) → ValuesFit s → nat_abs z ≤ most_z → (step_of s z).after.v ≡ pos 0 → (step_of s z).index ≡ modified_of s z
elsewhere s z fit hz e =
    by-v s z ((step_of s z).index ≡ modified_of s z) (λ n i. sym i)
    (λ wet f h k i. absurd (some wet (step_of s z).after.v e (leans wet s z fit hz h (step_of s z).after k).v_sign))
