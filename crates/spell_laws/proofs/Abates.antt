-- An abating spell: 1000 U below E is 2691 X3 + 1000 Z below -1,650,000, in the drought's sense, so that next(X3) is at most -550.
-- Assumes nothing.
use mathlib.Core.Path.{◌≡◌, refl}
use mathlib.Core.Bool.{Bool, true, false, cond}
use Prim.Native.Nat.{ℕ, ◌+◌, ◌≤◌}
use native.Mathlib.Omega.{arith}
use lib.IntN.{ℤ, pos, negsuc, neg_ℤ, nat_abs, ◌+ℤ◌, ◌-ℤ◌, ◌*ℤ◌}
use lib.Signed.{◌≤ℤ◌, ◌<ℤ◌, le_z}
use Rattle.exact.specs.Next.{next_of}
use Rattle.outline.specs.Numbers.{weight, most_z, most_u}
use Rattle.exact.proofs.NextLaws.{sum, next-near, next-odd}
use Rattle.exact.proofs.Z.{zs, is-Z, le-no}
use Rattle.spells.specs.declared.Running.{Running}
use Rattle.ending.specs.Ending.{steady, ended, abating, turn, u_of, v_of, e_of, q_of, ending_of}
use Rattle.spell_laws.specs.Cases.{ending_in}

-- turning the signs
pub turn-next : (wet : Bool) (x z : ℤ) → next_of (turn wet x) (turn wet z) ≡ turn wet (next_of x z)
unfolding turn
turn-next false x z = refl
turn-next true x z = next-odd x z

-- the two tests that an abating spell has failed
pub abating-tests : (x3 v z : ℤ) → ending_of x3 v z ≡ abating → (pos 0 <ℤ v_of v z) × ((pos 1000 *ℤ u_of z) <ℤ e_of x3)
unfolding ending_of
abating-tests x3 v z = go (le_z (v_of v z) (pos 0)) (le_z (e_of x3) (pos 1000 *ℤ u_of z)) refl refl
  where
    go : (a b : Bool) → le_z (v_of v z) (pos 0) ≡ a → le_z (e_of x3) (pos 1000 *ℤ u_of z) ≡ b → cond a steady (cond b ended abating) ≡ abating → (pos 0 <ℤ v_of v z) × ((pos 1000 *ℤ u_of z) <ℤ e_of x3)
    go true b p q e = absurd (let k : ◌≡◌ {A = ℕ} 0 1 = cc in omega arith)
    go false true p q e = absurd (let k : ◌≡◌ {A = ℕ} 0 1 = cc in omega arith)
    go false false p q e = (le-no (v_of v z) (pos 0) p, le-no (e_of x3) (pos 1000 *ℤ u_of z) q)

-- Q is above 1000 V: the chance is below 100 percent before it is rounded, and Q above 0
pub q-above : (x3 v z : ℤ) → ending_of x3 v z ≡ abating → (pos 1000 *ℤ v_of v z) <ℤ q_of x3 v
unfolding u_of v_of e_of q_of
q-above x3 v z h = go x3 v z (abating-tests x3 v z h).1
  where
    go : (x v z : ℤ) → (pos 1000 *ℤ (z +ℤ pos 150)) <ℤ (neg_ℤ (pos weight *ℤ x) -ℤ pos 1500000) → (pos 1000 *ℤ (z +ℤ pos 150 +ℤ v)) <ℤ (neg_ℤ (pos weight *ℤ x) -ℤ pos 1500000 +ℤ pos 1000 *ℤ v)
    go x v z = rw (is-Z x, is-Z v, is-Z z) (simp zs (omega arith))

-- next(X3) is at most -550
next-far : (x3 z : ℤ) → (pos 1000 *ℤ u_of z) <ℤ e_of x3 → next_of x3 z ≤ℤ neg_ℤ (pos 550)
unfolding u_of e_of
next-far x3 z h = far x3 z (next_of x3 z) h (next-near x3 z).0
  where
    far : (x z r : ℤ) → (pos 1000 *ℤ (z +ℤ pos 150)) <ℤ (neg_ℤ (pos weight *ℤ x) -ℤ pos 1500000) → (pos 6000 *ℤ r) ≤ℤ (pos 2 *ℤ sum x z +ℤ pos 3000) → r ≤ℤ negsuc 549
    far x z r = rw (is-Z x, is-Z z, is-Z r) (simp zs (omega arith))

some : (wet : Bool) (x : ℤ) → turn wet x ≤ℤ neg_ℤ (pos 550) → x ≡ pos 0 → ⊥
unfolding turn
some false x = rw (is-Z x) (simp zs (omega arith))
some true x = rw (is-Z x) (simp zs (omega arith))

module _ (wet : Bool) (s : Running) (z : ℤ) (h : ending_in wet s z ≡ abating) where
  -- X3 and V after an abating month, in the drought's sense
  pub abating-x3 : turn wet (next_of s.x3 z) ≤ℤ neg_ℤ (pos 550)
  abating-x3 = rw (← turn-next wet s.x3 z) (next-far (turn wet s.x3) (turn wet z) (abating-tests (turn wet s.x3) (turn wet s.v) (turn wet z) h).1)

  pub abating-v : pos 0 <ℤ v_of (turn wet s.v) (turn wet z)
  abating-v = (abating-tests (turn wet s.x3) (turn wet s.v) (turn wet z) h).0

  pub abating-some : next_of s.x3 z ≡ pos 0 → ⊥
  abating-some = some wet (next_of s.x3 z) abating-x3

-- V and X3 of a spell have the signs of a run's
pub signs : (wet : Bool) (w x : ℤ) → pos 0 <ℤ w → turn wet x ≤ℤ neg_ℤ (pos 550) → (pos 0 <ℤ turn wet w → x <ℤ pos 0) × (turn wet w <ℤ pos 0 → pos 0 <ℤ x)
unfolding turn
signs false w x = rw (is-Z w, is-Z x) (simp zs (omega arith))
signs true w x = rw (is-Z w, is-Z x) (simp zs (omega arith))

-- what a month adds to V
pub v-room : (v z : ℤ) (most : ℕ) → nat_abs v ≤ most → nat_abs z ≤ most_z → nat_abs (v_of v z) ≤ most + most_u
unfolding v_of u_of
v-room v z most = rw (is-Z v, is-Z z) (simp zs (omega arith))
