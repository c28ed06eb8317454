-- `modified::modified` meets its contract: V tells whether a spell abates, and which. Assumes nothing.
use mathlib.Core.Path.{◌≡◌, refl, sym, ap, subst, ◌∙◌}
use Prim.Native.Nat.{ℕ, zero, suc, ◌*◌, ◌≤◌}
use mathlib.Core.Bool.{Bool, true, false}
use borrow.Author.Rules.{rules}
use native.Mathlib.Omega.{arith}
use lib.IntN.{ℤ, pos, negsuc, neg_ℤ, nat_abs, ◌+ℤ◌, ◌*ℤ◌}
use lib.Signed.{◌≤ℤ◌, ◌<ℤ◌}
use mir.Syntax.{w32, w64}
use mir.Val.{SFits, to_z, of_z}
use mir.Facts.{to_z-of_z, sfits_lit}
use Rattle.outline.specs.Numbers.{most_x, most_z}
use Rattle.exact.proofs.Z.{zs, is-Z, lt_yes, lt_no, fits-within}
use Rattle.exact.proofs.Held.{same_bits}
use Rattle.ending.specs.Bounds.{most_v}
use Rattle.ending.specs.Ending.{turn}
use Rattle.spells.specs.declared.Running.{Running}
use Rattle.spells.specs.Spells.{step_of}
use Rattle.spells.specs.ValuesFit.{ValuesFit}
use Rattle.modified.specs.Modified.{mixed, side}
use Rattle.modified.specs.Leans.{lacking_of, Leans}
use Rattle.modified.proofs.Abating.{Abated, abated, elsewhere}
use Rattle.modified.proofs.modified.Goals as goal
use Rattle.modified.proofs.modified.Goals.{Then-left-lt0, Else-left-lt0}

-- the numbers as the machine has them
module _ (wet : Bool) (x3 z v a b : ℤ) (l : Leans wet x3 z v a b) where
  fits : SFits w32 x3 × SFits w32 z × SFits w64 v × SFits w32 a × SFits w32 b
  fits = (
    fits-within w32 x3 most_x l.x3_size (omega arith),
    fits-within w32 z most_z l.z_size (omega arith),
    fits-within w64 v (2 * most_v) l.v_size (omega arith),
    fits-within w32 a most_x l.a_size (omega arith),
    fits-within w32 b most_x l.b_size (omega arith),
  )

  told : Leans wet (to_z w32 (of_z w32 x3)) (to_z w32 (of_z w32 z)) (to_z w64 (of_z w64 v)) (to_z w32 (of_z w32 a)) (to_z w32 (of_z w32 b))
  told = rw (to_z-of_z fits.0, to_z-of_z fits.1, to_z-of_z fits.2, to_z-of_z fits.3, to_z-of_z fits.4) l

  abbrev mixture : ℤ → ℤ → ℤ → ℤ → ℤ → ℤ
  mixture x3 z v a b = mixed (turn wet v) (lacking_of wet x3 z +ℤ pos 1000 *ℤ turn wet v) a b

  mixed-told : mixture (to_z w32 (of_z w32 x3)) (to_z w32 (of_z w32 z)) (to_z w64 (of_z w64 v)) (to_z w32 (of_z w32 a)) (to_z w32 (of_z w32 b)) ≡ mixture x3 z v a b
  mixed-told = rw (to_z-of_z fits.0, to_z-of_z fits.1, to_z-of_z fits.2, to_z-of_z fits.3, to_z-of_z fits.4)

-- V is 0: the modified index is the month's
pub returns-then-left-eq0 : goal.returns-then-left-eq0
returns-then-left-eq0 c =
    let a = c.args in
    let fv : SFits w64 a.month.after.v = search rules in
    let e : a.month.after.v ≡ pos 0 = same_bits {y = pos 0} fv (sfits_lit tt) c.if-left-eq0.true in
    let f : SFits w32 a.month.index = search rules in
    to_z-of_z f ∙ c.requires.m_value.1 ∙ elsewhere a.s a.z c.requires.values_fit c.requires.z_bound (ap (λ (m : Running). m.v) (sym c.requires.m_value.0) ∙ e)

-- V is not 0: its sign tells which spell abates
abates : (t : Bool) (s m : Running) (z : ℤ) → ValuesFit s → nat_abs z ≤ most_z → m ≡ (step_of s z).after → pos 0 <ℤ turn t m.v → Abated t s z m
abates t s m z hs hz e p = rw e (abated t s z hs hz (subst (λ (m : Running). pos 0 <ℤ turn t m.v) e p))

wet : (c : Then-left-lt0) → let a = c.args in Abated true a.s a.z a.month.after
unfolding turn
wet c =
    let f : SFits w64 c.args.month.after.v = search rules in
    abates true c.args.s c.args.month.after c.args.z c.requires.values_fit c.requires.z_bound c.requires.m_value.0 (above c.args.month.after.v (lt_yes c.args.month.after.v (pos 0) (simp to_z-of_z at c.if-left-lt0.true)))
  where
    above : (v : ℤ) → v <ℤ pos 0 → pos 0 <ℤ neg_ℤ v
    above v = rw (is-Z v) (simp zs (omega arith))

dry : (c : Else-left-lt0) → let a = c.args in Abated false a.s a.z a.month.after
unfolding turn
dry c =
    let f : SFits w64 c.args.month.after.v = search rules in
    abates false c.args.s c.args.month.after c.args.z c.requires.values_fit c.requires.z_bound c.requires.m_value.0 (above c.args.month.after.v (lt_no c.args.month.after.v (pos 0) (simp to_z-of_z at c.if-left-lt0.false)) (λ e. c.if-left-eq0.false (ap (of_z w64) e)))
  where
    above : (v : ℤ) → pos 0 ≤ℤ v → (v ≡ pos 0 → ⊥) → pos 0 <ℤ v
    above (pos zero) h n = absurd (n refl)
    above (pos (suc k)) h n = up k
      where
        up : (k : ℕ) → pos 0 <ℤ pos (suc k)
        up k = simp zs (omega arith)
    above (negsuc k) h n = absurd h.le

pub leaning-requires : goal.leaning-requires
unfolding side
leaning-requires c = let a = c.args in told true a.s.x3 a.z a.month.after.v a.month.after.x3 a.month.after.x2 (wet (goal.at.leaning-requires c).Then-left-lt0).leans_so

pub returns-then-left-lt0 : goal.returns-then-left-lt0
unfolding side
returns-then-left-lt0 c =
    let a = c.args in
    let w = wet (goal.at.returns-then-left-lt0 c).Then-left-lt0 in
    let f : SFits w32 c.leaning.result = record { sfits = c.leaning.type_inv } in
    to_z-of_z f ∙ c.leaning.ensures ∙ mixed-told true a.s.x3 a.z a.month.after.v a.month.after.x3 a.month.after.x2 w.leans_so ∙ w.is

pub leaning-requires-2 : goal.leaning-requires-2
unfolding side
leaning-requires-2 c = let a = c.args in told false a.s.x3 a.z a.month.after.v a.month.after.x3 a.month.after.x1 (dry (goal.at.leaning-requires-2 c).Else-left-lt0).leans_so

pub returns : goal.returns
unfolding side
returns c =
    let a = c.args in
    let d = dry (goal.at.returns c).Else-left-lt0 in
    let f : SFits w32 c.leaning-2.result = record { sfits = c.leaning-2.type_inv } in
    to_z-of_z f ∙ c.leaning-2.ensures ∙ mixed-told false a.s.x3 a.z a.month.after.v a.month.after.x3 a.month.after.x1 d.leans_so ∙ d.is
