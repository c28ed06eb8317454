-- What a fresh run comes to keeps within the bounds of specs/Reached.antt, by one step from any values that do. So never do both found a
-- spell; a drought that ends leaves X2 at -550 or above; and where X1 and X2 were both something, they are not both 0 a month later. What
-- is said of a drought holds of a wet spell by the mirror. Assumes nothing.
use mathlib.Core.Path.{◌≡◌, refl, sym, ◌∙◌, subst}
use mathlib.Core.Bool.{Bool, true, false, cond}
use Prim.Native.Nat.{ℕ}
use native.Mathlib.Omega.{arith}
use lib.IntN.{ℤ, pos, negsuc, neg_ℤ, neg_ℤ-neg_ℤ, ◌+ℤ◌, ◌-ℤ◌, ◌*ℤ◌}
use lib.Signed.{◌≤ℤ◌, ◌<ℤ◌, le_z, ≤ℤ_refl}
use Rattle.outline.specs.Numbers.{weight}
use Rattle.exact.specs.Next.{next_of}
use Rattle.exact.proofs.NextLaws.{sum, next-near, next-rises, next-odd}
use Rattle.exact.proofs.Z.{zs, is-Z, le_yes, ≤ℤ-of-<}
use Rattle.spells.specs.declared.Running.{Running}
use Rattle.spells.specs.declared.With.TheVariants.{X1, X2, X3}
use Rattle.spells.specs.declared.SpellMonth.{SpellMonth}
use Rattle.spells.specs.Values.{fresh}
use Rattle.spells.specs.Spells.{raised, lowered, steady_month, abating_values, abating_month, founded, unfounded, tried, no_spell, ending_month, step_of}
use Rattle.spells.proofs.Choices.{same-values, raised-kept, raised-off, lowered-kept, lowered-off, step-none}
use Rattle.ending.specs.Ending.{Ending, steady, ended, abating, turn, u_of, v_of, e_of, ending_of}
use Rattle.spell_laws.specs.Months.{x1_of, x2_of}
use Rattle.spell_laws.specs.Cases.{InForce, ending_in, SpellIs, spell_is, NoSpell, none, just_ended}
use Rattle.spell_laws.specs.Mirror.{mirror}
use Rattle.spell_laws.specs.Uneven.{BothFound}
use Rattle.spell_laws.specs.Reached.{Reached}
use Rattle.spell_laws.proofs.Cases.{decides-some, by_order, by-tried, by-month, step-ending}
use Rattle.spell_laws.proofs.Abates.{abating-x3}
use Rattle.spell_laws.proofs.Mirror.{neg_low, neg-high, neg-up, neg-down, mirror-x1, mirror-x2, mirror-force, mirror-ending, mirror-values, mirror-percent}
use Rattle.spell_laws.proofs.Theorems.{percent-ended}
use Rattle.std.specs.Prelude.{None, Some}

-- ---- X1 and X2 of a month

-- "larger of 0 and next(X1)" is one or the other, and so is "smaller of 0 and next(X2)"
raised-case : (P : ℤ → Type 0) (n : ℤ) → (pos 0 ≤ℤ n → P n) → (n <ℤ pos 0 → P (pos 0)) → P (raised n)
raised-case P n f g = by_order (pos 0) n (P (raised n)) (λ h. subst P (raised-kept n n refl h) (f h)) (λ h. subst P (raised-off n n refl h) (g h))

lowered-case : (P : ℤ → Type 0) (n : ℤ) → (n ≤ℤ pos 0 → P n) → (pos 0 <ℤ n → P (pos 0)) → P (lowered n)
lowered-case P n f g = by_order n (pos 0) (P (lowered n)) (λ h. subst P (lowered-kept n n refl h) (f h)) (λ h. subst P (lowered-off n n refl h) (g h))

-- ---- the mirror of such values is such
module _ (s : Running) (k : Reached s) where
  pub reached-mirror : Reached (mirror s)
  unfolding turn
  reached-mirror =
      record {
        x1_sign = neg-up s.x2 k.x2_sign;
        x2_sign = neg-down s.x1 k.x1_sign;
        none_x1 = λ h. neg_low s.x2 (k.none_x2 (calm s.x3 h));
        none_x2 = λ h. neg-high s.x1 (k.none_x1 (calm s.x3 h));
        dry_x2 = λ h. turned s.x1 s.x3 (k.wet_x1 h);
        wet_x1 = λ h. turned s.x3 s.x2 (k.dry_x2 (subst (λ (x : ℤ). x <ℤ neg_ℤ (pos 500)) (neg_ℤ-neg_ℤ s.x3) h));
      }
    where
      turned : (x y : ℤ) → x ≤ℤ y → neg_ℤ y ≤ℤ neg_ℤ x
      turned x y = rw (is-Z x, is-Z y) (simp zs (omega arith))

      calm : (x : ℤ) → (neg_ℤ (pos 500) ≤ℤ neg_ℤ x) × (neg_ℤ x ≤ℤ pos 500) → (neg_ℤ (pos 500) ≤ℤ x) × (x ≤ℤ pos 500)
      calm x h = go x h.0 h.1
        where
          go : (x : ℤ) → neg_ℤ (pos 500) ≤ℤ neg_ℤ x → neg_ℤ x ≤ℤ pos 500 → (neg_ℤ (pos 500) ≤ℤ x) × (x ≤ℤ pos 500)
          go x = rw (is-Z x) (simp zs (omega arith))

reached-back : (s : Running) → Reached (mirror s) → Reached s
reached-back s k = subst Reached (same-values (neg_ℤ-neg_ℤ s.x1) (neg_ℤ-neg_ℤ s.x2) (neg_ℤ-neg_ℤ s.x3) (neg_ℤ-neg_ℤ s.v)) (reached-mirror (mirror s) k)

-- ---- a drought that ends, where X2 is not below its X3
ended-test : (x3 v z : ℤ) → ending_of x3 v z ≡ ended → e_of x3 ≤ℤ (pos 1000 *ℤ u_of z)
unfolding ending_of
ended-test x3 v z = go (le_z (v_of v z) (pos 0)) (le_z (e_of x3) (pos 1000 *ℤ u_of z)) refl
  where
    go : (a b : Bool) → le_z (e_of x3) (pos 1000 *ℤ u_of z) ≡ b → cond a steady (cond b ended abating) ≡ ended → e_of x3 ≤ℤ (pos 1000 *ℤ u_of z)
    go true b q e = absurd (let k : ◌≡◌ {A = ℕ} 0 1 = cc in omega arith)
    go false true q e = le_yes (e_of x3) (pos 1000 *ℤ u_of z) q
    go false false q e = absurd (let k : ◌≡◌ {A = ℕ} 0 1 = cc in omega arith)

module _ (s : Running) (z : ℤ) (k : Reached s) where
  pub dry-ends : InForce false s → ending_in false s z ≡ ended → neg_ℤ (pos 550) ≤ℤ x2_of s z
  unfolding turn e_of u_of
  dry-ends h e =
      lowered-case (λ (n : ℤ). neg_ℤ (pos 550) ≤ℤ n) (next_of s.x2 z)
      (λ l. far s.x3 s.x2 z (next_of s.x2 z) (ended-test s.x3 s.v z e) (k.dry_x2 h) (next-near s.x2 z).1)
      (λ l. record { le = tt })
    where
      far : (x y z r : ℤ) → (neg_ℤ (pos weight *ℤ x) -ℤ pos 1500000) ≤ℤ (pos 1000 *ℤ (z +ℤ pos 150)) → x ≤ℤ y → (pos 2 *ℤ sum y z) ≤ℤ (pos 6000 *ℤ r +ℤ pos 3000) → neg_ℤ (pos 550) ≤ℤ r
      far x y z r = rw (is-Z x, is-Z y, is-Z z, is-Z r) (simp zs (omega arith))

-- X2 of -550 or above founds no drought
not-far : (x : ℤ) → neg_ℤ (pos 550) ≤ℤ x → x ≤ℤ neg_ℤ (pos 1000) → ⊥
not-far x = rw (is-Z x) (simp zs (omega arith))

back : (x : ℤ) → neg_ℤ (pos 550) ≤ℤ neg_ℤ x → x ≤ℤ pos 550
back x = rw (is-Z x) (simp zs (omega arith))

-- the mirror of it: a wet spell that ends
module _ (s : Running) (z : ℤ) (k : Reached s) where
  pub wet-ends : InForce true s → ending_in true s z ≡ ended → x1_of s z ≤ℤ pos 550
  wet-ends h e =
      back (x1_of s z) (subst (λ (x : ℤ). neg_ℤ (pos 550) ≤ℤ x) (mirror-x2 s z) (dry-ends (mirror s) (neg_ℤ z) (reached-mirror s k) (mirror-force s z true h) (mirror-ending s z true ∙ e)))

  -- so X1 and X2 never both found a spell
  pub never_both : BothFound s z → ⊥
  never_both b = go b.found_none
    where
      far-x1 : (x : ℤ) → x ≤ℤ pos 550 → pos 1000 ≤ℤ x → ⊥
      far-x1 x = rw (is-Z x) (simp zs (omega arith))

      -- with no spell Z would have to be above 0 and below 0
      up : pos 1000 ≤ℤ next_of s.x1 z
      up = raised-case (λ (n : ℤ). pos 1000 ≤ℤ n → pos 1000 ≤ℤ next_of s.x1 z) (next_of s.x1 z) (λ l h. h) (λ l h. absurd h.le) b.found_x1

      down : next_of s.x2 z ≤ℤ neg_ℤ (pos 1000)
      down = lowered-case (λ (n : ℤ). n ≤ℤ neg_ℤ (pos 1000) → next_of s.x2 z ≤ℤ neg_ℤ (pos 1000)) (next_of s.x2 z) (λ l h. h) (λ l h. absurd h.le) b.found_x2

      clash : (x y z p q : ℤ) → x <ℤ pos 1000 → neg_ℤ (pos 1000) <ℤ y → pos 1000 ≤ℤ p → q ≤ℤ neg_ℤ (pos 1000) → (pos 6000 *ℤ p) ≤ℤ (pos 2 *ℤ sum x z +ℤ pos 3000) → (pos 2 *ℤ sum y z) ≤ℤ (pos 6000 *ℤ q +ℤ pos 3000) → ⊥
      clash x y z p q = rw (is-Z x, is-Z y, is-Z z, is-Z p, is-Z q) (simp zs (omega arith))

      go : NoSpell s z → ⊥
      go (none h) = clash s.x1 s.x2 z (next_of s.x1 z) (next_of s.x2 z) (k.none_x1 h) (k.none_x2 h) up down (next-near s.x1 z).0 (next-near s.x2 z).1
      go (just_ended (spell_is false h i)) = not-far (x2_of s z) (dry-ends s z k h i) b.found_x2
      go (just_ended (spell_is true h i)) = far-x1 (x1_of s z) (wet-ends h i) b.found_x1

  -- X1 and X2 that were both something are not both 0 a month later
  pub not-both-zero : (s.x1 ≡ pos 0 → ⊥) → (s.x2 ≡ pos 0 → ⊥) → x1_of s z ≡ pos 0 → x2_of s z ≡ pos 0 → ⊥
  not-both-zero n m p q =
      clash s.x1 s.x2 z (next_of s.x1 z) (next_of s.x2 z) (some_up s.x1 k.x1_sign n) (some-down s.x2 k.x2_sign m) up down (next-near s.x1 z).1 (next-near s.x2 z).0
    where
      some_up : (x : ℤ) → pos 0 ≤ℤ x → (x ≡ pos 0 → ⊥) → pos 1 ≤ℤ x
      some_up x h f = by_order (pos 1) x (pos 1 ≤ℤ x) (λ l. l) (λ l. absurd (f (is x h l)))
        where
          is : (x : ℤ) → pos 0 ≤ℤ x → x <ℤ pos 1 → x ≡ pos 0
          is x = rw (is-Z x) (simp zs (omega arith))

      some-down : (x : ℤ) → x ≤ℤ pos 0 → (x ≡ pos 0 → ⊥) → x ≤ℤ negsuc 0
      some-down x h f = by_order x (negsuc 0) (x ≤ℤ negsuc 0) (λ l. l) (λ l. absurd (f (is x h l)))
        where
          is : (x : ℤ) → x ≤ℤ pos 0 → negsuc 0 <ℤ x → x ≡ pos 0
          is x = rw (is-Z x) (simp zs (omega arith))

      up : next_of s.x1 z ≤ℤ pos 0
      up = raised-case (λ (n : ℤ). n ≡ pos 0 → next_of s.x1 z ≤ℤ pos 0) (next_of s.x1 z) (λ l e. rw e (record { le = tt })) (λ l e. ≤ℤ-of-< _ _ l) p

      down : pos 0 ≤ℤ next_of s.x2 z
      down = lowered-case (λ (n : ℤ). n ≡ pos 0 → pos 0 ≤ℤ next_of s.x2 z) (next_of s.x2 z) (λ l e. rw e (record { le = tt })) (λ l e. ≤ℤ-of-< _ _ l) q

      clash : (x y z p q : ℤ) → pos 1 ≤ℤ x → y ≤ℤ negsuc 0 → p ≤ℤ pos 0 → pos 0 ≤ℤ q → (pos 2 *ℤ sum x z) ≤ℤ (pos 6000 *ℤ p +ℤ pos 3000) → (pos 6000 *ℤ q) ≤ℤ (pos 2 *ℤ sum y z +ℤ pos 3000) → ⊥
      clash x y z p q = rw (is-Z x, is-Z y, is-Z z, is-Z p, is-Z q) (simp zs (omega arith))

-- ---- a month in which a drought ends: it leaves X2 at -550 or above, and founds no drought
abbrev Over : ℤ → SpellMonth → Type 0
Over x2 m = (neg_ℤ (pos 550) ≤ℤ x2) × (neg_ℤ (pos 550) ≤ℤ m.after.x2) × (pos 0 ≤ℤ m.after.x3)

module _ (s : Running) (z : ℤ) (k : Reached s) where
  over : InForce false s → ending_in false s z ≡ ended → Over (x2_of s z) (step_of s z)
  unfolding ending_month no_spell founded unfounded
  over h i =
      let b = dry-ends s z k h i in
      subst (Over (x2_of s z)) (sym (step-ending false s z ended h i))
      (by-tried (x1_of s z) (x2_of s z) 100 (Over (x2_of s z)) (λ p. (b, record { le = tt }, up (x1_of s z) p)) (λ p q. absurd (not-far (x2_of s z) b q)) (λ p q r. (b, b, record { le = tt })) (λ p q r t. (b, b, record { le = tt })) (λ p q r t. (b, b, record { le = tt })))
    where
      up : (x : ℤ) → pos 1000 ≤ℤ x → pos 0 ≤ℤ x
      up x = rw (is-Z x) (simp zs (omega arith))

  pub dry-over : s.x3 <ℤ neg_ℤ (pos 500) → (step_of s z).percent ≡ 100 → Over (x2_of s z) (step_of s z)
  unfolding turn
  dry-over h e = go ((percent-ended s z).1 e)
    where
      not-wet : (x : ℤ) → x <ℤ neg_ℤ (pos 500) → neg_ℤ x <ℤ neg_ℤ (pos 500) → ⊥
      not-wet x = rw (is-Z x) (simp zs (omega arith))

      go : SpellIs ended s z → Over (x2_of s z) (step_of s z)
      go (spell_is false n i) = over n i
      go (spell_is true n i) = absurd (not-wet s.x3 h n)

-- and by the mirror a wet spell leaves X1 at 550 or below, and founds no wet spell
pub wet-over : (s : Running) (z : ℤ) → Reached s → pos 500 <ℤ s.x3 → (step_of s z).percent ≡ 100
    → (x1_of s z ≤ℤ pos 550) × ((step_of s z).after.x1 ≤ℤ pos 550) × ((step_of s z).after.x3 ≤ℤ pos 0)
wet-over s z k h e =
    let values = mirror-values s z (never_both s z k) in
    let o = dry-over (mirror s) (neg_ℤ z) (reached-mirror s k) (far s.x3 h) (mirror-percent s z ∙ e) in (
      back (x1_of s z) (subst (λ (x : ℤ). neg_ℤ (pos 550) ≤ℤ x) (mirror-x2 s z) o.0),
      back (step_of s z).after.x1 (subst (λ (r : Running). neg_ℤ (pos 550) ≤ℤ r.x2) values o.1),
      low (step_of s z).after.x3 (subst (λ (r : Running). pos 0 ≤ℤ r.x3) values o.2),
    )
  where
    far : (x : ℤ) → pos 500 <ℤ x → neg_ℤ x <ℤ neg_ℤ (pos 500)
    far x = rw (is-Z x) (simp zs (omega arith))

    low : (x : ℤ) → pos 0 ≤ℤ neg_ℤ x → x ≤ℤ pos 0
    low x = rw (is-Z x) (simp zs (omega arith))

-- ---- a month keeps them so

-- X3 alone
alone : (n : ℤ) → Reached (record { x1 = pos 0; x2 = pos 0; x3 = n; v = pos 0 })
unfolding turn
alone n =
    record {
      x1_sign = record { le = tt };
      x2_sign = record { le = tt };
      none_x1 = λ h. record { lt = tt };
      none_x2 = λ h. record { lt = tt };
      dry_x2 = low n;
      wet_x1 = high n;
    }
  where
    low : (n : ℤ) → n <ℤ neg_ℤ (pos 500) → n ≤ℤ pos 0
    low n = rw (is-Z n) (simp zs (omega arith))

    high : (n : ℤ) → neg_ℤ n <ℤ neg_ℤ (pos 500) → pos 0 ≤ℤ n
    high n = rw (is-Z n) (simp zs (omega arith))

-- X1 and X2 tried
x1-up : (s : Running) (z : ℤ) → pos 0 ≤ℤ x1_of s z
x1-up s z = raised-case (λ (n : ℤ). pos 0 ≤ℤ n) (next_of s.x1 z) (λ h. h) (λ h. record { le = tt })

x2-down : (s : Running) (z : ℤ) → x2_of s z ≤ℤ pos 0
x2-down s z = lowered-case (λ (n : ℤ). n ≤ℤ pos 0) (next_of s.x2 z) (λ h. h) (λ h. record { le = tt })

tried-reached : (x1 x2 : ℤ) (percent : ℕ) → pos 0 ≤ℤ x1 → x2 ≤ℤ pos 0 → Reached (tried x1 x2 percent).after
unfolding founded unfounded turn
tried-reached x1 x2 percent h k =
    by-tried x1 x2 percent (λ m. Reached m.after) (λ p. alone x1) (λ p q. alone x2) (λ p q r. both p q) (λ p q r t. both p q) (λ p q r t. both p q)
  where
    both : x1 <ℤ pos 1000 → neg_ℤ (pos 1000) <ℤ x2 → Reached (record { x1 = x1; x2 = x2; x3 = pos 0; v = pos 0 })
    both p q = record { x1_sign = h; x2_sign = k; none_x1 = λ n. p; none_x2 = λ n. q; dry_x2 = λ n. absurd n.lt; wet_x1 = λ n. absurd n.lt }

-- an abating drought, and by the mirror an abating wet spell
dry-abates : (s : Running) (z v : ℤ) → Reached s → InForce false s → ending_in false s z ≡ abating → Reached (abating_values s v z)
unfolding abating_values turn
dry-abates s z v k h e =
    let far = abating-x3 false s z e in
    record {
      x1_sign = x1-up s z;
      x2_sign = x2-down s z;
      none_x1 = λ n. absurd (not_none (next_of s.x3 z) far n.0);
      none_x2 = λ n. absurd (not_none (next_of s.x3 z) far n.0);
      dry_x2 = λ n. lowered-case (λ (y : ℤ). next_of s.x3 z ≤ℤ y) (next_of s.x2 z) (λ l. next-rises s.x3 s.x2 z z (k.dry_x2 h) (≤ℤ_refl z)) (λ l. low (next_of s.x3 z) far);
      wet_x1 = λ n. absurd (not-wet (next_of s.x3 z) far n);
    }
  where
    not_none : (x : ℤ) → x ≤ℤ neg_ℤ (pos 550) → neg_ℤ (pos 500) ≤ℤ x → ⊥
    not_none x = rw (is-Z x) (simp zs (omega arith))

    not-wet : (x : ℤ) → x ≤ℤ neg_ℤ (pos 550) → neg_ℤ x <ℤ neg_ℤ (pos 500) → ⊥
    not-wet x = rw (is-Z x) (simp zs (omega arith))

    low : (x : ℤ) → x ≤ℤ neg_ℤ (pos 550) → x ≤ℤ pos 0
    low x = rw (is-Z x) (simp zs (omega arith))

abates : (wet : Bool) (s : Running) (z v : ℤ) → Reached s → InForce wet s → ending_in wet s z ≡ abating → Reached (abating_values s v z)
unfolding abating_values
abates false s z v k h e = dry-abates s z v k h e
abates true s z v k h e =
    reached-back (abating_values s v z)
    (subst Reached (same-values (mirror-x1 s z) (mirror-x2 s z) (next-odd s.x3 z) refl) (dry-abates (mirror s) (neg_ℤ z) (neg_ℤ v) (reached-mirror s k) (mirror-force s z true h) (mirror-ending s z true ∙ e)))

pub fresh-reached : Reached fresh
fresh-reached = alone (pos 0)

pub step-reached : (s : Running) (z : ℤ) → Reached s → Reached (step_of s z).after
unfolding ending_month steady_month abating_month no_spell
step-reached s z k = by-month s z (λ m. Reached m.after) spell (λ h. tried-reached (x1_of s z) (x2_of s z) 0 (x1-up s z) (x2-down s z))
  where
    spell : (wet : Bool) (e : Ending) → InForce wet s → ending_in wet s z ≡ e → Reached (ending_month e wet s z).after
    spell wet steady h i = alone (next_of s.x3 z)
    spell wet ended h i = tried-reached (x1_of s z) (x2_of s z) 100 (x1-up s z) (x2-down s z)
    spell wet abating h i = abates wet s z _ k h i

-- ---- the values of an open month are those that were tried, or that an abating spell has
pub open-values : (s : Running) (z : ℤ) → (step_of s z).decision ≡ None → ((step_of s z).after.x1 ≡ x1_of s z) × ((step_of s z).after.x2 ≡ x2_of s z)
unfolding ending_month steady_month abating_month abating_values no_spell founded unfounded
open-values s z = by-month s z Open spell (λ h. tries 0)
  where
    Open : SpellMonth → Type 0
    Open m = m.decision ≡ None → (m.after.x1 ≡ x1_of s z) × (m.after.x2 ≡ x2_of s z)

    tries : (percent : ℕ) → Open (tried (x1_of s z) (x2_of s z) percent)
    tries percent = by-tried (x1_of s z) (x2_of s z) percent Open (λ p e. absurd (decides-some X1 e)) (λ p q e. absurd (decides-some X2 e)) (λ p q r e. (refl, refl)) (λ p q r t e. (refl, refl)) (λ p q r t e. (refl, refl))

    spell : (wet : Bool) (e : Ending) → InForce wet s → ending_in wet s z ≡ e → Open (ending_month e wet s z)
    spell wet steady h i e = absurd (decides-some X3 e)
    spell wet ended h i e = tries 100 e
    spell wet abating h i e = (refl, refl)

-- with X3 = 0 a month does not decide with X3, and one that decides nothing leaves X3 = 0
pub none_stays : (s : Running) (z : ℤ) → s.x3 ≡ pos 0 → ((step_of s z).decision ≡ Some X3 → ⊥) × ((step_of s z).decision ≡ None → (step_of s z).after.x3 ≡ pos 0)
unfolding no_spell founded unfounded
none_stays s z e =
    subst NotByX3 (sym (step-none s z (low s.x3 e) (high s.x3 e)))
    (by-tried (x1_of s z) (x2_of s z) 0 NotByX3 (λ p. (not-x1, λ d. absurd (decides-some X1 d))) (λ p q. (not-x2, λ d. absurd (decides-some X2 d))) (λ p q r. (not-x2, λ d. refl)) (λ p q r t. (not-x1, λ d. refl)) (λ p q r t. (λ d. decides-some X3 (sym d), λ d. refl)))
  where
    NotByX3 : SpellMonth → Type 0
    NotByX3 m = (m.decision ≡ Some X3 → ⊥) × (m.decision ≡ None → m.after.x3 ≡ pos 0)

    not-x1 : Some X1 ≡ Some X3 → ⊥
    not-x1 d = let k : ◌≡◌ {A = ℕ} 0 1 = cc in omega arith

    not-x2 : Some X2 ≡ Some X3 → ⊥
    not-x2 d = let k : ◌≡◌ {A = ℕ} 0 1 = cc in omega arith

    low : (x : ℤ) → x ≡ pos 0 → negsuc 499 ≤ℤ x
    low x = rw (is-Z x) (simp zs (omega arith))

    high : (x : ℤ) → x ≡ pos 0 → x ≤ℤ pos 500
    high x = rw (is-Z x) (simp zs (omega arith))
