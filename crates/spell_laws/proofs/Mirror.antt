-- The mirror law: a month with every sign changed is the month's mirror, but for the three places of specs/Uneven.antt; there it
-- fails, and each of them is met. A month and its mirror go through the same cases (`by-mirror`, `by-tried2`). Assumes nothing.
use mathlib.Core.Path.{◌≡◌, refl, sym, ap, ap₂, ◌∙◌, subst}
use mathlib.Core.Bool.{Bool, true, false, cond, not}
use mathlib.Core.Logic.{◌⊎◌, inl, inr}
use Prim.Native.Nat.{ℕ, zero, suc, ◌≤◌, ◌<◌}
use native.Mathlib.Nat.{le_of_lt, le_refl}
use native.Mathlib.Omega.{arith}
use borrow.Author.Tests.{le-leb, lt-leb, leb-true, leb-false}
use lib.Dec.{leb}
use lib.IntN.{ℤ, pos, negsuc, neg_ℤ, nat_abs, neg_ℤ-neg_ℤ}
use lib.Signed.{◌≤ℤ◌, ◌<ℤ◌, <ℤ_irrefl}
use Rattle.exact.specs.Nearest.{nearest, nearest_ℕ}
use Rattle.exact.specs.Next.{next_of}
use Rattle.outline.specs.Numbers.{most_x}
use Rattle.exact.proofs.NextLaws.{next-odd}
use Rattle.exact.proofs.Z.{Z, zs, zs-abs, is-Z, Z-pos, Z-minus}
use Rattle.spells.specs.declared.Running.{Running}
use Rattle.spells.specs.declared.With.TheVariants.{X1, X2}
use Rattle.spells.specs.declared.SpellMonth.{SpellMonth}
use Rattle.spells.specs.Values.{fresh}
use Rattle.spells.specs.ValuesFit.{FitsWithin, ValuesFit}
use Rattle.spells.specs.Spells.{raised, lowered, larger_in_size, steady_month, abating_values, abating_month, founded, unfounded, tried, no_spell, ending_month, step_of}
use Rattle.ending.specs.Ending.{Ending, steady, ended, abating, turn, v_of}
use Rattle.spell_laws.specs.Months.{x1_of, x2_of}
use Rattle.spell_laws.specs.Cases.{InForce, NoneInForce, ending_in, spell_is, NoSpell, none, just_ended}
use Rattle.spell_laws.specs.Mirror.{mirror}
use Rattle.spell_laws.specs.Uneven.{mirror_decision, mirror_month, BothFound, BothZero, Tied, TiedValues}
use Rattle.spells.proofs.Choices.{same-values, raised-fits, lowered-fits, tried-first, tried-second, tried-x1, tried-x2, tried_open, step-none, provisional-x3}
use Rattle.spell_laws.proofs.Cases.{by_zero, by_order, by-tried, by-month, step-ending}
use Rattle.spell_laws.proofs.Abates.{abating-some}
use Rattle.spell_laws.proofs.Parts.{tried-percent}
use Rattle.std.specs.Prelude.{Option, None, Some}
use Rattle.spells.specs.declared.With.{With}

-- ---- signs
turn-not : (wet : Bool) (n : ℤ) → turn (not wet) (neg_ℤ n) ≡ turn wet n
unfolding turn
turn-not false n = neg_ℤ-neg_ℤ n
turn-not true n = refl

turn-flip : (wet : Bool) (n : ℤ) → turn (not wet) n ≡ neg_ℤ (turn wet n)
unfolding turn
turn-flip false n = refl
turn-flip true n = sym (neg_ℤ-neg_ℤ n)

raised-neg : (n : ℤ) → raised (neg_ℤ n) ≡ neg_ℤ (lowered n)
unfolding raised lowered
raised-neg (pos zero) = refl
raised-neg (pos (suc n)) = rw (lt-leb (suc n) 0 (omega arith))
raised-neg (negsuc n) = rw (le-leb 0 (suc n) (omega arith))

lowered-neg : (n : ℤ) → lowered (neg_ℤ n) ≡ neg_ℤ (raised n)
unfolding raised lowered
lowered-neg (pos zero) = refl
lowered-neg (pos (suc n)) = rw (le-leb 0 (suc n) (omega arith))
lowered-neg (negsuc n) = rw (lt-leb (suc n) 0 (omega arith))

neg-zero : (x : ℤ) → x ≡ pos 0 → neg_ℤ x ≡ pos 0
neg-zero x = rw (is-Z x) (simp zs (omega arith))

neg-some : (x : ℤ) → (x ≡ pos 0 → ⊥) → neg_ℤ x ≡ pos 0 → ⊥
neg-some x h e = h (back x e)
  where
    back : (x : ℤ) → neg_ℤ x ≡ pos 0 → x ≡ pos 0
    back x = rw (is-Z x) (simp zs (omega arith))

pub neg_low : (x : ℤ) → neg_ℤ (pos 1000) <ℤ x → neg_ℤ x <ℤ pos 1000
neg_low x = rw (is-Z x) (simp zs (omega arith))

pub neg-high : (x : ℤ) → x <ℤ pos 1000 → negsuc 999 <ℤ neg_ℤ x
neg-high x = rw (is-Z x) (simp zs (omega arith))

pub neg-up : (x : ℤ) → x ≤ℤ pos 0 → pos 0 ≤ℤ neg_ℤ x
neg-up x = rw (is-Z x) (simp zs (omega arith))

pub neg-down : (x : ℤ) → pos 0 ≤ℤ x → neg_ℤ x ≤ℤ pos 0
neg-down x = rw (is-Z x) (simp zs (omega arith))

neg-founds-x1 : (x : ℤ) → x ≤ℤ neg_ℤ (pos 1000) → pos 1000 ≤ℤ neg_ℤ x
neg-founds-x1 x = rw (is-Z x) (simp zs (omega arith))

neg-founds-x2 : (x : ℤ) → pos 1000 ≤ℤ x → neg_ℤ x ≤ℤ negsuc 999
neg-founds-x2 x = rw (is-Z x) (simp zs (omega arith))

pub neg-size : (x : ℤ) → nat_abs (neg_ℤ x) ≡ nat_abs x
neg-size (pos zero) = refl
neg-size (pos (suc n)) = refl
neg-size (negsuc n) = refl

-- the larger in size, where the sizes differ
larger-neg : (a b : ℤ) → (nat_abs a ≡ nat_abs b → ⊥) → larger_in_size (neg_ℤ b) (neg_ℤ a) ≡ neg_ℤ (larger_in_size a b)
unfolding larger_in_size
larger-neg a b h = rw (neg-size a, neg-size b) (go (leb (nat_abs a) (nat_abs b)) refl)
  where
    below : (m n : ℕ) → m ≤ n → (m ≡ n → ⊥) → m < n
    below m n l k = omega arith

    go : (t : Bool) → leb (nat_abs a) (nat_abs b) ≡ t → cond (leb (nat_abs b) (nat_abs a)) (neg_ℤ a) (neg_ℤ b) ≡ neg_ℤ (cond t b a)
    go true e = rw (lt-leb (nat_abs b) (nat_abs a) (below (nat_abs a) (nat_abs b) (leb-true (nat_abs a) (nat_abs b) e) h))
    go false e = rw (le-leb (nat_abs b) (nat_abs a) (le_of_lt (leb-false (nat_abs a) (nat_abs b) e)))

-- and where they do not
pub tie-second : (a b : ℤ) → nat_abs a ≡ nat_abs b → larger_in_size a b ≡ b
unfolding larger_in_size
tie-second a b e = rw (e, le-leb (nat_abs b) (nat_abs b) (le_refl _))

tie-neg : (a b : ℤ) → nat_abs a ≡ nat_abs b → larger_in_size (neg_ℤ b) (neg_ℤ a) ≡ neg_ℤ a
tie-neg a b e = tie-second (neg_ℤ b) (neg_ℤ a) (neg-size b ∙ sym e ∙ sym (neg-size a))

-- ---- X1 and X2 tried, and their mirrors
module _ (a b : ℤ) (percent : ℕ) (Q : SpellMonth → SpellMonth → Type 0) (not-both : pos 1000 ≤ℤ a → b ≤ℤ neg_ℤ (pos 1000) → ⊥) where
  abbrev other : SpellMonth
  other = tried (neg_ℤ b) (neg_ℤ a) percent

  by-tried2 :
      Q (founded a (Some X1) percent) (founded (neg_ℤ a) (Some X2) percent) →
      Q (founded b (Some X2) percent) (founded (neg_ℤ b) (Some X1) percent) →
      (a ≡ pos 0 → b ≡ pos 0 → Q (unfounded a b (Some X2) b percent) (unfounded (neg_ℤ b) (neg_ℤ a) (Some X2) (neg_ℤ a) percent)) →
      (a ≡ pos 0 → (b ≡ pos 0 → ⊥) → Q (unfounded a b (Some X2) b percent) (unfounded (neg_ℤ b) (neg_ℤ a) (Some X1) (neg_ℤ b) percent)) →
      ((a ≡ pos 0 → ⊥) → b ≡ pos 0 → Q (unfounded a b (Some X1) a percent) (unfounded (neg_ℤ b) (neg_ℤ a) (Some X2) (neg_ℤ a) percent)) →
      (a <ℤ pos 1000 → (a ≡ pos 0 → ⊥) → (b ≡ pos 0 → ⊥) → Q (unfounded a b None (larger_in_size a b) percent) (unfounded (neg_ℤ b) (neg_ℤ a) None (larger_in_size (neg_ℤ b) (neg_ℤ a)) percent)) →
      Q (tried a b percent) (tried (neg_ℤ b) (neg_ℤ a) percent)
  by-tried2 f g h k l o =
      by-tried a b percent (λ m. Q m other)
      (λ p.
      by_order b (neg_ℤ (pos 1000)) (Q (founded a (Some X1) percent) other) (λ q. absurd (not-both p q)) (λ q.
      subst (Q (founded a (Some X1) percent)) (sym (tried-second (neg_ℤ b) (neg_ℤ a) percent (neg_low b q) (neg-founds-x2 a p))) f))
      (λ p q. subst (Q (founded b (Some X2) percent)) (sym (tried-first (neg_ℤ b) (neg_ℤ a) percent (neg-founds-x1 b q))) g)
      (λ p q r.
      by_zero b (Q (unfounded a b (Some X2) b percent) other)
      (λ t. subst (Q (unfounded a b (Some X2) b percent)) (sym (tried-x2 (neg_ℤ b) (neg_ℤ a) percent (neg_low b q) (neg-high a p) (neg-zero b t))) (h r t))
      (λ t. subst (Q (unfounded a b (Some X2) b percent)) (sym (tried-x1 (neg_ℤ b) (neg_ℤ a) percent (neg_low b q) (neg-high a p) (neg-some b t) (neg-zero a r))) (k r t)))
      (λ p q r t. subst (Q (unfounded a b (Some X1) a percent)) (sym (tried-x2 (neg_ℤ b) (neg_ℤ a) percent (neg_low b q) (neg-high a p) (neg-zero b t))) (l r t))
      (λ p q r t. subst (Q (unfounded a b None (larger_in_size a b) percent)) (sym (tried_open (neg_ℤ b) (neg_ℤ a) percent (neg_low b q) (neg-high a p) (neg-some b t) (neg-some a r))) (o p r t))

same-month : {m n : SpellMonth} → m.after ≡ n.after → m.percent ≡ n.percent → m.decision ≡ n.decision → m.index ≡ n.index → m ≡ n
same-month p q r t = same p q r t
  where
    same : {a b : Running} {p q : ℕ} {d e : Option With} {i j : ℤ} → a ≡ b → p ≡ q → d ≡ e → i ≡ j → ◌≡◌ {A = SpellMonth} (record { after = a; percent = p; decision = d; index = i }) (record { after = b; percent = q; decision = e; index = j })
    same h k l o = cc

-- ---- a month and its mirror
module _ (s : Running) (z : ℤ) where
  pub mirror-x1 : x1_of (mirror s) (neg_ℤ z) ≡ neg_ℤ (x2_of s z)
  mirror-x1 = ap raised (next-odd s.x2 z) ∙ raised-neg (next_of s.x2 z)

  pub mirror-x2 : x2_of (mirror s) (neg_ℤ z) ≡ neg_ℤ (x1_of s z)
  mirror-x2 = ap lowered (next-odd s.x1 z) ∙ lowered-neg (next_of s.x1 z)

  mirror-v : (wet : Bool) → turn (not wet) (v_of (turn (not wet) (neg_ℤ s.v)) (turn (not wet) (neg_ℤ z))) ≡ neg_ℤ (turn wet (v_of (turn wet s.v) (turn wet z)))
  mirror-v wet =
      ap₂ (λ (v z : ℤ). turn (not wet) (v_of v z)) (turn-not wet s.v) (turn-not wet z) ∙ turn-flip wet (v_of (turn wet s.v) (turn wet z))

  pub mirror-force : (wet : Bool) → InForce wet s → InForce (not wet) (mirror s)
  mirror-force wet h = subst (λ (x : ℤ). x <ℤ neg_ℤ (pos 500)) (sym (turn-not wet s.x3)) h

  mirror-none : NoneInForce s → NoneInForce (mirror s)
  mirror-none h = go s.x3 h.0 h.1
    where
      go : (x : ℤ) → neg_ℤ (pos 500) ≤ℤ x → x ≤ℤ pos 500 → (neg_ℤ (pos 500) ≤ℤ neg_ℤ x) × (neg_ℤ x ≤ℤ pos 500)
      go x = rw (is-Z x) (simp zs (omega arith))

  pub mirror-ending : (wet : Bool) → ending_in (not wet) (mirror s) (neg_ℤ z) ≡ ending_in wet s z
  mirror-ending wet = cc (turn-not wet s.x3, turn-not wet s.v, turn-not wet z)

  abbrev tries : ℕ → SpellMonth
  tries percent = tried (neg_ℤ (x2_of s z)) (neg_ℤ (x1_of s z)) percent

  mirror-tried : (percent : ℕ) → no_spell (mirror s) (neg_ℤ z) percent ≡ tries percent
  unfolding no_spell
  mirror-tried percent = ap₂ (λ (a b : ℤ). tried a b percent) mirror-x1 mirror-x2

  module _ (Q : SpellMonth → SpellMonth → Type 0) where
    by-mirror :
        Q (steady_month s.x3 z) (steady_month (neg_ℤ s.x3) (neg_ℤ z)) →
        ((wet : Bool) → ending_in wet s z ≡ abating → Q (ending_month abating wet s z) (ending_month abating (not wet) (mirror s) (neg_ℤ z))) →
        ((percent : ℕ) → NoSpell s z → Q (tried (x1_of s z) (x2_of s z) percent) (tries percent)) →
        Q (step_of s z) (step_of (mirror s) (neg_ℤ z))
    unfolding ending_month no_spell
    by-mirror f g k =
        by-month s z (λ m. Q m (step_of (mirror s) (neg_ℤ z)))
        (λ wet e h i. subst (Q (ending_month e wet s z)) (sym (step-ending (not wet) (mirror s) (neg_ℤ z) e (mirror-force wet h) (mirror-ending wet ∙ i))) (go wet e h i))
        (λ h. subst (Q (no_spell s z 0)) (sym (step-none (mirror s) (neg_ℤ z) (mirror-none h).0 (mirror-none h).1 ∙ mirror-tried 0)) (k 0 (none h)))
      where
        go : (wet : Bool) (e : Ending) → InForce wet s → ending_in wet s z ≡ e → Q (ending_month e wet s z) (ending_month e (not wet) (mirror s) (neg_ℤ z))
        go wet steady h i = f
        go wet ended h i = subst (Q (no_spell s z 100)) (sym (mirror-tried 100)) (k 100 (just_ended (spell_is wet h i)))
        go wet abating h i = g wet i

  -- the percent of the mirror is the percent, always
  pub mirror-percent : (step_of (mirror s) (neg_ℤ z)).percent ≡ (step_of s z).percent
  unfolding steady_month abating_month ending_month
  mirror-percent =
      by-mirror (λ m n. n.percent ≡ m.percent)
      refl
      (λ wet i. cc (turn-not wet s.x3, turn-not wet s.v, turn-not wet z))
      (λ percent n. tried-percent (neg_ℤ (x2_of s z)) (neg_ℤ (x1_of s z)) percent ∙ sym (tried-percent (x1_of s z) (x2_of s z) percent))

  module _ (not-both : BothFound s z → ⊥) where
    apart : NoSpell s z → pos 1000 ≤ℤ x1_of s z → x2_of s z ≤ℤ neg_ℤ (pos 1000) → ⊥
    apart n p q = not-both (record { found_none = n; found_x1 = p; found_x2 = q })

    -- the running values mirror, but in (a)
    pub mirror-values : (step_of (mirror s) (neg_ℤ z)).after ≡ mirror (step_of s z).after
    unfolding steady_month abating_month abating_values ending_month founded unfounded
    mirror-values =
        by-mirror (λ m n. n.after ≡ mirror m.after)
        (same-values refl refl (next-odd s.x3 z) refl)
        (λ wet i. same-values mirror-x1 mirror-x2 (next-odd s.x3 z) (mirror-v wet))
        (λ percent n. by-tried2 (x1_of s z) (x2_of s z) percent (λ m n. n.after ≡ mirror m.after) (apart n) refl refl (λ p q. refl) (λ p q. refl) (λ p q. refl) (λ p q r. refl))

    -- the decision mirrors, but in (a) and (b)
    pub mirror-decision : (BothZero s z → ⊥) → (step_of (mirror s) (neg_ℤ z)).decision ≡ mirror_decision (step_of s z).decision
    unfolding steady_month abating_month ending_month founded unfounded
    mirror-decision not_zero =
        by-mirror (λ m n. n.decision ≡ mirror_decision m.decision)
        refl
        (λ wet i. refl)
        (λ percent n. by-tried2 (x1_of s z) (x2_of s z) percent (λ m n. n.decision ≡ mirror_decision m.decision) (apart n) refl refl (λ p q. absurd (not_zero (record { zero_none = n; zero_x1 = p; zero_x2 = q }))) (λ p q. refl) (λ p q. refl) (λ p q r. refl))

    -- in (b) both decide with X2
    pub mirror-decides :
        ((step_of (mirror s) (neg_ℤ z)).decision ≡ mirror_decision (step_of s z).decision)
        ⊎ (((step_of s z).decision ≡ Some X2) × ((step_of (mirror s) (neg_ℤ z)).decision ≡ Some X2) × BothZero s z)
    unfolding steady_month abating_month ending_month founded unfounded
    mirror-decides =
        by-mirror Turns (inl refl) (λ wet i. inl refl)
        (λ percent n. by-tried2 (x1_of s z) (x2_of s z) percent Turns (apart n) (inl refl) (inl refl) (λ p q. inr (refl, refl, record { zero_none = n; zero_x1 = p; zero_x2 = q })) (λ p q. inl refl) (λ p q. inl refl) (λ p q r. inl refl))
      where
        Turns : SpellMonth → SpellMonth → Type 0
        Turns m n = (n.decision ≡ mirror_decision m.decision) ⊎ ((m.decision ≡ Some X2) × (n.decision ≡ Some X2) × BothZero s z)

    -- the index mirrors, but in (a) and (c)
    pub mirror-index : (Tied s z → ⊥) → (step_of (mirror s) (neg_ℤ z)).index ≡ neg_ℤ (step_of s z).index
    unfolding steady_month abating_month abating_values ending_month founded unfounded
    mirror-index not-tied =
        by-mirror (λ m n. n.index ≡ neg_ℤ m.index)
        (next-odd s.x3 z)
        (λ wet i.
        provisional-x3 (abating_values (mirror s) (turn (not wet) (v_of (turn (not wet) (neg_ℤ s.v)) (turn (not wet) (neg_ℤ z)))) (neg_ℤ z)) (λ e. neg-some (next_of s.x3 z) (abating-some wet s z i) (sym (next-odd s.x3 z) ∙ e))
        ∙ next-odd s.x3 z
        ∙ sym (ap neg_ℤ (provisional-x3 (abating_values s (turn wet (v_of (turn wet s.v) (turn wet z))) z) (abating-some wet s z i))))
        (λ percent n. by-tried2 (x1_of s z) (x2_of s z) percent (λ m n. n.index ≡ neg_ℤ m.index) (apart n) refl refl (λ p q. ap neg_ℤ (p ∙ sym q)) (λ p q. refl) (λ p q. refl)
        (λ l p q. larger-neg (x1_of s z) (x2_of s z) (λ e. not-tied (record { tied_none = n; tied_some = p; tied_low = l; tied_size = e }))))

    -- so the month with every sign changed is the month's mirror, but in (a), (b) and (c)
    pub mirror-law : (BothZero s z → ⊥) → (Tied s z → ⊥) → step_of (mirror s) (neg_ℤ z) ≡ mirror_month (step_of s z)
    mirror-law not_zero not-tied = same-month mirror-values mirror-percent (mirror-decision not_zero) (mirror-index not-tied)

-- the mirror of a run's values is a run's
pub mirror-fits : (most : ℕ) (s : Running) → FitsWithin most s → FitsWithin most (mirror s)
mirror-fits most s f =
    record {
      x1_size = subst (λ (n : ℕ). n ≤ most_x) (sym (neg-size s.x2)) f.x2_size;
      x2_size = subst (λ (n : ℕ). n ≤ most_x) (sym (neg-size s.x1)) f.x1_size;
      x3_size = subst (λ (n : ℕ). n ≤ most_x) (sym (neg-size s.x3)) f.x3_size;
      v_size = subst (λ (n : ℕ). n ≤ most) (sym (neg-size s.v)) f.v_size;
      x1_sign = neg-up s.x2 f.x2_sign;
      x2_sign = neg-down s.x1 f.x1_sign;
      v_above = λ h. down' s.x3 (f.v_below (back s.v h));
      v_below = λ h. up' s.x3 (f.v_above (back' s.v h));
    }
  where
    up' : (x : ℤ) → x <ℤ pos 0 → pos 0 <ℤ neg_ℤ x
    up' x = rw (is-Z x) (simp zs (omega arith))

    down' : (x : ℤ) → pos 0 <ℤ x → neg_ℤ x <ℤ pos 0
    down' x = rw (is-Z x) (simp zs (omega arith))

    back : (x : ℤ) → pos 0 <ℤ neg_ℤ x → x <ℤ pos 0
    back x = rw (is-Z x) (simp zs (omega arith))

    back' : (x : ℤ) → neg_ℤ x <ℤ pos 0 → pos 0 <ℤ x
    back' x = rw (is-Z x) (simp zs (omega arith))

-- ---- the three places are exceptions: the law fails wherever one of them holds
module _ (s : Running) (z : ℤ) (Q : SpellMonth → SpellMonth → Type 0) where
  at-no-spell : NoSpell s z → ((percent : ℕ) → Q (tried (x1_of s z) (x2_of s z) percent) (tries s z percent)) → Q (step_of s z) (step_of (mirror s) (neg_ℤ z))
  unfolding ending_month no_spell
  at-no-spell (none h) f =
      subst (λ (m : SpellMonth). Q m (step_of (mirror s) (neg_ℤ z))) (sym (step-none s z h.0 h.1))
      (subst (Q (no_spell s z 0)) (sym (step-none (mirror s) (neg_ℤ z) (mirror-none s z h).0 (mirror-none s z h).1 ∙ mirror-tried s z 0)) (f 0))
  at-no-spell (just_ended (spell_is wet h i)) f =
      subst (λ (m : SpellMonth). Q m (step_of (mirror s) (neg_ℤ z))) (sym (step-ending wet s z ended h i))
      (subst (Q (no_spell s z 100)) (sym (step-ending (not wet) (mirror s) (neg_ℤ z) ended (mirror-force s z wet h) (mirror-ending s z wet ∙ i) ∙ mirror-tried s z 100)) (f 100))

module _ (s : Running) (z : ℤ) where
  abbrev a-x1 : ℤ
  a-x1 = x1_of s z

  abbrev b-x2 : ℤ
  b-x2 = x2_of s z

  -- in (a) neither the running values nor the decision nor the index mirror
  pub both-found-fails :
      BothFound s z →
      ((step_of (mirror s) (neg_ℤ z)).after ≡ mirror (step_of s z).after → ⊥)
      × ((step_of (mirror s) (neg_ℤ z)).decision ≡ mirror_decision (step_of s z).decision → ⊥)
      × ((step_of (mirror s) (neg_ℤ z)).index ≡ neg_ℤ (step_of s z).index → ⊥)
  unfolding founded
  both-found-fails h =
      at-no-spell s z Differ h.found_none (λ percent.
      subst (λ (m : SpellMonth). Differ m (tries s z percent)) (sym (tried-first a-x1 b-x2 percent h.found_x1))
      (subst (Differ (founded a-x1 (Some X1) percent)) (sym (tried-first (neg_ℤ b-x2) (neg_ℤ a-x1) percent (neg-founds-x1 b-x2 h.found_x2))) (
        (λ e. apart a-x1 b-x2 h.found_x1 h.found_x2 (ap (λ (r : Running). r.x3) e)),
        (λ e. let k : ◌≡◌ {A = ℕ} 0 1 = cc in omega arith),
        apart a-x1 b-x2 h.found_x1 h.found_x2,
      )))
    where
      Differ : SpellMonth → SpellMonth → Type 0
      Differ m n = (n.after ≡ mirror m.after → ⊥) × (n.decision ≡ mirror_decision m.decision → ⊥) × (n.index ≡ neg_ℤ m.index → ⊥)

      apart : (a b : ℤ) → pos 1000 ≤ℤ a → b ≤ℤ neg_ℤ (pos 1000) → neg_ℤ b ≡ neg_ℤ a → ⊥
      apart a b = rw (is-Z a, is-Z b) (simp zs (omega arith))

  -- in (b) the decision does not
  pub both-zero-fails : BothZero s z → (step_of (mirror s) (neg_ℤ z)).decision ≡ mirror_decision (step_of s z).decision → ⊥
  unfolding unfounded
  both-zero-fails h =
      at-no-spell s z (λ m n. n.decision ≡ mirror_decision m.decision → ⊥) h.zero_none (λ percent.
      subst (λ (m : SpellMonth). (tries s z percent).decision ≡ mirror_decision m.decision → ⊥) (sym (tried-x2 a-x1 b-x2 percent (low a-x1 h.zero_x1) (high b-x2 h.zero_x2) h.zero_x1))
      (subst (λ (n : SpellMonth). n.decision ≡ Some X1 → ⊥) (sym (tried-x2 (neg_ℤ b-x2) (neg_ℤ a-x1) percent (low (neg_ℤ b-x2) (neg-zero b-x2 h.zero_x2)) (high (neg_ℤ a-x1) (neg-zero a-x1 h.zero_x1)) (neg-zero b-x2 h.zero_x2)))
      (λ e. let k : ◌≡◌ {A = ℕ} 0 1 = cc in omega arith)))
    where
      low : (x : ℤ) → x ≡ pos 0 → x <ℤ pos 1000
      low x = rw (is-Z x) (simp zs (omega arith))

      high : (x : ℤ) → x ≡ pos 0 → negsuc 999 <ℤ x
      high x = rw (is-Z x) (simp zs (omega arith))

-- in (c) nothing is decided, and both show X2
module _ (s : Running) (z : ℤ) (h : Tied s z) where
  a_sign : pos 0 ≤ℤ a-x1 s z
  a_sign = (raised-fits (next_of s.x1 z) (nat_abs (next_of s.x1 z)) (le_refl _)).1

  b_sign : b-x2 s z ≤ℤ pos 0
  b_sign = (lowered-fits (next_of s.x2 z) (nat_abs (next_of s.x2 z)) (le_refl _)).1

  b-high : negsuc 999 <ℤ b-x2 s z
  b-high = small (a-x1 s z) (b-x2 s z) a_sign b_sign h.tied_low h.tied_size
    where
      small : (a b : ℤ) → pos 0 ≤ℤ a → b ≤ℤ pos 0 → a <ℤ pos 1000 → nat_abs a ≡ nat_abs b → negsuc 999 <ℤ b
      small a b = rw (is-Z a, is-Z b) (simp zs-abs (omega arith))

  b-some : b-x2 s z ≡ pos 0 → ⊥
  b-some e = h.tied_some (zero (a-x1 s z) (b-x2 s z) h.tied_size e)
    where
      zero : (a b : ℤ) → nat_abs a ≡ nat_abs b → b ≡ pos 0 → a ≡ pos 0
      zero a b = rw (is-Z a, is-Z b) (simp zs-abs (omega arith))

  at-tie :
      (Q : SpellMonth → SpellMonth → Type 0) →
      ((percent : ℕ) → Q (unfounded (a-x1 s z) (b-x2 s z) None (larger_in_size (a-x1 s z) (b-x2 s z)) percent) (unfounded (neg_ℤ (b-x2 s z)) (neg_ℤ (a-x1 s z)) None (larger_in_size (neg_ℤ (b-x2 s z)) (neg_ℤ (a-x1 s z))) percent)) →
      Q (step_of s z) (step_of (mirror s) (neg_ℤ z))
  at-tie Q f =
      at-no-spell s z Q h.tied_none (λ percent.
      subst (λ (m : SpellMonth). Q m (tries s z percent)) (sym (tried_open (a-x1 s z) (b-x2 s z) percent h.tied_low b-high h.tied_some b-some))
      (subst (Q (unfounded (a-x1 s z) (b-x2 s z) None (larger_in_size (a-x1 s z) (b-x2 s z)) percent)) (sym (tried_open (neg_ℤ (b-x2 s z)) (neg_ℤ (a-x1 s z)) percent (neg_low (b-x2 s z) b-high) (neg-high (a-x1 s z) h.tied_low) (neg-some (b-x2 s z) b-some) (neg-some (a-x1 s z) h.tied_some)))
      (f percent)))

  -- so the index does not mirror
  pub tied-fails : (step_of (mirror s) (neg_ℤ z)).index ≡ neg_ℤ (step_of s z).index → ⊥
  unfolding unfounded
  tied-fails =
      at-tie (λ m n. n.index ≡ neg_ℤ m.index → ⊥) (λ percent e.
      apart (a-x1 s z) (b-x2 s z) a_sign b_sign h.tied_some (sym (tie-neg (a-x1 s z) (b-x2 s z) h.tied_size) ∙ e ∙ ap neg_ℤ (tie-second (a-x1 s z) (b-x2 s z) h.tied_size)))
    where
      apart : (a b : ℤ) → pos 0 ≤ℤ a → b ≤ℤ pos 0 → (a ≡ pos 0 → ⊥) → neg_ℤ a ≡ neg_ℤ b → ⊥
      apart a b p q n e = n (both a b p q e)
        where
          both : (a b : ℤ) → pos 0 ≤ℤ a → b ≤ℤ pos 0 → neg_ℤ a ≡ neg_ℤ b → a ≡ pos 0
          both a b = rw (is-Z a, is-Z b) (simp zs (omega arith))

  -- and the tie is seen in the month's own values, under no X3
  pub tied-open : ((step_of s z).decision ≡ None) × TiedValues (step_of s z).after
  unfolding unfounded
  tied-open = at-tie (λ m n. (m.decision ≡ None) × TiedValues m.after) (λ percent. (refl, record { values_x3 = refl; values_size = h.tied_size; values_some = h.tied_some }))

-- ---- and each of them is met, at a state that a run could hold

abbrev balanced : ℕ → Running
balanced n = record { x1 = pos n; x2 = neg_ℤ (pos n); x3 = pos 0; v = pos 0 }

fit-balanced : (n : ℕ) → n ≤ most_x → ValuesFit (balanced n)
fit-balanced n h =
    record {
      x1_size = h;
      x2_size = rw (neg-size (pos n)) h;
      x3_size = omega arith;
      v_size = omega arith;
      x1_sign = nonneg (pos n) (Z-pos n);
      x2_sign = nonpos (neg_ℤ (pos n)) (Z-minus n);
      v_above = λ k. absurd k.lt;
      v_below = λ k. absurd k.lt;
    }
  where
    nonneg : (x : ℤ) → x ≡ Z n 0 → pos 0 ≤ℤ x
    nonneg x e = rw e (simp zs (omega arith))

    nonpos : (x : ℤ) → x ≡ Z 0 n → x ≤ℤ pos 0
    nonpos x e = rw e (simp zs (omega arith))

calm : (n : ℕ) (z : ℤ) → NoSpell (balanced n) z
calm n z = none (record { le = tt }, record { le = tt })

-- (a) X1 = 5,000, X2 = -5,000 and Z 0
pub both-found-met : ValuesFit (balanced 5000) × BothFound (balanced 5000) (pos 0)
unfolding nearest nearest_ℕ next_of raised lowered
both-found-met =
    (fit-balanced 5000 (omega arith), record { found_none = calm 5000 (pos 0); found_x1 = record { le = tt }; found_x2 = record { le = tt } })

-- (b) a fresh run and Z 0
pub both-zero-met : ValuesFit fresh × BothZero fresh (pos 0)
unfolding nearest nearest_ℕ next_of raised lowered
both-zero-met = (fit-balanced 0 (omega arith), record { zero_none = calm 0 (pos 0); zero_x1 = refl; zero_x2 = refl })

-- (c) X1 = 500, X2 = -500 and Z 0: they become 449 and -449
pub tied-met : ValuesFit (balanced 500) × Tied (balanced 500) (pos 0)
unfolding nearest nearest_ℕ next_of raised lowered
tied-met = (
  fit-balanced 500 (omega arith),
  record {
    tied_none = calm 500 (pos 0);
    tied_some = λ e. <ℤ_irrefl (subst (λ (x : ℤ). pos 0 <ℤ x) e (record { lt = tt }));
    tied_low = record { lt = tt };
    tied_size = refl;
  },
)
