-- The months of a list of Z beside those of the list turned, from any running values that a fresh run comes to and their mirror. A month's
-- own values mirror; its decision does, but where X1 and X2 are both 0, and there both lists decide with X2. That is harmless: of the open
-- months before it none takes its side from it but where its own X1 and X2 are 0 (`Told`, proofs/Sides.antt). Assumes nothing.
use mathlib.Core.Path.{◌≡◌, refl, sym, ap, ap₂, ◌∙◌, subst, subst₂}
use mathlib.Core.Logic.{◌⊎◌, inl, inr}
use mathlib.Core.Bool.{Bool, true, false}
use mathlib.Core.List.{List, [], ◌∷◌, map}
use Prim.Native.Nat.{ℕ, zero, suc}
use native.Mathlib.Omega.{arith}
use lib.IntN.{ℤ, pos, neg_ℤ, nat_abs}
use lib.Signed.{◌≤ℤ◌}
use lib.ListN.{get_or}
use Rattle.exact.proofs.Z.{zs-abs, is-Z}
use Rattle.spells.specs.declared.Running.{Running}
use Rattle.spells.specs.declared.With.{With}
use Rattle.spells.specs.declared.With.TheVariants.{X2}
use Rattle.spells.specs.declared.SpellMonth.{SpellMonth}
use Rattle.spells.specs.Spells.{larger_in_size, provisional, step_of}
use Rattle.spells.proofs.Choices.{zero_is}
use Rattle.spell_laws.specs.Mirror.{mirror}
use Rattle.spell_laws.specs.Uneven.{mirror_with, mirror_decision, BothZero, TiedValues}
use Rattle.spell_laws.specs.Reached.{Reached}
use Rattle.spell_laws.proofs.Cases.{decides-some}
use Rattle.spell_laws.proofs.Theorems.{decides-nothing}
use Rattle.spell_laws.proofs.Mirror.{mirror-values, mirror-decides, mirror-index, tie-second, neg-size, tied-open}
use Rattle.spell_laws.proofs.Reached.{never_both, not-both-zero, step-reached, open-values}
use Rattle.hindsight.specs.Rule.{X, Row, nonzero, Deciding, nobody, after, one_earlier, deciding_for, deciding, Shown, shown_by, mark_of, index_of, forward, forward_marks}
use Rattle.hindsight.specs.Adding.{History, add_as, settled_as}
use Rattle.hindsight.specs.Columns.{rows_of}
use Rattle.hindsight.specs.Months.{mark_for, row_for, next_values, row_of_z}
use Rattle.demands.specs.Months.{no_row}
use Rattle.demands.specs.Mirror.{turned, mirror_x, Excepted, TurnsAbout}
use Rattle.demands.proofs.Sides.{nothing, some, NotBoth, Told, settled-turned, settled-level}
use Rattle.std.specs.Prelude.{Option, None, Some}

-- ---- one month of a list, and of the list turned
provisional-none : (r : Running) → r.x3 ≡ pos 0 → provisional r ≡ larger_in_size r.x1 r.x2
unfolding provisional
provisional-none r e = rw (zero_is r.x3 e)

module _ (s : Running) (z : ℤ) (k : Reached s) where
  abbrev month : SpellMonth
  month = step_of s z

  abbrev mirrored : SpellMonth
  mirrored = step_of (mirror s) (neg_ℤ z)

  pub step-values : mirrored.after ≡ mirror month.after
  step-values = mirror-values s z (never_both s z k)

  pub x-turned : (row_for mirrored).x ≡ mirror_x (row_for month).x
  x-turned = ap (λ (r : Running). record { x1 = r.x1; x2 = r.x2; x3 = r.x3 }) step-values

  -- the decision mirrors, or both decide with X2, and then X1 and X2 were not both something
  abbrev Decisions : Type 0
  Decisions =
      (mirrored.decision ≡ mirror_decision month.decision)
      ⊎ ((month.decision ≡ Some X2) × (mirrored.decision ≡ Some X2) × NotBoth s)

  step-decides : Decisions
  step-decides = go (mirror-decides s z (never_both s z k))
    where
      go : (mirrored.decision ≡ mirror_decision month.decision) ⊎ ((month.decision ≡ Some X2) × (mirrored.decision ≡ Some X2) × BothZero s z) → Decisions
      go (inl e) = inl e
      go (inr (p, q, b)) = inr (p, q, λ f g. not-both-zero s z k f g b.zero_x1 b.zero_x2)

  -- an open month of the one is an open month of the other
  step-open : month.decision ≡ None → mirrored.decision ≡ None
  step-open e = go step-decides
    where
      go : Decisions → mirrored.decision ≡ None
      go (inl q) = q ∙ ap mirror_decision e
      go (inr (p, q, f)) = absurd (decides-some X2 (sym p ∙ e))

  -- and settles as many
  pub step-settled : (n : ℕ) → settled_as mirrored.decision n ≡ settled_as month.decision n
  step-settled n = go step-decides month.decision refl
    where
      go : Decisions → (d : Option With) → month.decision ≡ d → settled_as mirrored.decision n ≡ settled_as month.decision n
      go (inl e) None d = rw (e, d)
      go (inl e) (Some w) d = rw (e, d)
      go (inr (p, q, f)) d e = rw (p, q)

  -- and leaves as many open
  pub step-opens : (held held' : History) → held'.opens ≡ held.opens → (add_as mirrored.decision held' (row_for mirrored)).opens ≡ (add_as month.decision held (row_for month)).opens
  step-opens held held' o = go step-decides month.decision refl
    where
      go : Decisions → (d : Option With) → month.decision ≡ d → (add_as mirrored.decision held' (row_for mirrored)).opens ≡ (add_as month.decision held (row_for month)).opens
      go (inl e) None d = rw (e, d) (ap suc o)
      go (inl e) (Some w) d = rw (e, d)
      go (inr (p, q, f)) d e = rw (p, q)

  -- the index turns about, unless the month is open and ties
  step-index : (month.decision ≡ None → TiedValues month.after → ⊥) → mirrored.index ≡ neg_ℤ month.index
  step-index f = mirror-index s z (never_both s z k) (λ t. let o = tied-open s z t in f o.0 o.1)

  -- and then it is X2 in both
  step-tie : month.decision ≡ None → TiedValues month.after → (month.index ≡ month.after.x2) × (mirrored.index ≡ month.after.x2)
  step-tie e t =
      let after-reached = step-reached s z k in (
        (decides-nothing s z e).0 ∙ shows month.after t.values_x3 t.values_size,
        (decides-nothing (mirror s) (neg_ℤ z) (step-open e)).0
            ∙ ap provisional step-values
            ∙ shows (mirror month.after) (ap neg_ℤ t.values_x3) (neg-size month.after.x2 ∙ sym t.values_size ∙ sym (neg-size month.after.x1))
            ∙ opposite month.after.x1 month.after.x2 after-reached.x1_sign after-reached.x2_sign t.values_size,
      )
    where
      shows : (r : Running) → r.x3 ≡ pos 0 → nat_abs r.x1 ≡ nat_abs r.x2 → provisional r ≡ r.x2
      shows r p q = provisional-none r p ∙ tie-second r.x1 r.x2 q

      opposite : (a b : ℤ) → pos 0 ≤ℤ a → b ≤ℤ pos 0 → nat_abs a ≡ nat_abs b → neg_ℤ a ≡ b
      opposite a b = rw (is-Z a, is-Z b) (simp zs-abs (omega arith))

  -- one open month more before the one that decides
  told_more : month.decision ≡ None → (l : List X) → Told month.after l → Told s ((row_for month).x ∷ l)
  told_more d l t = go (nonzero month.after.x1) (nonzero month.after.x2) refl refl t
    where
      go : (a b : Bool) → nonzero month.after.x1 ≡ a → nonzero month.after.x2 ≡ b → Told month.after l → Told s ((row_for month).x ∷ l)
      go true true p q (inl e) = inl (rw (p, q) e)
      go true true p q (inr (h, f)) = absurd (f (some month.after.x1 p) (some month.after.x2 q))
      go true false p q t = inl (rw (p, q) refl)
      go false true p q t = inl (rw (p, q) refl)
      go false false p q t =
          let o = open-values s z d in
          let x1 = nothing month.after.x1 p in
          let x2 = nothing month.after.x2 q in
          inr ((x1, x2), λ f g. not-both-zero s z k f g (sym o.0 ∙ x1) (sym o.1 ∙ x2))

-- ---- the deciding month of a list, and of the list turned

-- what they decide with: the one with the other's mirror, or both with X2, and then P
abbrev WithTurned : With → With → Type 0 → Type 0
WithTurned w w' P = (w' ≡ mirror_with w) ⊎ ((w ≡ X2) × (w' ≡ X2) × P)

with-more : (w w' : With) (P Q : Type 0) → (P → Q) → WithTurned w w' P → WithTurned w w' Q
with-more w w' P Q f (inl e) = inl e
with-more w w' P Q f (inr (d, e, p)) = inr (d, e, f p)

Opposite : Running → Deciding → Deciding → Type 0
Opposite s nobody nobody = Unit {0}
Opposite s nobody (after l w i) = ⊥
Opposite s (after l w i) nobody = ⊥
Opposite s (after l w i) (after l' w' i') = (l' ≡ map mirror_x l) × (i' ≡ neg_ℤ i) × WithTurned w w' (Told s l)

abbrev rows : Running → List ℤ → List Row
rows s zs = rows_of next_values row_of_z s zs

module _ (s : Running) (z : ℤ) (k : Reached s) where
  earlier : (d : (month s z k).decision ≡ None) (b b' : Deciding) → Opposite (month s z k).after b b' → Opposite s (one_earlier (row_for (month s z k)).x b) (one_earlier (row_for (mirrored s z k)).x b')
  unfolding Opposite
  earlier d nobody nobody o = tt
  earlier d nobody (after l w i) o = absurd o
  earlier d (after l w i) nobody o = absurd o
  earlier d (after l w i) (after l' w' i') (p, q, r) = (
    ap₂ (λ (m : X) (t : List X). m ∷ t) (x-turned s z k) p,
    q,
    with-more w w' (Told (month s z k).after l) (Told s ((row_for (month s z k)).x ∷ l)) (told_more s z k d l) r,
  )

  -- a month that decides, by what it decides with
  decides-now : (w w' : With) → (month s z k).decision ≡ Some w → WithTurned w w' (NotBoth s) → Opposite s (after [] w (month s z k).index) (after [] w' (mirrored s z k).index)
  unfolding Opposite
  decides-now w w' d o = (refl, step-index s z k (λ e t. absurd (decides-some w (sym d ∙ e))), with-more w w' (NotBoth s) (Told s []) (λ n. inr (tt, n)) o)

  -- a month and the months after it
  head-turned : (b b' : Deciding) → Opposite (month s z k).after b b'
      → Opposite s (deciding_for (month s z k).decision (row_for (month s z k)) b) (deciding_for (mirrored s z k).decision (row_for (mirrored s z k)) b')
  head-turned b b' o = go (step-decides s z k) (month s z k).decision refl
    where
      Goal : Option With → Option With → Type 0
      Goal d d' = Opposite s (deciding_for d (row_for (month s z k)) b) (deciding_for d' (row_for (mirrored s z k)) b')

      go : Decisions s z k → (d : Option With) → (month s z k).decision ≡ d → Goal (month s z k).decision (mirrored s z k).decision
      go (inl e) None d = subst₂ Goal (sym d) (sym (e ∙ ap mirror_decision d)) (earlier d b b' o)
      go (inl e) (Some w) d = subst₂ Goal (sym d) (sym (e ∙ ap mirror_decision d)) (decides-now w (mirror_with w) d (inl refl))
      go (inr (p, q, n)) x d = subst₂ Goal (sym p) (sym q) (decides-now X2 X2 p (inr (refl, refl, n)))

-- the months after a month, from the values that it leaves
next-turned : {s : Running} (P : Running → Type 0) (z : ℤ) → Reached s → P (mirror (next_values s z)) → P (next_values (mirror s) (neg_ℤ z))
next-turned {s} P z k h = subst P (sym (step-values s z k)) h

deciding-turned : (s : Running) → Reached s → (zs : List ℤ) → Opposite s (deciding (rows s zs)) (deciding (rows (mirror s) (turned zs)))
unfolding Opposite
deciding-turned s k [] = tt
deciding-turned s k (z ∷ zs) =
    let later = deciding (rows (next_values s z) zs) in
    head-turned s z k later (deciding (rows (next_values (mirror s) (neg_ℤ z)) (turned zs)))
    (next-turned (λ (r : Running). Opposite (next_values s z) later (deciding (rows r (turned zs)))) z k (deciding-turned (next_values s z) (step-reached s z k) zs))

-- ---- what a month shows
one-not-two : (n : ℕ) → n ≡ 1 → n ≡ 2 → ⊥
one-not-two n a b = omega arith

-- all that is said of a month, from the mark, the index where it is not excepted, and both indexes where it is
pub turns-of : (x : X) (a b : Shown) → b.mark ≡ a.mark → ((Excepted x a → ⊥) → b.index ≡ neg_ℤ a.index) → (Excepted x a → (a.index ≡ x.x2) × (b.index ≡ x.x2)) → TurnsAbout x a b
turns-of x a b p f g =
    record {
      mark_kept = p;
      settled_turns = λ two. f (λ t. one-not-two a.mark t.is_open two);
      exactly = ((λ e t. t.not_zero (own x.x1 x.x2 t.one_size (sym (g t).1 ∙ e ∙ ap neg_ℤ (g t).0))), f);
      stays = g;
    }
  where
    own : (x y : ℤ) → nat_abs x ≡ nat_abs y → y ≡ neg_ℤ y → x ≡ pos 0
    own x y = rw (is-Z x, is-Z y) (simp zs-abs (omega arith))

shown-after : (s : Running) (l : List X) (w w' : With) (i i' p p' : ℤ) → i' ≡ neg_ℤ i → WithTurned w w' (Told s l)
    → shown_by p' (after (map mirror_x l) w' i') ≡ record { mark = 2; index = neg_ℤ (shown_by p (after l w i)).index }
shown-after s [] w w' i i' p p' e o = rw e
shown-after s (m ∷ l) w w' i i' p p' e (inl f) = rw (f, settled-turned w m l)
shown-after s (m ∷ l) w w' i i' p p' e (inr (f, g, t)) = rw (f, g, settled-level s m l t)

-- a month that is settled, whoever settles it
settled_turns : (s : Running) (m : X) (l : List X) (w : With) (i p p' : ℤ) (b' : Deciding) → Opposite s (after l w i) b' → TurnsAbout m (shown_by p (after l w i)) (shown_by p' b')
unfolding Opposite
settled_turns s m l w i p p' nobody o = absurd o
settled_turns s m l w i p p' (after l' w' i') (q, e, o) =
    let h = ap (λ (t : List X). shown_by p' (after t w' i')) q ∙ shown-after s l w w' i i' p p' e o in
    turns-of m (shown_by p (after l w i)) (shown_by p' (after l' w' i')) (ap mark_of h ∙ sym (twos p l w i)) (λ f. ap index_of h)
    (λ t. absurd (one-not-two (shown_by p (after l w i)).mark t.is_open (twos p l w i)))
  where
    twos : (p : ℤ) (l : List X) (w : With) (i : ℤ) → (shown_by p (after l w i)).mark ≡ 2
    twos p [] w i = refl
    twos p (m ∷ l) w i = refl

module _ (s : Running) (z : ℤ) (k : Reached s) where
  -- the month, and the deciding months from it on
  abbrev Goal : Deciding → Deciding → Type 0
  Goal b b' = TurnsAbout (row_for (month s z k)).x (shown_by (month s z k).index b) (shown_by (mirrored s z k).index b')

  abbrev from : Option With → Deciding → Deciding
  from d b = deciding_for d (row_for (month s z k)) b

  abbrev from' : Option With → Deciding → Deciding
  from' d b = deciding_for d (row_for (mirrored s z k)) b

  -- it does not decide
  open-turns : (month s z k).decision ≡ None → (b b' : Deciding) → Opposite (month s z k).after b b' → Goal (from None b) (from' None b')
  unfolding Opposite
  open-turns d nobody nobody o =
      turns-of (row_for (month s z k)).x (shown_by (month s z k).index nobody) (shown_by (mirrored s z k).index nobody) refl
      (λ f. step-index s z k (λ e t. f (record { is_open = refl; no_x3 = t.values_x3; one_size = t.values_size; not_zero = t.values_some })))
      (λ t. step-tie s z k d (record { values_x3 = t.no_x3; values_size = t.one_size; values_some = t.not_zero }))
  open-turns d nobody (after l w i) o = absurd o
  open-turns d (after l w i) nobody o = absurd o
  open-turns d (after l w i) (after l' w' i') o = settled_turns s (row_for (month s z k)).x ((row_for (month s z k)).x ∷ l) w i (month s z k).index (mirrored s z k).index (from' None (after l' w' i')) (earlier s z k d (after l w i) (after l' w' i') o)

  month-turns : (b b' : Deciding) → Opposite (month s z k).after b b' → Goal (from (month s z k).decision b) (from' (mirrored s z k).decision b')
  month-turns b b' o = go (month s z k).decision refl
    where
      go : (d : Option With) → (month s z k).decision ≡ d → Goal (from (month s z k).decision b) (from' (mirrored s z k).decision b')
      go None d = subst₂ (λ (e e' : Option With). Goal (from e b) (from' e' b')) (sym d) (sym (step-open s z k d)) (open-turns d b b' o)
      go (Some w) d =
          subst (λ (e : Option With). Goal (from e b) (from' (mirrored s z k).decision b')) (sym d)
          (settled_turns s (row_for (month s z k)).x [] w (month s z k).index (month s z k).index (mirrored s z k).index (from' (mirrored s z k).decision b') (subst (λ (e : Option With). Opposite s (from e b) (from' (mirrored s z k).decision b')) d (head-turned s z k b b' o)))

  -- the month as it is added, before any other
  added : (d : Option With) (m : SpellMonth) → shown_by m.index (deciding_for d (row_for m) nobody) ≡ record { mark = mark_for d; index = m.index }
  added None m = refl
  added (Some w) m = refl

  pub step-shown : TurnsAbout (row_for (month s z k)).x (record { mark = mark_for (month s z k).decision; index = (month s z k).index }) (record { mark = mark_for (mirrored s z k).decision; index = (mirrored s z k).index })
  unfolding Opposite
  step-shown = subst₂ (TurnsAbout (row_for (month s z k)).x) (added (month s z k).decision (month s z k)) (added (mirrored s z k).decision (mirrored s z k)) (month-turns nobody nobody tt)

-- ═══ WHAT FOLLOWS, of every month of a list of Z ═══

-- what it shows, open or settled
pub every-turns : (s : Running) → Reached s → (zs : List ℤ) (i : ℕ) → TurnsAbout (get_or (rows s zs) i no_row).x (forward (rows s zs) i) (forward (rows (mirror s) (turned zs)) i)
every-turns s k [] i = turns-of no_row.x (forward [] i) (forward [] i) refl (λ f. refl) (λ t. (refl, refl))
every-turns s k (z ∷ zs) zero =
    let later = deciding (rows (next_values s z) zs) in
    month-turns s z k later (deciding (rows (next_values (mirror s) (neg_ℤ z)) (turned zs)))
    (next-turned (λ (r : Running). Opposite (next_values s z) later (deciding (rows r (turned zs)))) z k (deciding-turned (next_values s z) (step-reached s z k) zs))
every-turns s k (z ∷ zs) (suc i) =
    next-turned (λ (r : Running). TurnsAbout (get_or (rows (next_values s z) zs) i no_row).x (forward (rows (next_values s z) zs) i) (forward (rows r (turned zs)) i)) z k
    (every-turns (next_values s z) (step-reached s z k) zs i)

-- its own values
pub every-x : (s : Running) → Reached s → (zs : List ℤ) (i : ℕ) → (get_or (rows (mirror s) (turned zs)) i no_row).x ≡ mirror_x (get_or (rows s zs) i no_row).x
every-x s k [] i = refl
every-x s k (z ∷ zs) zero = x-turned s z k
every-x s k (z ∷ zs) (suc i) =
    next-turned (λ (r : Running). (get_or (rows r (turned zs)) i no_row).x ≡ mirror_x (get_or (rows (next_values s z) zs) i no_row).x) z k (every-x (next_values s z) (step-reached s z k) zs i)

-- the marks, all of them
pub marks-same : (s : Running) → Reached s → (zs : List ℤ) → forward_marks (rows (mirror s) (turned zs)) ≡ forward_marks (rows s zs)
marks-same s k [] = refl
marks-same s k (z ∷ zs) =
    ap₂ (λ (n : ℕ) (l : List ℕ). n ∷ l) (every-turns s k (z ∷ zs) 0).mark_kept
    (next-turned (λ (r : Running). forward_marks (rows r (turned zs)) ≡ forward_marks (rows (next_values s z) zs)) z k (marks-same (next_values s z) (step-reached s z k) zs))
