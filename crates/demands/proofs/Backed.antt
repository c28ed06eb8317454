-- The rows give the run back: after any accepted months of a fresh run the last row has its running values, the rows tell its open months, and these show what they
-- showed when they were added (`backed-all`). Assumes nothing.
use mathlib.Core.Path.{◌≡◌, refl, sym, ap, ◌∙◌, subst}
use mathlib.Core.Bool.{Bool, true, false}
use mathlib.Core.Logic.{◌⊎◌, inl, inr, ⊎_elim}
use mathlib.Core.List.{List, [], ◌∷◌, ◌++◌}
use Prim.Native.Nat.{ℕ, zero, suc, ◌-◌, ◌≤◌, ◌<◌}
use native.Mathlib.Omega.{arith}
use lib.IntN.{ℤ, pos}
use lib.ListN.{length, get_or, take, drop, length-append}
use lib.Seq.{get_or-set_same, get_or-set_other, get_or-take, get_or_at, take-append-le, length-take-le}
use Rattle.spells.specs.Spells.{step_of, provisional}
use Rattle.spells.specs.declared.SpellMonth.{SpellMonth}
use Rattle.hindsight.specs.Adding.{add_as}
use Rattle.runs.specs.declared.Run.{Run}
use Rattle.refusals.specs.Book.{Book, values_at}
use Rattle.refusals.proofs.Refused.{columns_are}
use Rattle.adding.specs.Taken.{Result, held_by, taken}
use Rattle.reopening.specs.Before.{decided, opens_before, values_before}
use Rattle.reopening.proofs.Laws.{step-decides, step-open, open-shows}
use Rattle.demands.specs.Months.{Ask, asked, State, standing, state_of, after, after_all, Accepted, Station, station_of, z_for, station_row}
use Rattle.demands.specs.Demands.{Fresh, first}
use Rattle.demands.proofs.Took.{Took, took, months-next, station-next, x1-next, x2-next, x3-next, v_next}
use Rattle.std.specs.Prelude.{Option, None, Some}
use Rattle.spells.specs.declared.With.{With}

-- ---- the rows before a place are all that tells
pub values_same : (cs ds : Book) (m : ℕ) → ((j : ℕ) → j < m → values_at ds j ≡ values_at cs j) → values_before ds m ≡ values_before cs m
values_same cs ds zero h = refl
values_same cs ds (suc m) h = h m (omega arith)

pub opens-same : (cs ds : Book) (m : ℕ) → ((j : ℕ) → j < m → values_at ds j ≡ values_at cs j) → opens_before ds m ≡ opens_before cs m
unfolding opens_before
opens-same cs ds zero h = refl
opens-same cs ds (suc m) h = rw (h m (omega arith), opens-same cs ds m (λ j l. h j (omega arith)))

-- ---- a run that its rows give back
pub record Backed (s : State) : Type 0 where
  pub values : values_before s.columns s.run.months ≡ s.run.values
  pub opens : opens_before s.columns s.run.months ≡ s.run.opens
  pub shows :
      (j : ℕ) → s.run.months - s.run.opens ≤ j → j < s.run.months
      → (get_or s.columns.index j (pos 0) ≡ provisional (values_at s.columns j)) × (get_or s.columns.mark j 0 ≡ 1)

-- ---- a month more
module _ (r : Run) (a : Ask) (cs : Book) (t : Took r a cs) where
  abbrev next : State
  next = state_of (asked r a cs)

  abbrev n : ℕ
  n = r.months

  abbrev step : SpellMonth
  step = step_of r.values (z_for (station_of r) a)

  -- its own row has the values after it, and those before are as they were
  pub own_row : values_at next.columns n ≡ step.after
  own_row =
      let l = columns_are cs t.good.fit in
      let row = station_row (station_of r) a in
      let room = t.room in
      rw (x1-next r a cs t, x2-next r a cs t, x3-next r a cs t, v_next r a cs t, get_or-set_same cs.x1 n row.x.x1 (pos 0) room, get_or-set_same cs.x2 n row.x.x2 (pos 0) (omega (arith, l.x2_is)), get_or-set_same cs.x3 n row.x.x3 (pos 0) (omega (arith, l.x3_is)), get_or-set_same cs.v n step.after.v (pos 0) (omega (arith, l.v_is)))

  pub rows_before : (j : ℕ) → j < n → values_at next.columns j ≡ values_at cs j
  rows_before j h =
      let row = station_row (station_of r) a in
      let ne : j ≡ n → ⊥ = λ e. omega arith in
      rw (x1-next r a cs t, x2-next r a cs t, x3-next r a cs t, v_next r a cs t, get_or-set_other cs.x1 n j row.x.x1 (pos 0) ne, get_or-set_other cs.x2 n j row.x.x2 (pos 0) ne, get_or-set_other cs.x3 n j row.x.x3 (pos 0) ne, get_or-set_other cs.v n j step.after.v (pos 0) ne)

  values-next : next.run.values ≡ step.after
  values-next = ap (λ (d : Station). d.values) (station-next r a cs t)

  -- what it leaves open, in index and in mark, by what it decides
  opens-next : (d : Option With) → step.decision ≡ d → next.run.opens ≡ (add_as d (held_by r cs) (station_row (station_of r) a)).opens
  unfolding taken
  opens-next d e = ap (λ (b : Result). b.answer.run.opens) t.did ∙ ap (λ (u : Option With). (add_as u (held_by r cs) (station_row (station_of r) a)).opens) e

  index-next : step.decision ≡ None → next.columns.index ≡ (take n cs.index ++ (step.index ∷ [])) ++ drop (suc n) cs.index
  unfolding taken
  index-next e = ap (λ (b : Result). b.columns.index) t.did ∙ ap (λ (u : Option With). (add_as u (held_by r cs) (station_row (station_of r) a)).index ++ drop (suc n) cs.index) e

  mark-next : step.decision ≡ None → next.columns.mark ≡ (take n cs.mark ++ (1 ∷ [])) ++ drop (suc n) cs.mark
  unfolding taken
  mark-next e = ap (λ (b : Result). b.columns.mark) t.did ∙ ap (λ (u : Option With). (add_as u (held_by r cs) (station_row (station_of r) a)).mark ++ drop (suc n) cs.mark) e

-- a place of a list that had one number more put behind its first n
pub put-before : {A : Type 0} (l rest : List A) (x d : A) (n j : ℕ) → n ≤ length l → j < n → get_or ((take n l ++ (x ∷ [])) ++ rest) j d ≡ get_or l j d
put-before l rest x d n j h k =
    let e = length-take-le n l h in
    sym (get_or-take n ((take n l ++ (x ∷ [])) ++ rest) j d k)
    ∙ ap (λ (u : List _). get_or u j d) (take-append-le n (take n l ++ (x ∷ [])) rest (omega (arith, length-append (take n l) (x ∷ []))) ∙ take-append-le n (take n l) (x ∷ []) (omega arith))
    ∙ get_or-take n (take n l) j d k
    ∙ get_or-take n l j d k

put-there : {A : Type 0} (l rest : List A) (x d : A) (n : ℕ) → n ≤ length l → get_or ((take n l ++ (x ∷ [])) ++ rest) n d ≡ x
put-there l rest x d n h =
    let e = length-take-le n l h in
    sym (get_or-take (suc n) ((take n l ++ (x ∷ [])) ++ rest) n d (omega arith))
    ∙ ap (λ (u : List _). get_or u n d) (take-append-le (suc n) (take n l ++ (x ∷ [])) rest (omega (arith, length-append (take n l) (x ∷ []))))
    ∙ get_or-take (suc n) (take n l ++ (x ∷ [])) n d (omega arith)
    ∙ get_or_at (take n l) x [] d n e

-- below a number's successor: below it, or it
below_or : (j n : ℕ) → j < suc n → (j < n) ⊎ (j ≡ n)
below_or zero zero h = inr refl
below_or zero (suc n) h = inl (omega arith)
below_or (suc j) zero h = absurd (omega arith)
below_or (suc j) (suc n) h = ⊎_elim (λ l. inl (omega arith)) (λ e. inr (ap suc e)) (below_or j n (omega arith))

module _ (r : Run) (a : Ask) (cs : Book) (t : Took r a cs) (b : Backed (standing r cs)) where
  opens_back : (d : Option With) → (step r a cs t).decision ≡ d → opens_before (next r a cs t).columns (suc r.months) ≡ (add_as d (held_by r cs) (station_row (station_of r) a)).opens
  unfolding opens_before
  opens_back None e =
      let no : decided (step r a cs t).after ≡ false = go (decided (step r a cs t).after) refl in
      rw (own_row r a cs t, no, opens-same cs (next r a cs t).columns r.months (rows_before r a cs t)) (ap suc b.opens)
    where
      go : (u : Bool) → decided (step r a cs t).after ≡ u → u ≡ false
      go true p = absurd (step-decides r.values (z_for (station_of r) a) p e)
      go false p = refl
  opens_back (Some w) e =
      let yes : decided (step r a cs t).after ≡ true = go (decided (step r a cs t).after) refl in
      rw (own_row r a cs t, yes)
    where
      go : (u : Bool) → decided (step r a cs t).after ≡ u → u ≡ true
      go true p = refl
      go false p = absurd (let q : Some w ≡ None = sym e ∙ step-open r.values (z_for (station_of r) a) p in let k : ◌≡◌ {A = ℕ} 0 1 = cc in omega arith)

  shows-back : (d : Option With) → (step r a cs t).decision ≡ d → (j : ℕ) → suc r.months - (add_as d (held_by r cs) (station_row (station_of r) a)).opens ≤ j → j < suc r.months
      → (get_or (next r a cs t).columns.index j (pos 0) ≡ provisional (values_at (next r a cs t).columns j)) × (get_or (next r a cs t).columns.mark j 0 ≡ 1)
  shows-back (Some w) e j l h = absurd (omega arith)
  shows-back None e j l h =
      let c = columns_are cs t.good.fit in
      let i : r.months ≤ length cs.index = omega (arith, c.index_is, t.room) in
      let m : r.months ≤ length cs.mark = omega (arith, c.mark_is, t.room) in
      ⊎_elim
      (λ k. let s = b.shows j (omega arith) k in (
        ap (λ (u : List ℤ). get_or u j (pos 0)) (index-next r a cs t e) ∙ put-before cs.index _ _ (pos 0) r.months j i k ∙ s.0 ∙ ap provisional (sym (rows_before r a cs t j k)),
        ap (λ (u : List ℕ). get_or u j 0) (mark-next r a cs t e) ∙ put-before cs.mark _ _ 0 r.months j m k ∙ s.1,
      ))
      (λ k. subst (λ (x : ℕ). (get_or (next r a cs t).columns.index x (pos 0) ≡ provisional (values_at (next r a cs t).columns x)) × (get_or (next r a cs t).columns.mark x 0 ≡ 1)) (sym k) (
        ap (λ (u : List ℤ). get_or u r.months (pos 0)) (index-next r a cs t e) ∙ put-there cs.index _ _ (pos 0) r.months i ∙ open-shows r.values (z_for (station_of r) a) e ∙ ap provisional (sym (own_row r a cs t)),
        ap (λ (u : List ℕ). get_or u r.months 0) (mark-next r a cs t e) ∙ put-there cs.mark _ _ 0 r.months m,
      ))
      (below_or j r.months h)

  pub backed-next : Backed (next r a cs t)
  backed-next =
      let m = months-next r a cs t in
      let d = (step r a cs t).decision in
      let o = opens-next r a cs t d refl in
      record {
        values = rw m (own_row r a cs t ∙ sym (values-next r a cs t));
        opens = rw m (opens_back d refl ∙ sym o);
        shows = rw (m, o) (shows-back d refl);
      }

pub backed-all : (s : State) (asks : List Ask) → Accepted s asks → Backed s → Backed (after_all s asks)
backed-all s [] h b = b
backed-all s (a ∷ later) h b = backed-all (after s a) later h.1 (backed-next s.run a s.columns (took s.run s.columns a h.0) b)

-- a start has no row
pub backed-first : (f : Fresh) → Backed (first f)
unfolding opens_before
backed-first f = record { values = refl; opens = refl; shows = λ j l h. absurd (omega arith) }
