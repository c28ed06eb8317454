-- A season in one call leaves what its months leave that are added one by one, as specs/Seasons.antt states it. The lists are followed once
-- (`made`); nothing of what a single add promises is proved again. Assumes nothing.
use mathlib.Core.Path.{◌≡◌, refl, sym, ap, ◌∙◌, subst}
use mathlib.Core.Bool.{Bool, true, false, ◌&&◌, cond}
use mathlib.Core.Logic.{⊎_elim}
use mathlib.Core.List.{List, [], ◌∷◌, ◌++◌}
use Prim.Native.Nat.{ℕ, zero, suc, ◌+◌, ◌-◌, ◌≤◌, ◌<◌}
use native.Mathlib.Omega.{arith}
use lib.Dec.{eqb}
use lib.IntN.{ℤ, pos}
use lib.ListN.{length, get_or, take, drop, length-append, length-drop}
use lib.Seq.{get_or-set_other, get_or-append-add, get_or-drop, length-take-le}
use Rattle.spells.specs.Spells.{step_of}
use Rattle.hindsight.specs.Adding.{add_month}
use Rattle.hindsight.specs.Months.{row_for}
use Rattle.calendar.specs.Calendar.{ZeroK}
use Rattle.runs.specs.declared.Run.{Run}
use Rattle.refusals.specs.Book.{Book, columns_fit}
use Rattle.adding.specs.Taken.{Result, held_by, taken}
use Rattle.refusals.proofs.Refused.{columns_are}
use Rattle.run_laws.proofs.Keeps.{wrote-index, wrote-mark}
use Rattle.season.specs.Season.{SeasonResult, season_result, nothing, joined, stopped, single, add_each, season_refusal, add_season}
use Rattle.season_month.specs.Listed.{listed}
use Rattle.outline.specs.Refusals.{bad_lists, or_else, unless_refused}
use Rattle.outline.proofs.Refusals.{is-done, is-refused}
use Rattle.demands.specs.Months.{Ask, water, asked, State, standing, after, after_all, Accepted, months_of, left_of, station_of, z_for}
use Rattle.demands.specs.Demands.{number_of}
use Rattle.demands.specs.Seasons.{settled_by, last_of, Singly, SameFrom, Seasons}
use Rattle.demands.proofs.Took.{Took, took, months-next, x1-next, x2-next, x3-next, records-next, v_next}
use Rattle.demands.proofs.Sequence.{months-all, after-append, accepted-append}
use Rattle.demands.proofs.Shown.{refused-add}
use Rattle.demands.proofs.Given.{zero_or}
use Rattle.demands.proofs.ZeroK.{unless-lists, not_done, run-refused}

-- ---- what the months of two lists make of a season so far: n of them are added
record Made (t : SeasonResult) (months : List Ask) (u : SeasonResult) : Type 0 where
  n : ℕ
  few : n ≤ length months
  added : u.answer.added ≡ t.answer.added + n
  accepted : Accepted (left_of t) (take n months)
  state : left_of u ≡ after_all (left_of t) (take n months)
  figures : u.answer.figures ≡ last_of t.answer.figures (left_of t) (take n months)
  settled : u.answer.settled ≡ t.answer.settled + settled_by (left_of t) (take n months)
  done : n ≡ length months → u.answer.number ≡ 0
  stops :
      (a : Ask) (earlier later : List Ask) → months ≡ earlier ++ (a ∷ later) → length earlier ≡ n
      → (u.answer.number ≡ (asked (left_of u).run a (left_of u).columns).answer.number) × (u.answer.number ≡ 0 → ⊥)

-- no month
made_none : (t : SeasonResult) → t.answer.number ≡ 0 → Made t [] t
made_none t z =
    record {
      n = 0;
      few = omega arith;
      added = omega arith;
      accepted = tt;
      state = refl;
      figures = refl;
      settled = omega arith;
      done = λ e. z;
      stops = λ a earlier later e l. let m = ap (length {A = Ask}) e in absurd (omega (arith, length-append earlier (a ∷ later)));
    }

abbrev later_of : List Ask → List Ask
later_of [] = []
later_of (a ∷ later) = later

abbrev first_of : Ask → List Ask → Ask
first_of d [] = d
first_of d (a ∷ later) = a

module _ (t : SeasonResult) (p pe : ℤ) (months : List Ask) where
  abbrev ask : Ask
  ask = water (listed p) (listed pe)

  abbrev alone : Result
  alone = single t p pe

  abbrev next : SeasonResult
  next = season_result (joined t.answer alone.answer) alone.columns

  abbrev stop : SeasonResult
  stop = season_result (stopped t.answer alone.answer.number) t.columns

  -- a month that is added, and those after it
  made_more : (u : SeasonResult) → alone.answer.number ≡ 0 → Made next months u → Made t (ask ∷ months) u
  made_more u z m =
      record {
        n = suc m.n;
        few = omega (arith, m.few);
        added = omega (arith, m.added);
        accepted = (z, m.accepted);
        state = m.state;
        figures = m.figures;
        settled = omega (arith, m.settled);
        done = λ e. m.done (omega arith);
        stops = later;
      }
    where
      later : (a : Ask) (earlier later : List Ask) → ask ∷ months ≡ earlier ++ (a ∷ later) → length earlier ≡ suc m.n
          → (u.answer.number ≡ (asked (left_of u).run a (left_of u).columns).answer.number) × (u.answer.number ≡ 0 → ⊥)
      later a [] l e h = absurd (omega arith)
      later a (x ∷ earlier) l e h = m.stops a earlier l (ap later_of e) (omega arith)

  -- a month that is refused
  made-stop : (alone.answer.number ≡ 0 → ⊥) → Made t (ask ∷ months) stop
  made-stop h =
      record {
        n = 0;
        few = omega arith;
        added = omega arith;
        accepted = tt;
        state = refl;
        figures = refl;
        settled = omega arith;
        done = λ e. absurd (omega arith);
        stops = here;
      }
    where
      here : (a : Ask) (earlier later : List Ask) → ask ∷ months ≡ earlier ++ (a ∷ later) → length earlier ≡ 0
          → (alone.answer.number ≡ (asked t.answer.run a t.columns).answer.number) × (alone.answer.number ≡ 0 → ⊥)
      here a [] l e k = (ap (λ (x : Ask). (asked t.answer.run x t.columns).answer.number) (ap (first_of ask) e), h)
      here a (x ∷ earlier) l e k = absurd (omega arith)

made : (ps pes : List ℤ) (t : SeasonResult) → t.answer.number ≡ 0 → Made t (months_of ps pes) (add_each t ps pes)
unfolding add_each
made [] pes t z = made_none t z
made (p ∷ ps) [] t z = made_none t z
made (p ∷ ps) (pe ∷ pes) t z =
    let months = months_of ps pes in
    let u = add_each (next t p pe months) ps pes in
    let k = (alone t p pe months).answer.number in
    ⊎_elim
    (λ e. subst (Made t (ask t p pe months ∷ months)) (sym (is-done k u (stop t p pe months) e)) (made_more t p pe months u e (made ps pes (next t p pe months) refl)))
    (λ h. subst (Made t (ask t p pe months ∷ months)) (sym (is-refused k u (stop t p pe months) h)) (made-stop t p pe months h))
    (zero_or k)

-- ---- from the first month on
module _ (r : Run) (ps pes : List ℤ) (cs : Book) where
  abbrev first : SeasonResult
  first = season_result (nothing 0 r) cs

  pub refused : (season_refusal r ps pes cs ≡ 0 → ⊥) → add_season r ps pes cs ≡ season_result (nothing (season_refusal r ps pes cs) r) cs
  unfolding add_season
  refused h = is-refused (season_refusal r ps pes cs) (add_each first ps pes) _ h

  pub begins : season_refusal r ps pes cs ≡ 0 → add_season r ps pes cs ≡ add_each first ps pes
  unfolding add_season
  begins z = is-done (season_refusal r ps pes cs) (add_each first ps pes) _ z

  singly : season_refusal r ps pes cs ≡ 0 → Singly (standing r cs) (months_of ps pes) (add_season r ps pes cs)
  singly z = subst (Singly (standing r cs) (months_of ps pes)) (sym (begins z)) go
    where
      m : Made first (months_of ps pes) (add_each first ps pes)
      m = made ps pes first refl

      count : (add_each first ps pes).answer.added ≡ m.n
      count = omega (arith, m.added)

      go : Singly (standing r cs) (months_of ps pes) (add_each first ps pes)
      go =
          record {
            added = omega (arith, m.few, count);
            accepted = rw count m.accepted;
            state = rw count m.state;
            figures = rw count m.figures;
            settled = rw count (omega (arith, m.settled));
            done = λ e. m.done (sym count ∙ e);
            stopped = λ a earlier later e h. m.stops a earlier later e (h ∙ count);
          }

  -- empty lists, and others: what stands when the call returns is what accepted months leave
  pub here-more : Accepted (standing r cs) (take (add_season r ps pes cs).answer.added (months_of ps pes)) × (left_of (add_season r ps pes cs) ≡ after_all (standing r cs) (take (add_season r ps pes cs).answer.added (months_of ps pes)))
  here-more =
      ⊎_elim
      (λ z. let g = singly z in (g.accepted, g.state))
      (λ h. rw (refused h) (tt, refl))
      (zero_or (season_refusal r ps pes cs))

-- a run that holds a K of 0: 1 for the lists or the columns, and otherwise 7
lists-first : (s t : Bool) → or_else (cond s 0 bad_lists) (unless-lists t) ≡ unless-lists (s && t)
lists-first true t = refl
lists-first false t = refl

module _ (r : Run) (ps pes : List ℤ) (cs : Book) (z : ZeroK r.constants) where
  no_run : season_refusal r ps pes cs ≡ unless-lists (eqb (length ps) (length pes) && columns_fit cs)
  unfolding season_refusal
  no_run = rw (run-refused r cs z) (lists-first (eqb (length ps) (length pes)) (columns_fit cs))

  zero-k : (add_season r ps pes cs).answer.number ≡ unless-lists (eqb (length ps) (length pes) && columns_fit cs)
  zero-k = rw (refused r ps pes cs (λ e. not_done (eqb (length ps) (length pes) && columns_fit cs) (sym no_run ∙ e))) no_run

empty : (r : Run) (cs : Book) → add_season r [] [] cs ≡ season_result (nothing (season_refusal r [] [] cs) r) cs
unfolding add_season add_each
empty r cs = go (season_refusal r [] [] cs)
  where
    go : (k : ℕ) → unless_refused k (season_result (nothing 0 r) cs) (season_result (nothing k r) cs) ≡ season_result (nothing k r) cs
    go zero = refl
    go (suc k) = refl

-- ---- places that no month has are never written
same : (n : ℕ) (cs : Book) → SameFrom n cs cs
same n cs =
    record { x1 = λ i h. refl; x2 = λ i h. refl; x3 = λ i h. refl; index = λ i h. refl; mark = λ i h. refl; records = λ i h. refl; v = λ i h. refl }

then : (n m : ℕ) (bs cs ds : Book) → n ≤ m → SameFrom n bs cs → SameFrom m cs ds → SameFrom m bs ds
then n m bs cs ds l a b =
    record {
      x1 = λ i h. b.x1 i h ∙ a.x1 i (omega arith);
      x2 = λ i h. b.x2 i h ∙ a.x2 i (omega arith);
      x3 = λ i h. b.x3 i h ∙ a.x3 i (omega arith);
      index = λ i h. b.index i h ∙ a.index i (omega arith);
      mark = λ i h. b.mark i h ∙ a.mark i (omega arith);
      records = λ i h. b.records i h ∙ a.records i (omega arith);
      v = λ i h. b.v i h ∙ a.v i (omega arith);
    }

-- beyond the first m + 1 places of a list that begins anew and goes on as before
beyond-list : {A : Type 0} (d : A) (new old : List A) (m : ℕ) → length (new ++ drop (suc m) old) ≡ length old → m < length old → (i : ℕ) → suc m ≤ i → get_or (new ++ drop (suc m) old) i d ≡ get_or old i d
beyond-list d new old m e l i h =
    let long : length new ≡ suc m = omega (arith, e, length-append new (drop (suc m) old), length-drop (suc m) old) in
    let there : length new + (i - suc m) ≡ i = omega (arith, long) in
    let back : suc m + (i - suc m) ≡ i = omega arith in
    sym (ap (λ (j : ℕ). get_or (new ++ drop (suc m) old) j d) there)
    ∙ get_or-append-add new (drop (suc m) old) (i - suc m) d
    ∙ get_or-drop (suc m) old (i - suc m) d
    ∙ ap (λ (j : ℕ). get_or old j d) back

module _ (r : Run) (a : Ask) (cs : Book) (t : Took r a cs) where
  abbrev left_by : Book
  left_by = (asked r a cs).columns

  apart : (i : ℕ) → suc r.months ≤ i → i ≡ r.months → ⊥
  apart i h e = omega arith

  one-beyond : SameFrom (suc r.months) cs left_by
  unfolding taken
  one-beyond =
      let row = row_for (step_of r.values (z_for (station_of r) a)) in
      let l = columns_are cs t.good.fit in
      let wi = wrote-index r cs t.good t.room row in
      let wm = wrote-mark r cs t.good t.room row in
      record {
        x1 = λ i h. ap (λ (c : List ℤ). get_or c i (pos 0)) (x1-next r a cs t) ∙ get_or-set_other cs.x1 r.months i row.x.x1 (pos 0) (apart i h);
        x2 = λ i h. ap (λ (c : List ℤ). get_or c i (pos 0)) (x2-next r a cs t) ∙ get_or-set_other cs.x2 r.months i row.x.x2 (pos 0) (apart i h);
        x3 = λ i h. ap (λ (c : List ℤ). get_or c i (pos 0)) (x3-next r a cs t) ∙ get_or-set_other cs.x3 r.months i row.x.x3 (pos 0) (apart i h);
        index = λ i h. ap (λ (b : Result). get_or b.columns.index i (pos 0)) t.did ∙ beyond-list (pos 0) (add_month (held_by r cs) row).index cs.index r.months (wi ∙ sym l.index_is) (omega (arith, l.index_is, t.room)) i h;
        mark = λ i h. ap (λ (b : Result). get_or b.columns.mark i 0) t.did ∙ beyond-list 0 (add_month (held_by r cs) row).mark cs.mark r.months (wm ∙ sym l.mark_is) (omega (arith, l.mark_is, t.room)) i h;
        records = λ i h. ap (λ (c : List (List ℤ)). get_or c i []) (records-next r a cs t) ∙ get_or-set_other cs.records r.months i _ [] (apart i h);
        v = λ i h. ap (λ (c : List ℤ). get_or c i (pos 0)) (v_next r a cs t) ∙ get_or-set_other cs.v r.months i _ (pos 0) (apart i h);
      }

-- accepted or refused, an add leaves no fewer months, and no place after them written
after-beyond : (s : State) (a : Ask) → (s.run.months ≤ (after s a).run.months) × SameFrom (after s a).run.months s.columns (after s a).columns
after-beyond s a =
    let b = refused-add s.run a s.columns in
    ⊎_elim
    (λ z. let t = took s.run s.columns a (b.0 ∙ z) in
    let m = months-next s.run a s.columns t in
    (omega (arith, m), rw m (one-beyond s.run a s.columns t)))
    (λ n. let c = b.1 n in rw (c.0, c.1) (omega arith, same s.run.months s.columns))
    (zero_or (number_of s.run a s.columns))

no-fewer : (s : State) (asks : List Ask) → s.run.months ≤ (after_all s asks).run.months
no-fewer s [] = omega arith
no-fewer s (a ∷ later) = omega (arith, (after-beyond s a).0, no-fewer (after s a) later)

pub all-beyond : (s : State) (asks : List Ask) → SameFrom (after_all s asks).run.months s.columns (after_all s asks).columns
all-beyond s [] = same s.run.months s.columns
all-beyond s (a ∷ later) =
    then (after s a).run.months (after_all (after s a) later).run.months s.columns (after s a).columns (after_all (after s a) later).columns (no-fewer (after s a) later) (after-beyond s a).1
    (all-beyond (after s a) later)

beyond : (r : Run) (ps pes : List ℤ) (cs : Book) → SameFrom (r.months + (add_season r ps pes cs).answer.added) cs (add_season r ps pes cs).columns
beyond r ps pes cs =
    ⊎_elim
    (λ z. let g = singly r ps pes cs z in
    let n = (add_season r ps pes cs).answer.added in
    let asks = take n (months_of ps pes) in
    let e : (after_all (standing r cs) asks).run.months ≡ r.months + n = months-all (standing r cs) asks g.accepted ∙ ap (λ (k : ℕ). r.months + k) (length-take-le n (months_of ps pes) g.added) in
    rw (ap (λ (s : State). s.columns) g.state) (subst (λ (k : ℕ). SameFrom k cs (after_all (standing r cs) asks).columns) e (all-beyond (standing r cs) asks)))
    (λ h. rw (refused r ps pes cs h) (same (r.months + 0) cs))
    (zero_or (season_refusal r ps pes cs))

-- ---- after accepted months
pub more : (s : State) (asks : List Ask) (ps pes : List ℤ) → Accepted s asks
    → let t = add_season (after_all s asks).run ps pes (after_all s asks).columns in
    Accepted s (asks ++ take t.answer.added (months_of ps pes)) × (left_of t ≡ after_all s (asks ++ take t.answer.added (months_of ps pes)))
more s asks ps pes h =
    let n = (add_season (after_all s asks).run ps pes (after_all s asks).columns).answer.added in
    let months = take n (months_of ps pes) in
    let g = here-more (after_all s asks).run ps pes (after_all s asks).columns in
    (accepted-append s asks months h g.0, g.1 ∙ sym (after-append s asks months))

pub seasons : Seasons
seasons = record { refused = refused; zero-k = zero-k; singly = singly; empty = empty; beyond = beyond; more = more }
