-- The run before a month, and its columns then, from a fresh run's later state: `run_before` is the run that stood there (`run-back`), and the months open again hold
-- with those before them what the columns held then (`months-back`). Assumes nothing.
use mathlib.Core.Path.{◌≡◌, refl, sym, ap, ◌∙◌}
use mathlib.Core.Bool.{true}
use mathlib.Core.Logic.{◌⊎◌, inl, inr, ⊎_elim}
use mathlib.Core.List.{List, [], ◌∷◌, ◌++◌}
use Prim.Native.Nat.{ℕ, zero, suc, ◌+◌, ◌-◌, ◌≤◌, ◌<◌}
use native.Mathlib.Omega.{arith}
use lib.IntN.{ℤ, pos, nat_abs}
use lib.ListN.{length, get_or, take, drop, replicate, get_or-append, get_or-replicate, length-replicate, length-set}
use lib.Seq.{get_or-set_same, get_or-set_other, get_or-take, get_or-drop, get_or-append-add, length-take-le, ext_get_or}
use Rattle.spells.specs.Spells.{provisional}
use Rattle.hindsight.specs.Coded.{state_of as stateAfter}
use Rattle.records.specs.Record.{numbers_of, record_at, record_in}
use Rattle.records.specs.declared.Record.{Record}
use Rattle.refusals.specs.Book.{Book, long, columns_fit, values_at}
use Rattle.refusals.specs.Good.{Good}
use Rattle.refusals.proofs.Refused.{columns_are}
use Rattle.adding.proofs.Readiness.{run_is}
use Rattle.reopening.specs.Before.{opens_before, calendar_back, run_before, shown_from, reopened_by, reopened}
use Rattle.reopening.proofs.Laws.{back-again, shown-long, index_long, mark_long}
use Rattle.reworking.specs.Reworked.{renewed, renewed_in}
use Rattle.demands.specs.Months.{Ask, water, inches, anomaly, State, after, after_all, Accepted, Station, station_of, soil_for, station_next, record_for}
use Rattle.demands.specs.Demands.{Fresh, first, now}
use Rattle.demands.specs.Longer.{SameMonths}
use Rattle.demands.proofs.Took.{took, months-next, good-kept, records-next}
use Rattle.demands.proofs.Sequence.{months-all, station-all, long-all, values-stay}
use Rattle.demands.proofs.Shown.{settled-stays-settled, open-are-last}
use Rattle.demands.proofs.Chain.{constants-stay, calendar-moves}
use Rattle.demands.proofs.Honest.{good-always}
use Rattle.demands.proofs.Recorded.{starts-so}
use Rattle.demands.proofs.Backed.{values_same, opens-same, Backed, backed-all, backed-first}

-- ---- lists, place by place
-- two lists with the same first n places
pub first-same : {A : Type 0} (d : A) (n : ℕ) (l m : List A) → n ≤ length l → n ≤ length m → ((j : ℕ) → j < n → get_or l j d ≡ get_or m j d) → take n l ≡ take n m
first-same d n l m h k e =
    let a = length-take-le n l h in
    let b = length-take-le n m k in
    ext_get_or d (take n l) (take n m) (a ∙ sym b) (λ j i. get_or-take n l j d (omega arith) ∙ e j (omega arith) ∙ sym (get_or-take n m j d (omega arith)))

-- below a place, or not
pub below : (j n : ℕ) → (j < n) ⊎ (n ≤ j)
below zero zero = inr (omega arith)
below zero (suc n) = inl (omega arith)
below (suc j) zero = inr (omega arith)
below (suc j) (suc n) = ⊎_elim (λ h. inl (omega arith)) (λ h. inr (omega arith)) (below j n)

-- a list whose places from a to b are others
module _ {A : Type 0} (l m : List A) (d : A) (a b : ℕ) (h : a ≤ b) (k : b ≤ length l) (e : length m ≡ b - a) where
  abbrev spliced : List A
  spliced = take a l ++ (m ++ drop b l)

  taken-long : length (take a l) ≡ a
  taken-long = length-take-le a l (omega arith)

  pub spliced-before : (j : ℕ) → j < a → get_or spliced j d ≡ get_or l j d
  spliced-before j i = get_or-append (take a l) (m ++ drop b l) d j (omega (arith, taken-long)) ∙ get_or-take a l j d i

  past_first : (j : ℕ) → a ≤ j → get_or spliced j d ≡ get_or (m ++ drop b l) (j - a) d
  past_first j i =
      let q : j ≡ length (take a l) + (j - a) = omega (arith, taken-long) in
      ap (λ (x : ℕ). get_or spliced x d) q ∙ get_or-append-add (take a l) (m ++ drop b l) (j - a) d

  pub spliced-there : (j : ℕ) → a ≤ j → j < b → get_or spliced j d ≡ get_or m (j - a) d
  spliced-there j i c = past_first j i ∙ get_or-append m (drop b l) d (j - a) (omega arith)

  pub spliced-beyond : (j : ℕ) → b ≤ j → get_or spliced j d ≡ get_or l j d
  spliced-beyond j i =
      let q : j - a ≡ length m + (j - b) = omega arith in
      let r : b + (j - b) ≡ j = omega arith in
      past_first j (omega arith) ∙ ap (λ (x : ℕ). get_or (m ++ drop b l) x d) q ∙ get_or-append-add m (drop b l) (j - b) d ∙ get_or-drop b l (j - b) d ∙ ap (λ (x : ℕ). get_or l x d) r

-- what open months show, place by place
shown-at : (cs : Book) (i k j : ℕ) → j < k → get_or (shown_from cs i k) j (pos 0) ≡ provisional (values_at cs (i + j))
unfolding shown_from
shown-at cs i zero j h = absurd (omega arith)
shown-at cs i (suc k) zero h = let e : i ≡ i + 0 = omega arith in ap (λ (x : ℕ). provisional (values_at cs x)) e
shown-at cs i (suc k) (suc j) h = let e : suc i + j ≡ i + suc j = omega arith in shown-at cs (suc i) k j (omega arith) ∙ ap (λ (x : ℕ). provisional (values_at cs x)) e

-- ---- what no month changes
pub capacity-stays : (d : Station) (a : Ask) → (soil_for d a).capacity ≡ d.soil.capacity
capacity-stays d (water p pe) = refl
capacity-stays d (inches q) = refl
capacity-stays d (anomaly z) = refl

pub capacity-all : (d : Station) (asks : List Ask) → (stateAfter station_next d asks).soil.capacity ≡ d.soil.capacity
capacity-all d [] = refl
capacity-all d (a ∷ later) = capacity-all (station_next d a) later ∙ capacity-stays d a

-- ---- a fresh run, with months after the place that is gone back to
module _ (f : Fresh) (before : List Ask) (h : Accepted (first f) before) (a : Ask) (later : List Ask) (k : Accepted (now f before) (a ∷ later)) where
  abbrev pub then : State
  then = now f before

  abbrev pub last : State
  last = after_all then (a ∷ later)

  abbrev pub place : ℕ
  place = then.run.months

  placed : place ≡ length before
  placed = omega (arith, months-all (first f) before h)

  months-then : last.run.months ≡ place + suc (length later)
  months-then = months-all then (a ∷ later) k

  pub good-then : Good then.run then.columns
  good-then = (took then.run then.columns a k.0).good

  pub good-last : Good last.run last.columns
  good-last = good-always (after then a) later (good-kept then.run a then.columns (took then.run then.columns a k.0))

  backed : Backed then
  backed = backed-all (first f) before h (backed-first f)

  pub rows_stay : (j : ℕ) → j < place → values_at last.columns j ≡ values_at then.columns j
  rows_stay j l = let v = values-stay then (a ∷ later) k j l in rw (v.0, v.1, v.2, v.4)

  pub opens-then : opens_before last.columns place ≡ then.run.opens
  opens-then = opens-same then.columns last.columns place rows_stay ∙ backed.opens

  -- the month's own record has the storages at its start
  pub record-there : record_at last.columns.records place ≡ record_for (station_of then.run) a
  record-there =
      let t = took then.run then.columns a k.0 in
      let m = months-next then.run a then.columns t in
      let c = columns_are then.columns t.good.fit in
      ap record_in (
      (values-stay (after then a) later k.1 place (omega arith)).3
      ∙ ap (λ (l : List (List ℤ)). get_or l place []) (records-next then.run a then.columns t)
      ∙ get_or-set_same then.columns.records place (numbers_of (record_for (station_of then.run) a)) [] (omega (arith, t.room, c.records_is))
      )

  station-then : station_of last.run ≡ stateAfter station_next (station_of then.run) (a ∷ later)
  station-then = station-all then (a ∷ later) k

  calendar-then : calendar_back last.run.calendar (last.run.months - place) ≡ then.run.calendar
  calendar-then =
      let g = run_is then.run then.columns good-then in
      let e = ap (λ (d : Station). d.calendar) station-then ∙ calendar-moves (station_of then.run) (a ∷ later) g.first_month g.last_month in
      let n : last.run.months - place ≡ suc (length later) = omega (arith, months-then) in
      rw (e, n) (back-again then.run.calendar (suc (length later)) g.first_month g.last_month)

  pub capacity-then : last.run.soil.capacity ≡ then.run.soil.capacity
  capacity-then = ap (λ (d : Station). d.soil.capacity) station-then ∙ capacity-all (station_of then.run) (a ∷ later)

  -- THE RUN THAT STOOD THERE
  pub run-back : run_before last.run last.columns place ≡ then.run
  run-back =
      let s = starts-so (station_of then.run) a in
      let n = ap (λ (d : Station). d.constants) station-then ∙ constants-stay (station_of then.run) (a ∷ later) in
      let v = values_same then.columns last.columns place rows_stay ∙ backed.values in
      let ss = ap nat_abs (ap (λ (m : Record). m.ss) record-there ∙ s.0) in
      let su = ap nat_abs (ap (λ (m : Record). m.su) record-there ∙ s.1) in
      rw (opens-then, calendar-then, capacity-then, n, v, ss, su)

  -- ---- THE MONTHS THAT WERE OPEN THEN, open again
  abbrev pub opened : Book
  opened = reopened_by last.columns place then.run.opens

  pub opened-is : reopened last.columns place ≡ opened
  opened-is = ap (reopened_by last.columns place) opens-then

  pub few : then.run.opens ≤ place
  few = (run_is then.run then.columns good-then).opens

  abbrev pub from : ℕ
  from = place - then.run.opens

  -- the last columns have room for all
  pub long-then : long last.columns ≡ long then.columns
  long-then = long-all then (a ∷ later) k

  room : place < long last.columns
  room = omega (arith, (took then.run then.columns a k.0).room, long-then)

  pub index-room : place ≤ length last.columns.index
  index-room = omega (arith, room, (columns_are last.columns good-last.fit).index_is)

  pub mark-room : place ≤ length last.columns.mark
  mark-room = omega (arith, room, (columns_are last.columns good-last.fit).mark_is)

  -- a month that was settled then is as it was
  settled-then : (j : ℕ) → j < from → get_or then.columns.mark j 0 ≡ 2
  settled-then j l =
      let n : length before - then.run.opens ≡ from = omega (arith, placed) in
      sym (get_or-take (length before) then.columns.mark j 0 (omega (arith, placed)))
      ∙ ap (λ (u : List ℕ). get_or u j 0) (open-are-last f before h)
      ∙ get_or-append (replicate (length before - then.run.opens) 2) (replicate then.run.opens 1) 0 j (omega (arith, length-replicate {A = ℕ} (length before - then.run.opens) 2))
      ∙ get_or-replicate (length before - then.run.opens) j 2 0 (omega arith)

  index_back : (j : ℕ) → j < place → get_or opened.index j (pos 0) ≡ get_or then.columns.index j (pos 0)
  index_back j l =
      let c = last.columns in
      let m = shown_from c from then.run.opens in
      let e : length m ≡ place - from = shown-long c from then.run.opens ∙ (omega (arith, few)) in
      ⊎_elim
      (λ i. spliced-before c.index m (pos 0) from place (omega arith) index-room e j i
      ∙ (settled-stays-settled f before (a ∷ later) h k j (omega (arith, placed)) (settled-then j i)).1)
      (λ i. let q : from + (j - from) ≡ j = omega arith in
      spliced-there c.index m (pos 0) from place (omega arith) index-room e j i l
      ∙ shown-at c from then.run.opens (j - from) (omega (arith, few))
      ∙ ap (λ (x : ℕ). provisional (values_at c x)) q
      ∙ ap provisional (rows_stay j l)
      ∙ sym (backed.shows j i l).0)
      (below j from)

  mark-back : (j : ℕ) → j < place → get_or opened.mark j 0 ≡ get_or then.columns.mark j 0
  mark-back j l =
      let c = last.columns in
      let m : List ℕ = replicate then.run.opens 1 in
      let e : length m ≡ place - from = length-replicate {A = ℕ} then.run.opens 1 ∙ (omega (arith, few)) in
      ⊎_elim
      (λ i. spliced-before c.mark m 0 from place (omega arith) mark-room e j i
      ∙ (settled-stays-settled f before (a ∷ later) h k j (omega (arith, placed)) (settled-then j i)).0
      ∙ sym (settled-then j i))
      (λ i. spliced-there c.mark m 0 from place (omega arith) mark-room e j i l
      ∙ get_or-replicate then.run.opens (j - from) 1 0 (omega (arith, few))
      ∙ sym (backed.shows j i l).1)
      (below j from)

  module _ (p pe kind : ℕ) where
    -- with the readings in the month's own record, which is not among those before it
    abbrev pub ready : Book
    ready = renewed_in opened place p pe kind

    abbrev kept : List ℤ
    kept = numbers_of (renewed (record_at last.columns.records place) p pe kind)

    opened-index-long : length opened.index ≡ length last.columns.index
    opened-index-long = ap (λ (b : Book). length b.index) (sym opened-is) ∙ index_long last.columns place index-room

    opened-mark-long : length opened.mark ≡ length last.columns.mark
    opened-mark-long = ap (λ (b : Book). length b.mark) (sym opened-is) ∙ mark_long last.columns place mark-room

    pub ready-fits : columns_fit ready ≡ true
    ready-fits = rw (opened-index-long, opened-mark-long, length-set last.columns.records place kept) good-last.fit

    -- the months before the place are those that the columns held then
    pub months-back : SameMonths then.run then.columns ready
    months-back =
        let c = columns_are then.columns good-then.fit in
        let d = columns_are ready ready-fits in
        let v = values-stay then (a ∷ later) k in
        let n : place ≤ long then.columns = omega (arith, (took then.run then.columns a k.0).room) in
        let m : place ≤ long ready = omega (arith, room) in
        record {
          lent = (good-then.fit, ready-fits);
          one_length = long-then;
          months = rw (
            first-same (pos 0) place ready.x1 then.columns.x1 m n (λ j l. (v j l).0),
            first-same (pos 0) place ready.x2 then.columns.x2 (omega (arith, d.x2_is)) (omega (arith, c.x2_is)) (λ j l. (v j l).1),
            first-same (pos 0) place ready.x3 then.columns.x3 (omega (arith, d.x3_is)) (omega (arith, c.x3_is)) (λ j l. (v j l).2),
            first-same (pos 0) place ready.index then.columns.index (omega (arith, d.index_is)) (omega (arith, c.index_is)) index_back,
            first-same 0 place ready.mark then.columns.mark (omega (arith, d.mark_is)) (omega (arith, c.mark_is)) mark-back,
            first-same [] place ready.records then.columns.records (omega (arith, d.records_is)) (omega (arith, c.records_is)) (λ j l. get_or-set_other last.columns.records place j kept [] (λ e. omega arith) ∙ (v j l).3),
            first-same (pos 0) place ready.v then.columns.v (omega (arith, d.v_is)) (omega (arith, c.v_is)) (λ j l. (v j l).4),
          );
        }
