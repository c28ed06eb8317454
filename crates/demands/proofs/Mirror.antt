-- Wet and dry are mirrors, as specs/Mirror.antt states it. What holds of the rows of a list of Z and of the list turned (proofs/Turned.antt) holds of
-- the columns and of the whole series by the theorems that stand: the columns hold the rows, each at its place, and show what the forward
-- rule says of them. Assumes nothing.
use mathlib.Core.Path.{◌≡◌, refl, sym, ap, ap₂, ◌∙◌, subst, subst₂}
use mathlib.Core.Bool.{true}
use mathlib.Core.Logic.{⊎_elim}
use mathlib.Core.List.{List, [], ◌∷◌, map}
use Prim.Native.Nat.{ℕ, zero, suc, ◌+◌, ◌≤◌, ◌<◌}
use native.Mathlib.Omega.{arith}
use lib.IntN.{ℤ, pos, neg_ℤ}
use lib.Dec.{leb}
use lib.ListN.{length, get_or, length-map}
use Rattle.outline.specs.Numbers.{most_z, z_fits}
use Rattle.outline.specs.Refusals.{unless_refused}
use Rattle.outline.proofs.Tests.{both, within-z}
use Rattle.outline.proofs.Refusals.{is-done}
use Rattle.spells.specs.Values.{fresh as fresh-values}
use Rattle.spells.specs.declared.Running.{Running}
use Rattle.spell_laws.specs.Mirror.{mirror}
use Rattle.spell_laws.specs.Reached.{Reached}
use Rattle.spell_laws.proofs.Mirror.{neg-size, mirror-percent}
use Rattle.spell_laws.proofs.Reached.{fresh-reached, step-reached}
use Rattle.hindsight.specs.Rule.{Row, Shown, mark_of, index_of, forward, forward_all, forward_indexes, forward_marks}
use Rattle.hindsight.proofs.Forward.{get_d_map, get_d-forward_all}
use Rattle.hindsight.specs.Adding.{History, add_all}
use Rattle.hindsight.specs.Coded.{state_of}
use Rattle.hindsight.specs.Months.{next_values, rows_of_z}
use Rattle.hindsight_laws.specs.Counts.{count}
use Rattle.hindsight_laws.proofs.Hindsight.{opens-counts}
use Rattle.hindsight_laws.proofs.Adds.{series-is-adding}
use Rattle.calendar.specs.Calendar.{next_calendar}
use Rattle.runs.specs.declared.Run.{Run}
use Rattle.series.specs.Series.{all_z_fit, series_refusal, Filled, filled, whole_series}
use Rattle.records.specs.declared.Record.{Record}
use Rattle.refusals.specs.Book.{Book, long}
use Rattle.refusals.specs.Refusals.{run_refusal, z_refusal}
use Rattle.refusals.proofs.Refused.{good-passes}
use Rattle.adding.specs.Figures.{no_water}
use Rattle.adding.specs.Taken.{Result, held_by, taken}
use Rattle.adding.specs.declared.WaterFigures.{WaterFigures}
use Rattle.adding.specs.declared.Added.{Added}
use Rattle.demands.specs.Months.{anomaly, asked, State, after, after_all, Accepted, Station, station_of, station_next, no_row}
use Rattle.demands.specs.Demands.{Fresh, first}
use Rattle.demands.specs.Mirror.{turned, mirror_x, mirror_run, TurnsAbout, given, Given, answer, values_at, shown_at, AnswersTurned, Mirrors, Anywhere, values_of, filled_at, SeriesMirrors}
use Rattle.demands.proofs.Took.{took, months-next}
use Rattle.demands.proofs.Given.{zero_or}
use Rattle.demands.proofs.Honest.{good-always}
use Rattle.demands.proofs.Sequence.{held_all, months-all, station-all, long-all, long_after, reached-after}
use Rattle.demands.proofs.Shown.{refused-add, values-at, settled-is-hindsight}
use Rattle.demands.proofs.Singly.{rows_same, accepts-all}
use Rattle.demands.proofs.Demands.{demand-1}
use Rattle.demands.proofs.Turned.{step-values, x-turned, step-settled, step-opens, turns-of, step-shown, every-turns, every-x, marks-same}

-- ---- a Z turned is in its range where the Z is
z-turned : (z : ℤ) → z_fits (neg_ℤ z) ≡ z_fits z
unfolding z_fits
z-turned z = ap (λ (n : ℕ). leb n most_z) (neg-size z)

all-turned : (zs : List ℤ) → all_z_fit (turned zs) ≡ all_z_fit zs
all-turned [] = refl
all-turned (z ∷ zs) = rw (z-turned z, all-turned zs)

-- ---- what accepted Z say of their list: every Z is in its range, and there was room
record Fit (s : State) (zs : List ℤ) : Type 0 where
  all_fit : all_z_fit zs ≡ true
  room : s.run.months + length zs ≤ long s.columns

fits : (s : State) (zs : List ℤ) → s.run.months ≤ long s.columns → Accepted s (map anomaly zs) → Fit s zs
fits s [] l h = record { all_fit = refl; room = omega arith }
fits s (z ∷ zs) l h =
    let t = took s.run s.columns (anomaly z) h.0 in
    let n = months-next s.run (anomaly z) s.columns t in
    let k = long_after s.run s.columns (anomaly z) t in
    let r = t.room in
    let f = fits (after s (anomaly z)) zs (omega arith) h.1 in
    record { all_fit = both (within-z z t.z) f.all_fit; room = omega (arith, f.room) }

-- so the list turned is accepted, too
accepted-turned : (s : State) (zs : List ℤ) → Accepted s (map anomaly zs) → Accepted s (map anomaly (turned zs))
accepted-turned s [] h = tt
accepted-turned s (z ∷ zs) h =
    let t = took s.run s.columns (anomaly z) h.0 in
    let r = t.room in
    let f = fits s (z ∷ zs) (omega arith) h in
    accepts-all s (turned (z ∷ zs)) t.good (omega (arith, f.room, length-map (z ∷ zs) neg_ℤ)) (all-turned (z ∷ zs) ∙ f.all_fit)

-- ---- one Z more is refused alike
refused-alike : (s t : State) (z : ℤ) → run_refusal t.run t.columns ≡ run_refusal s.run s.columns → t.run.months ≡ s.run.months → long t.columns ≡ long s.columns
    → z_refusal t.run (neg_ℤ z) t.columns ≡ z_refusal s.run z s.columns
unfolding z_refusal
refused-alike s t z p q r = rw (p, q, r, z-turned z)

months-turned : (s : State) (zs : List ℤ) → Accepted s (map anomaly zs) → (after_all s (map anomaly (turned zs))).run.months ≡ (after_all s (map anomaly zs)).run.months
months-turned s zs h =
    omega (
      arith,
      months-all s (map anomaly zs) h,
      months-all s (map anomaly (turned zs)) (accepted-turned s zs h),
      length-map zs anomaly,
      length-map (turned zs) anomaly,
      length-map zs neg_ℤ,
    )

number-turned : (s : State) (zs : List ℤ) (z : ℤ) → Accepted s (map anomaly zs)
    → let t = after_all s (map anomaly zs) in let u = after_all s (map anomaly (turned zs)) in
    (asked u.run (anomaly (neg_ℤ z)) u.columns).answer.number ≡ (asked t.run (anomaly z) t.columns).answer.number
number-turned s zs z h =
    let t = after_all s (map anomaly zs) in
    let u = after_all s (map anomaly (turned zs)) in
    (refused-add u.run (anomaly (neg_ℤ z)) u.columns).0
    ∙ refused-alike t u z (go zs h) (months-turned s zs h) (long-all s (map anomaly (turned zs)) (accepted-turned s zs h) ∙ sym (long-all s (map anomaly zs) h))
    ∙ sym (refused-add t.run (anomaly z) t.columns).0
  where
    -- with no month yet they are one; after a month both are good
    go : (zs : List ℤ) → Accepted s (map anomaly zs) → run_refusal (after_all s (map anomaly (turned zs))).run (after_all s (map anomaly (turned zs))).columns ≡ run_refusal (after_all s (map anomaly zs)).run (after_all s (map anomaly zs)).columns
    go [] h = refl
    go (z ∷ zs) h =
        let g = (took s.run s.columns (anomaly z) h.0).good in
        let t = after_all s (map anomaly (z ∷ zs)) in
        let u = after_all s (map anomaly (turned (z ∷ zs))) in
        good-passes u.run u.columns (good-always s (map anomaly (turned (z ∷ zs))) g) ∙ sym (good-passes t.run t.columns (good-always s (map anomaly (z ∷ zs)) g))

abbrev shows : ℕ → ℤ → Shown
shows n x = record { mark = n; index = x }

-- ---- the run that is handed back

-- after months that are all a Z, a station's running values are those of the list
values-of : (d : Station) (zs : List ℤ) → (state_of station_next d (map anomaly zs)).values ≡ state_of next_values d.values zs
values-of d [] = refl
values-of d (z ∷ zs) = values-of (station_next d (anomaly z)) zs

abbrev mirror_station : Station → Station
mirror_station d = record { soil = d.soil; calendar = d.calendar; constants = d.constants; values = mirror d.values }

station-turned : (d : Station) → Reached d.values → (zs : List ℤ) → state_of station_next (mirror_station d) (map anomaly (turned zs)) ≡ mirror_station (state_of station_next d (map anomaly zs))
station-turned d k [] = refl
station-turned d k (z ∷ zs) =
    ap (λ (v : Running). state_of station_next (record { soil = d.soil; calendar = next_calendar d.calendar; constants = d.constants; values = v }) (map anomaly (turned zs))) (step-values d.values z k)
    ∙ station-turned (station_next d (anomaly z)) (step-reached d.values z k) zs

module _ (f : Fresh) where
  abbrev start : State
  start = first f

  abbrev station : Station
  station = station_of (first f).run

  -- the columns hold the rows of the list
  held-z : (zs : List ℤ) → Accepted start (map anomaly zs) → held_by (given f zs).run (given f zs).columns ≡ add_all (rows_of_z zs)
  held-z zs h = held_all start (map anomaly zs) h ∙ ap add_all (rows_same station zs)

  opens_are : (zs : List ℤ) → Accepted start (map anomaly zs) → (given f zs).run.opens ≡ count 1 (forward_marks (rows_of_z zs))
  opens_are zs h = ap (λ (u : History). u.opens) (held-z zs h) ∙ opens-counts (rows_of_z zs) ∙ ap (count 1) (sym (series-is-adding (rows_of_z zs)).1)

  run-turned : (zs : List ℤ) → Accepted start (map anomaly zs) → (given f (turned zs)).run ≡ mirror_run (given f zs).run
  run-turned zs h =
      let k = accepted-turned start zs h in
      ap₂ (λ (d : Station) (n : ℕ × ℕ). runWith d n.0 n.1)
      (station-all start (map anomaly (turned zs)) k ∙ station-turned station fresh-reached zs ∙ ap mirror_station (sym (station-all start (map anomaly zs) h)))
      (ap₂ (λ (a b : ℕ). (a, b)) (months-turned start zs h) (opens_are (turned zs) k ∙ ap (count 1) (marks-same fresh-values fresh-reached zs) ∙ sym (opens_are zs h)))
    where
      runWith : Station → ℕ → ℕ → Run
      runWith d n o = record { months = n; opens = o; calendar = d.calendar; soil = d.soil; values = d.values; constants = d.constants }

  -- its running values are those of the list, by the rules of spells alone
  pub run-values : (zs : List ℤ) → Accepted start (map anomaly zs) → (given f zs).run.values ≡ state_of next_values fresh-values zs
  run-values zs h = ap (λ (d : Station). d.values) (station-all start (map anomaly zs) h) ∙ values-of station zs

  -- what the columns hold at a month's place is what the rules give of it
  values_are : (zs : List ℤ) → Given f zs → (i : ℕ) → i < length zs → values_at f zs i ≡ values_of zs i
  values_are zs h i l =
      values-at f (map anomaly zs) h i (omega (arith, length-map zs anomaly))
      ∙ ap (λ (u : List Row). (get_or u i no_row).x) (rows_same station zs)

  shown-are : (zs : List ℤ) → Given f zs → (i : ℕ) → i < length zs → shown_at f zs i ≡ forward (rows_of_z zs) i
  shown-are zs h i l =
      let e = settled-is-hindsight f (map anomaly zs) h i (omega (arith, length-map zs anomaly)) in
      ap₂ (λ (n : ℕ) (x : ℤ). shows n x) e.1 e.0 ∙ ap (λ (u : List Row). forward u i) (rows_same station zs)

  values-turned : (zs : List ℤ) → Given f zs → (i : ℕ) → i < length zs → values_at f (turned zs) i ≡ mirror_x (values_at f zs i)
  values-turned zs h i l =
      values_are (turned zs) (accepted-turned start zs h) i (omega (arith, length-map zs neg_ℤ))
      ∙ every-x fresh-values fresh-reached zs i
      ∙ ap mirror_x (sym (values_are zs h i l))

  shown-turned : (zs : List ℤ) → Given f zs → (i : ℕ) → i < length zs → TurnsAbout (values_at f zs i) (shown_at f zs i) (shown_at f (turned zs) i)
  shown-turned zs h i l =
      rw (values_are zs h i l, shown-are zs h i l, shown-are (turned zs) (accepted-turned start zs h) i (omega (arith, length-map zs neg_ℤ)))
      (every-turns fresh-values fresh-reached zs i)

  -- what the add of one Z more answers: where it is taken, what the rules give
  module _ (zs : List ℤ) (z : ℤ) (h : Accepted start (map anomaly zs)) where
    abbrev state : State
    state = given f zs

    abbrev mirrored : State
    mirrored = given f (turned zs)

    abbrev plain : Added
    plain = answer f zs z

    abbrev other : Added
    other = answer f (turned zs) (neg_ℤ z)

    same_number : other.number ≡ plain.number
    same_number = number-turned start zs z h

    -- with the run given, and with its mirror
    taken-turned : (r r' : Run) (cs cs' : Book) (w : WaterFigures) (kept kept' : Record) → r' ≡ mirror_run r → Reached r.values → AnswersTurned (taken r r.soil w z kept cs).answer (taken r' r'.soil w (neg_ℤ z) kept' cs').answer
    unfolding taken
    taken-turned r r' cs cs' w kept kept' e k =
        subst (λ (q : Run). AnswersTurned (taken r r.soil w z kept cs).answer (taken q q.soil w (neg_ℤ z) kept' cs').answer) (sym e)
        (record {
          number = refl;
          percent = mirror-percent r.values z;
          settled = step-settled r.values z k r.opens;
          z = refl;
          water = refl;
          values = x-turned r.values z k;
          shown = step-shown r.values z k;
          run = ap₂ (λ (v : Running) (o : ℕ). run-with r v o) (step-values r.values z k) (step-opens r.values z k (held_by r cs) (held_by (mirror_run r) cs') refl);
        })
      where
        run-with : Run → Running → ℕ → Run
        run-with r v o = record { months = suc r.months; opens = o; calendar = next_calendar r.calendar; soil = r.soil; values = v; constants = r.constants }

    taken-both : plain.number ≡ 0 → AnswersTurned plain other
    taken-both e =
        subst₂ AnswersTurned
        (sym (ap (λ (b : Result). b.answer) (took state.run state.columns (anomaly z) e).did))
        (sym (ap (λ (b : Result). b.answer) (took mirrored.run mirrored.columns (anomaly (neg_ℤ z)) (same_number ∙ e)).did))
        (taken-turned state.run mirrored.run state.columns mirrored.columns no_water _ _ (run-turned zs h) (reached-after start (map anomaly zs) fresh-reached h))

    -- where it is refused, all figures are 0 and the run is the one given
    refused-both : (plain.number ≡ 0 → ⊥) → AnswersTurned plain other
    refused-both n =
        let a = refused-add state.run (anomaly z) state.columns in
        let b = refused-add mirrored.run (anomaly (neg_ℤ z)) mirrored.columns in
        let p = a.1 (λ e. n (a.0 ∙ e)) in
        let q = b.1 (λ e. n (sym same_number ∙ b.0 ∙ e)) in
        record {
          number = same_number;
          percent = rw (p.3, q.3) refl;
          settled = q.2 ∙ sym p.2;
          z = rw (p.3, q.3) refl;
          water = rw (p.3, q.3) refl;
          values = rw (p.3, q.3) refl;
          shown = rw (p.3, q.3) (turns-of no_row.x (record { mark = 0; index = pos 0 }) (record { mark = 0; index = pos 0 }) refl (λ f. refl) (λ t. (refl, refl)));
          run = q.0 ∙ run-turned zs h ∙ sym (ap mirror_run p.0);
        }

    answers-turned : AnswersTurned plain other
    answers-turned = ⊎_elim taken-both refused-both (zero_or plain.number)

  pub mirrors : Mirrors f
  mirrors =
      record {
        accepted = accepted-turned start;
        values = values-turned;
        shown = shown-turned;
        run = run-turned;
        answers = answers-turned;
      }

pub anywhere : Anywhere
anywhere =
    record {
      months = λ f g zs h k i l. (values_are g zs k i l ∙ sym (values_are f zs h i l), shown-are g zs k i l ∙ sym (shown-are f zs h i l));
      values = λ f g zs h k. run-values g zs k ∙ sym (run-values f zs h);
    }

-- ---- the whole series is the forward rule over the same rows
refusal-turned : (zs : List ℤ) (a b : ℕ) → series_refusal (turned zs) a b ≡ series_refusal zs a b
unfolding series_refusal
refusal-turned zs a b = rw (length-map zs neg_ℤ, all-turned zs)

series-number : (zs index : List ℤ) (mark : List ℕ) → (whole_series zs index mark).number ≡ series_refusal zs (length index) (length mark)
series-number zs index mark = (demand-1.series zs index mark).0

marks-turned : (zs index : List ℤ) (mark : List ℕ) → (whole_series (turned zs) index mark).mark ≡ (whole_series zs index mark).mark
unfolding whole_series
marks-turned zs index mark = rw (refusal-turned zs (length index) (length mark)) (go (series_refusal zs (length index) (length mark)))
  where
    go : (k : ℕ)
        → (unless_refused k (filled 0 (forward_indexes (rows_of_z (turned zs))) (forward_marks (rows_of_z (turned zs)))) (filled k index mark)).mark
        ≡ (unless_refused k (filled 0 (forward_indexes (rows_of_z zs)) (forward_marks (rows_of_z zs))) (filled k index mark)).mark
    go zero = marks-same fresh-values fresh-reached zs
    go (suc k) = refl

filled-are : (zs index : List ℤ) (mark : List ℕ) → series_refusal zs (length index) (length mark) ≡ 0 → (i : ℕ) → filled_at zs index mark i ≡ forward (rows_of_z zs) i
unfolding whole_series
filled-are zs index mark e i =
    let d = is-done (series_refusal zs (length index) (length mark)) (filled 0 (forward_indexes (rows_of_z zs)) (forward_marks (rows_of_z zs))) (filled (series_refusal zs (length index) (length mark)) index mark) e in
    ap (λ (f : Filled). place f) d
    ∙ ap₂ (λ (n : ℕ) (x : ℤ). shows n x) (get_d_map mark_of (forward_all (rows_of_z zs)) i none) (get_d_map index_of (forward_all (rows_of_z zs)) i none)
    ∙ get_d-forward_all (rows_of_z zs) i
  where
    none : Shown
    none = record { mark = 0; index = pos 0 }

    place : Filled → Shown
    place f = shows (get_or f.mark i 0) (get_or f.index i (pos 0))

pub series-mirrors : SeriesMirrors
series-mirrors =
    record {
      number = λ zs index mark. series-number (turned zs) index mark ∙ refusal-turned zs (length index) (length mark) ∙ sym (series-number zs index mark);
      marks = marks-turned;
      shown = λ zs index mark e i l. go zs index mark (sym (series-number zs index mark) ∙ e) i;
    }
  where
    go : (zs index : List ℤ) (mark : List ℕ) → series_refusal zs (length index) (length mark) ≡ 0 → (i : ℕ) → TurnsAbout (values_of zs i) (filled_at zs index mark i) (filled_at (turned zs) index mark i)
    go zs index mark e i =
        rw (filled-are zs index mark e i, filled-are (turned zs) index mark (refusal-turned zs (length index) (length mark) ∙ e) i)
        (every-turns fresh-values fresh-reached zs i)
