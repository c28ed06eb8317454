-- Rows that show the water, as specs/Recorded.antt states it. A list to which an accepted month writes one thing, at its own place, is followed once,
-- for the records and for V (`written_all`); what the records then say of storages and water is read off what the rules give. Assumes nothing.
use mathlib.Core.Path.{◌≡◌, refl, sym, ap, ap₂, ◌∙◌, subst, subst₂}
use mathlib.Core.Bool.{true, false}
use mathlib.Core.Logic.{◌↔◌, inr}
use mathlib.Core.List.{List, [], ◌∷◌, ◌++◌, map, append_assoc, append-nil}
use Prim.Native.Nat.{ℕ, zero, suc, ◌+◌, ◌≤◌, ◌<◌}
use native.Mathlib.Omega.{arith}
use lib.IntN.{ℤ, pos, negsuc, nat_abs}
use lib.Signed.{◌≤ℤ◌}
use lib.ListN.{length, get_or, take, set, length-append}
use lib.Seq.{get_or-take, take-suc-set}
use Rattle.outline.specs.Refusals.{not_a_run}
use Rattle.outline.proofs.Tests.{if-so}
use Rattle.door.specs.Readings.{reading, month}
use Rattle.water.specs.Layers.{SoilFits}
use Rattle.water.specs.declared.Soil.{Soil}
use Rattle.water.proofs.Theorems.{month-water-kept}
use Rattle.hindsight.specs.Coded.{state_of}
use Rattle.calendar.specs.Calendar.{constants_at}
use Rattle.runs.specs.Runs.{is_run}
use Rattle.runs.specs.declared.Run.{Run}
use Rattle.starts.specs.Given.{StartGives, gives_0, StartFits}
use Rattle.starts.proofs.StartLaws.{surface-is, underlying-is, given-exactly}
use Rattle.records.specs.Record.{no_record, numbers_of, record_in, record_at}
use Rattle.records.specs.Ends.{ends_meet}
use Rattle.records.specs.declared.Record.{Record}
use Rattle.records.proofs.Meeting.{after_none, ends-are, are-ends}
use Rattle.refusals.specs.Book.{Book, long, columns_fit}
use Rattle.refusals.specs.Good.{Good}
use Rattle.refusals.specs.Refusals.{is_run_of}
use Rattle.refusals.proofs.Refused.{columns_are, run-parts, parts-run}
use Rattle.adding.specs.Taken.{Result, result_of, refusal, taken}
use Rattle.adding.proofs.Readiness.{run_is}
use Rattle.drought.specs.Calls.{not_shown, row_of_run}
use Rattle.drought.specs.declared.Shown.{Shown}
use Rattle.season.specs.Season.{season_result, nothing, add_season}
use Rattle.demands.specs.Months.{Ask, water, inches, anomaly, asked, State, after, after_all, Accepted, Station, station_of, z_for, soil_for, water_for, station_next, record_for, records_of_months, v_of_months}
use Rattle.demands.specs.Given.{add_7, row_0, row_7, season-7}
use Rattle.demands.specs.Demands.{number_of, Fresh, first, now}
use Rattle.demands.specs.Recorded.{month_at, numbers_at, v_at, records_so_far, v_so_far, RecordBalances, water_mark, ZOnly, record_by, LastRowEnds, Recorded}
use Rattle.demands.proofs.Took.{Took, took, ends_so, good-kept, months-next, station-next, records-next, v_next}
use Rattle.demands.proofs.Sequence.{months-all, values-stay}
use Rattle.demands.proofs.Shown.{refused-add}
use Rattle.demands.proofs.Given.{add-given, row_shows, rows_exactly}
use Rattle.demands.proofs.Honest.{good-always}
use Rattle.demands.proofs.Writes.{writes}
use Rattle.demands.proofs.Seasons.{all-beyond}
use Rattle.demands.proofs.SeasonGiven.{seasons_exactly, seasons-refused}
use Rattle.demands.proofs.Helpers.{answers-refused, record-at}

-- ---- a list to which an accepted month writes one thing, at its own place
module _ {A : Type 0} (of : Book → List A) (new : Station → Ask → A) (as_long : (cs : Book) → columns_fit cs ≡ true → length (of cs) ≡ long cs)
    (next : (r : Run) (a : Ask) (cs : Book) → Took r a cs → of (asked r a cs).columns ≡ set (of cs) r.months (new (station_of r) a)) where
  -- what months write, one after another
  abbrev news : Station → List Ask → List A
  news s [] = []
  news s (a ∷ later) = new s a ∷ news (station_next s a) later

  written_all : (s : State) (asks : List Ask) → Accepted s asks → take (s.run.months + length asks) (of (after_all s asks).columns) ≡ take s.run.months (of s.columns) ++ news (station_of s.run) asks
  written_all s [] h = ap (λ (k : ℕ). take k (of s.columns)) (none_more s.run.months) ∙ sym (append-nil (take s.run.months (of s.columns)))
    where
      none_more : (n : ℕ) → n + 0 ≡ n
      none_more n = omega arith
  written_all s (a ∷ later) h =
      let t = took s.run s.columns a h.0 in
      let n = s.run.months in
      let l = of s.columns in
      let x = new (station_of s.run) a in
      let m = months-next s.run a s.columns t in
      let e : n + suc (length later) ≡ (after s a).run.months + length later = omega (arith, m) in
      ap (λ (k : ℕ). take k (of (after_all (after s a) later).columns)) e
      ∙ written_all (after s a) later h.1
      ∙ ap₂ (λ (u : List A) (d : Station). u ++ news d later)
      (ap₂ (λ (k : ℕ) (u : List A). take k u) m (next s.run a s.columns t) ∙ take-suc-set l n x (omega (arith, as_long s.columns t.good.fit, t.room)))
      (station-next s.run a s.columns t)
      ∙ append_assoc (take n l) (x ∷ []) (news (station_next (station_of s.run) a) later)

  -- of a fresh run
  written-fresh : (f : Fresh) (asks : List Ask) → Accepted (first f) asks → take (length asks) (of (now f asks).columns) ≡ news (station_of (first f).run) asks
  written-fresh f asks h = ap (λ (k : ℕ). take k (of (now f asks).columns)) (zero_more (length asks)) ∙ written_all (first f) asks h
    where
      zero_more : (n : ℕ) → n ≡ 0 + n
      zero_more n = omega arith

-- ---- the records and V
records-long : (cs : Book) → columns_fit cs ≡ true → length cs.records ≡ long cs
records-long cs f = (columns_are cs f).records_is

v-long : (cs : Book) → columns_fit cs ≡ true → length cs.v ≡ long cs
v-long cs f = (columns_are cs f).v_is

abbrev numbers_for : Station → Ask → List ℤ
numbers_for s a = numbers_of (record_for s a)

abbrev v_for : Station → Ask → ℤ
v_for s a = (station_next s a).values.v

numbers-are : (s : Station) (asks : List Ask) → news (λ (cs : Book). cs.records) numbers_for records-long records-next s asks ≡ map numbers_of (records_of_months s asks)
numbers-are s [] = refl
numbers-are s (a ∷ later) = ap (λ (l : List (List ℤ)). numbers_for s a ∷ l) (numbers-are (station_next s a) later)

vs-are : (s : Station) (asks : List Ask) → news (λ (cs : Book). cs.v) v_for v-long v_next s asks ≡ v_of_months s asks
vs-are s [] = refl
vs-are s (a ∷ later) = ap (λ (l : List ℤ). v_for s a ∷ l) (vs-are (station_next s a) later)

-- the numbers of a record make it again
made_again : (rs : List Record) (i : ℕ) → record_in (get_or (map numbers_of rs) i []) ≡ get_or rs i no_record
made_again [] i = refl
made_again (r ∷ rs) zero = refl
made_again (r ∷ rs) (suc i) = made_again rs i

-- ---- what the rules give: storages, water and the mark of each month
pub starts-so : (s : Station) (a : Ask) → ((record_for s a).ss ≡ pos s.soil.surface) × ((record_for s a).su ≡ pos s.soil.underlying)
starts-so s (water p pe) = (refl, refl)
starts-so s (inches q) = (refl, refl)
starts-so s (anomaly z) = (refl, refl)

first-starts : (s : Station) (asks : List Ask) → 1 ≤ length asks
    → ((get_or (records_of_months s asks) 0 no_record).ss ≡ pos s.soil.surface) × ((get_or (records_of_months s asks) 0 no_record).su ≡ pos s.soil.underlying)
first-starts s [] l = absurd (omega arith)
first-starts s (a ∷ later) l = starts-so s a

carries : (s : Station) (a b : Ask) → ((record_for (station_next s a) b).ss ≡ (record_for s a).surface) × ((record_for (station_next s a) b).su ≡ (record_for s a).underlying)
carries s a b = let e = starts-so (station_next s a) b in let d = ends_so s a in (e.0 ∙ sym d.0, e.1 ∙ sym d.1)

all-carry : (s : Station) (asks : List Ask) (i : ℕ) → suc i < length asks
    → ((get_or (records_of_months s asks) (suc i) no_record).ss ≡ (get_or (records_of_months s asks) i no_record).surface)
    × ((get_or (records_of_months s asks) (suc i) no_record).su ≡ (get_or (records_of_months s asks) i no_record).underlying)
all-carry s [] i l = absurd (omega arith)
all-carry s (a ∷ []) i l = absurd (omega arith)
all-carry s (a ∷ b ∷ later) zero l = carries s a b
all-carry s (a ∷ b ∷ later) (suc i) l = all-carry (station_next s a) (b ∷ later) i (omega arith)

marked : (s : Station) (a : Ask) → (record_for s a).water ≡ water_mark a
marked s (water p pe) = refl
marked s (inches q) = refl
marked s (anomaly z) = refl

one-balances : (s : Station) (a : Ask) → SoilFits s.soil → (record_for s a).water ≡ pos 1 → RecordBalances (record_for s a)
one-balances s (water p pe) f e = ap pos (month-water-kept s.soil (reading p).water (reading pe).water (constants_at s.constants s.calendar) f)
one-balances s (inches q) f e = ap pos (month-water-kept s.soil (month q).p.water (month q).pe.water (constants_at s.constants s.calendar) f)
one-balances s (anomaly z) f e = absurd (let n = ap nat_abs e in omega arith)

all-balance : (s : State) (asks : List Ask) → Accepted s asks → (i : ℕ) → i < length asks
    → let m = get_or (records_of_months (station_of s.run) asks) i no_record in m.water ≡ pos 1 → RecordBalances m
all-balance s [] h i l = absurd (omega arith)
all-balance s (a ∷ later) h zero l = one-balances (station_of s.run) a (run_is s.run s.columns (took s.run s.columns a h.0).good).soil
all-balance s (a ∷ later) h (suc i) l =
    subst (λ (d : Station). let m = get_or (records_of_months d later) i no_record in m.water ≡ pos 1 → RecordBalances m) (station-next s.run a s.columns (took s.run s.columns a h.0))
    (all-balance (after s a) later h.1 i (omega arith))

-- ---- the last record and the run
last-ends : (n : ℕ) (s : Soil) (records : List (List ℤ)) → ((k : ℕ) → n ≡ suc k → ((record_at records k).surface ≡ pos s.surface) × ((record_at records k).underlying ≡ pos s.underlying)) → ends_meet n s records ≡ true
last-ends zero s records h = after_none s records 0 refl
last-ends (suc n) s records h = are-ends n s records (h n refl).0 (h n refl).1

consistent : (r : Run) (cs : Book) → (is_run_of cs r ≡ true) ↔ ((is_run (long cs) r ≡ true) × LastRowEnds r cs)
consistent r cs = (
  λ h. let p = run-parts r cs h in (p.0, λ n e. ends-are n r.soil cs.records (subst (λ (m : ℕ). ends_meet m r.soil cs.records ≡ true) e p.1)),
  λ q. parts-run r cs q.0 (last-ends r.months r.soil cs.records q.1),
)

module _ (r : Run) (cs : Book) (f : columns_fit cs ≡ true) (no_run : is_run_of cs r ≡ false) where
  add-7s : (a : Ask) → asked r a cs ≡ result_of (refusal not_a_run r) cs
  add-7s a =
      let b = refused-add r a cs in
      let k : number_of r a cs ≡ not_a_run = sym b.0 ∙ add-given r a cs not_a_run (add_7 f no_run) in
      answers-refused r cs not_a_run (asked r a cs) (λ e. omega arith) (rw k at b)

  row-7s : (i : ℕ) → row_of_run r i cs ≡ not_shown not_a_run
  row-7s i =
      let k = (rows_exactly r i cs not_a_run).1 (row_7 f no_run) in
      (row_shows r i cs).1 (λ z. let e : 0 ≡ not_a_run = sym z ∙ k in omega arith) ∙ ap not_shown k

  season-7s : (ps pes : List ℤ) → length ps ≡ length pes → add_season r ps pes cs ≡ season_result (nothing not_a_run r) cs
  season-7s ps pes e =
      let k = (seasons_exactly r ps pes cs not_a_run).1 (season-7 e f no_run) in
      seasons-refused r ps pes cs (inr k) ∙ ap (λ (n : ℕ). season_result (nothing n r) cs) k

seven : (r : Run) (cs : Book) → columns_fit cs ≡ true → is_run (long cs) r ≡ true → (LastRowEnds r cs → ⊥)
    → ((a : Ask) → asked r a cs ≡ result_of (refusal not_a_run r) cs)
    × ((i : ℕ) → row_of_run r i cs ≡ not_shown not_a_run)
    × ((ps pes : List ℤ) → length ps ≡ length pes → add_season r ps pes cs ≡ season_result (nothing not_a_run r) cs)
seven r cs f is other =
    let h : is_run_of cs r ≡ false = if-so (is_run_of cs r) (λ t. absurd (other ((consistent r cs).0 t).1)) (λ e. e) in
    (add-7s r cs f h, row-7s r cs f h, season-7s r cs f h)

-- ---- an add's own answer
of-answer : (r : Run) (a : Ask) (cs : Book)
    → record_for (station_of r) a ≡ record_by r a (taken r (soil_for (station_of r) a) (water_for (station_of r) a) (z_for (station_of r) a) (record_for (station_of r) a) cs).answer
unfolding taken
of-answer r (water p pe) cs = refl
of-answer r (inches q) cs = refl
of-answer r (anomaly z) cs = refl

answered : (r : Run) (a : Ask) (cs : Book) → (asked r a cs).answer.number ≡ 0
    → let b = asked r a cs in
    (b.columns.records ≡ set cs.records r.months (numbers_of (record_by r a b.answer)))
    × (b.columns.v ≡ set cs.v r.months b.answer.run.values.v)
answered r a cs h =
    let w = writes r a cs h in
    let e = of-answer r a cs ∙ ap (λ (b : Result). record_by r a b.answer) (sym (took r cs a h).did) in
    (w.records ∙ ap (λ (m : Record). set cs.records r.months (numbers_of m)) e, w.v)

-- ---- a start's storages, which are not negative
as-given : (n : ℤ) → pos 0 ≤ℤ n → pos (nat_abs n) ≡ n
as-given (pos n) h = refl
as-given (negsuc n) h = absurd h.le

start_fits : (constants : List ℤ) (c ss su m : ℤ) → StartGives constants c ss su m 0 → StartFits constants c ss su m
start_fits constants c ss su m (gives_0 f) = f

-- ---- months added to a fresh run
good-all : (s : State) (asks : List Ask) → Accepted s asks → 1 ≤ length asks → Good (after_all s asks).run (after_all s asks).columns
good-all s [] h l = absurd (omega arith)
good-all s (a ∷ later) h l = good-always (after s a) later (good-kept s.run a s.columns (took s.run s.columns a h.0))

module _ (f : Fresh) where
  abbrev start : Station
  start = station_of (first f).run

  records : (asks : List Ask) → Accepted (first f) asks → take (length asks) (now f asks).columns.records ≡ map numbers_of (records_so_far f asks)
  records asks h = written-fresh (λ (cs : Book). cs.records) numbers_for records-long records-next f asks h ∙ numbers-are start asks

  v : (asks : List Ask) → Accepted (first f) asks → take (length asks) (now f asks).columns.v ≡ v_so_far f asks
  v asks h = written-fresh (λ (cs : Book). cs.v) v_for v-long v_next f asks h ∙ vs-are start asks

  months : (asks : List Ask) → Accepted (first f) asks → (now f asks).run.months ≡ length asks
  months asks h = omega (arith, months-all (first f) asks h)

  beyond : (asks : List Ask) (i : ℕ) → (now f asks).run.months ≤ i → (numbers_at (now f asks) i ≡ numbers_at (first f) i) × (v_at (now f asks) i ≡ v_at (first f) i)
  beyond asks i l = let b = all-beyond (first f) asks in (b.records i l, b.v i l)

  module _ (asks : List Ask) (h : Accepted (first f) asks) where
    month-is : (i : ℕ) → i < length asks → month_at (now f asks) i ≡ get_or (records_so_far f asks) i no_record
    month-is i l =
        ap record_in (sym (get_or-take (length asks) (now f asks).columns.records i [] l) ∙ ap (λ (n : List (List ℤ)). get_or n i []) (records asks h))
        ∙ made_again (records_so_far f asks) i

    v_is : (i : ℕ) → i < length asks → v_at (now f asks) i ≡ get_or (v_so_far f asks) i (pos 0)
    v_is i l = sym (get_or-take (length asks) (now f asks).columns.v i (pos 0) l) ∙ ap (λ (n : List ℤ). get_or n i (pos 0)) (v asks h)

    starts : 1 ≤ length asks → ((month_at (now f asks) 0).ss ≡ f.surface) × ((month_at (now f asks) 0).su ≡ f.underlying)
    starts l =
        let g = (start_fits f.constants f.capacity f.surface f.underlying f.month ((given-exactly f.constants f.capacity f.surface f.underlying f.month 0).0 f.started)).storages in
        let e = first-starts start asks l in (
          ap (λ (m : Record). m.ss) (month-is 0 l) ∙ e.0 ∙ as-given f.surface (surface-is f.capacity f.surface f.underlying g).0,
          ap (λ (m : Record). m.su) (month-is 0 l) ∙ e.1 ∙ as-given f.underlying (underlying-is f.capacity f.surface f.underlying g).0,
        )

    carried : (i : ℕ) → suc i < length asks
        → ((month_at (now f asks) (suc i)).ss ≡ (month_at (now f asks) i).surface) × ((month_at (now f asks) (suc i)).su ≡ (month_at (now f asks) i).underlying)
    carried i l =
        subst₂ (λ (m k : Record). (m.ss ≡ k.surface) × (m.su ≡ k.underlying)) (sym (month-is (suc i) l)) (sym (month-is i (omega arith))) (all-carry start asks i l)

    ends : (n : ℕ) → length asks ≡ suc n
        → ((month_at (now f asks) n).surface ≡ pos (now f asks).run.soil.surface) × ((month_at (now f asks) n).underlying ≡ pos (now f asks).run.soil.underlying)
    ends n e = ((consistent (now f asks).run (now f asks).columns).0 (good-all (first f) asks h (omega arith)).run).1 n (months asks h ∙ e)

    balances : (i : ℕ) → i < length asks → (month_at (now f asks) i).water ≡ pos 1 → RecordBalances (month_at (now f asks) i)
    balances i l = subst (λ (m : Record). m.water ≡ pos 1 → RecordBalances m) (sym (month-is i l)) (all-balance (first f) asks h i l)

    shown : (i : ℕ) → i < length asks
        → let s = row_of_run (now f asks).run i (now f asks).columns in
        (s.number ≡ 0) × (s.month ≡ get_or (records_so_far f asks) i no_record) × (s.v ≡ get_or (v_so_far f asks) i (pos 0))
    shown i l =
        let z = (rows_exactly (now f asks).run i (now f asks).columns 0).1 (row_0 (good-all (first f) asks h (omega arith)) (omega (arith, months asks h))) in
        let e = (row_shows (now f asks).run i (now f asks).columns).0 z in
        (z, ap (λ (s : Shown). s.month) e ∙ month-is i l, ap (λ (s : Shown). s.v) e ∙ v_is i l)

    stays : (more : List Ask) → Accepted (now f asks) more → (i : ℕ) → i < length asks
        → (numbers_at (after_all (now f asks) more) i ≡ numbers_at (now f asks) i) × (v_at (after_all (now f asks) more) i ≡ v_at (now f asks) i)
    stays more k i l = let w = values-stay (now f asks) more k i (omega (arith, months asks h)) in (w.3, w.4)

  -- the month a, wherever it stands
  month-of : (earlier : List Ask) (a : Ask) (later : List Ask) → let asks = earlier ++ (a ∷ later) in
      Accepted (first f) asks → month_at (now f asks) (length earlier) ≡ record_for (state_of station_next start earlier) a
  month-of earlier a later h = month-is (earlier ++ (a ∷ later)) h (length earlier) (simp length-append (omega arith)) ∙ record-at start earlier a later no_record

  had_water : (earlier : List Ask) (a : Ask) (later : List Ask) → let asks = earlier ++ (a ∷ later) in Accepted (first f) asks → (month_at (now f asks) (length earlier)).water ≡ water_mark a
  had_water earlier a later h = ap (λ (m : Record). m.water) (month-of earlier a later h) ∙ marked (state_of station_next start earlier) a

  z_only : (earlier : List Ask) (z : ℤ) (later : List Ask) → let asks = earlier ++ (anomaly z ∷ later) in Accepted (first f) asks → ZOnly z (month_at (now f asks) (length earlier))
  z_only earlier z later h =
      rw (month-of earlier (anomaly z) later h)
      (record { its_z = refl; p = refl; pe = refl; et = refl; r = refl; l = refl; ro = refl; surface = refl; underlying = refl; no_water = refl; no_kind = refl })

pub recorded : Recorded
recorded =
    record {
      records = records;
      v = v;
      each = λ f asks h i l. (month-is f asks h i l, v_is f asks h i l);
      starts = starts;
      carried = carried;
      ends = ends;
      balances = balances;
      had_water = had_water;
      z_only = z_only;
      stays = λ f asks more h. stays f asks h more;
      beyond = beyond;
      shown = shown;
      answered = answered;
      consistent = consistent;
      seven = seven;
    }
