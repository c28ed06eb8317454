-- Trace rain: each kind exactly when, the kinds in every answer and in the record, and (Plain) that nothing else depends on them. Assumes nothing.
use mathlib.Core.Path.{◌≡◌, refl, sym, ap, ◌∙◌}
use mathlib.Core.Bool.{Bool, true, false, cond, not, ◌&&◌}
use mathlib.Core.Logic.{◌↔◌, inl, inr}
use mathlib.Core.List.{List, [], ◌∷◌, map}
use Prim.Native.Nat.{ℕ, zero, suc, ◌*◌, ◌≤◌, ◌<◌}
use native.Mathlib.Nat.{mul-pos}
use native.Mathlib.Omega.{arith}
use lib.IntN.{ℤ, pos, negsuc}
use lib.Dec.{leb, eqb}
use lib.Ieee.{Float, nan, inf, fin, up, down}
use lib.Ieee.Fits.{down_pos}
use lib.ListN.{length, get_or, take}
use borrow.Author.Tests.{le-leb, eqb-true, ne_eqb}
use Rattle.outline.specs.Refusals.{not_acceptable}
use Rattle.exact.specs.Nearest.{nearest_ℕ}
use Rattle.exact.proofs.Nearest.{near-only}
use Rattle.door.specs.Exact.{within, above_zero, nearest_to}
use Rattle.door.specs.Outcome.{Outcome, none, trace, measured, accepted, traced, refused}
use Rattle.door.specs.Readings.{most_reading, most_inches, most_millimetres, whole, converted, inches as inInches, millimetres, reading, month}
use Rattle.door.specs.declared.Reading.{Reading}
use Rattle.door.specs.declared.Reading.TheVariants.{Whole, Inches, Millimetres, Missing}
use Rattle.door.specs.declared.MonthInches.{MonthInches}
use Rattle.door.proofs.Traces.{whole-no-trace}
use Rattle.runs.specs.declared.Run.{Run}
use Rattle.records.specs.Record.{no_record}
use Rattle.records.specs.declared.Record.{Record}
use Rattle.refusals.specs.Book.{Book}
use Rattle.adding.specs.Figures.{no_figures}
use Rattle.adding.specs.declared.Figures.{Figures}
use Rattle.drought.specs.Calls.{row_of_run}
use Rattle.season_month.specs.Listed.{listed}
use Rattle.season_month.proofs.Months.{listed-no-trace}
use Rattle.season.specs.Season.{season_refusal, add_season}
use Rattle.demands.specs.Months.{Ask, water, inches, anomaly, asked, State, standing, after, Accepted, months_of, Station, station_of, station_next, kinds_for, water_for, record_for, records_of_months}
use Rattle.demands.specs.Demands.{Fresh, first, now}
use Rattle.demands.specs.Recorded.{month_at}
use Rattle.demands.specs.Seasons.{last_of}
use Rattle.demands.specs.Traces.{Little, IsTrace, TraceRain}
use Rattle.demands.proofs.Shown.{figures-are}
use Rattle.demands.proofs.Given.{zero_or}
use Rattle.demands.proofs.Recorded.{recorded}
use Rattle.demands.proofs.Seasons.{seasons}
use Rattle.demands.proofs.Plain.{plain, plain-months}

-- ---- a reading's answer is one of three forms
data Form : Outcome → Type 0 where
  of_water : (n : ℕ) → Form (accepted n)
  of_trace : Form traced
  of_refusal : (k : ℕ) → Form (refused k)

fallen-form : (t : Bool) (n : ℕ) → Form (cond t traced (accepted n))
fallen-form true n = of_trace
fallen-form false n = of_water n

picked-form : (t : Bool) (o : Outcome) (k : ℕ) → Form o → Form (cond t o (refused k))
picked-form true o k f = f
picked-form false o k f = of_refusal k

form : (r : Reading) → Form (reading r)
unfolding reading whole inInches millimetres converted
form (Whole (pos n)) = picked-form (leb n most_reading) (accepted n) not_acceptable (of_water n)
form (Whole (negsuc n)) = of_refusal not_acceptable
form (Inches x) = picked-form (within most_inches x) _ not_acceptable (fallen-form (above_zero x && eqb (nearest_to 1000 1 x) 0) (nearest_to 1000 1 x))
form (Millimetres x) = picked-form (within most_millimetres x) _ not_acceptable (fallen-form (above_zero x && eqb (nearest_to 5000 127 x) 0) (nearest_to 5000 127 x))
form Missing = of_refusal _

-- what each form tells
measured-form : (o : Outcome) → Form o → (o.kind ≡ measured) ↔ (1 ≤ o.water)
measured-form o (of_water zero) = ((λ h. absurd (omega arith)), (λ h. absurd (omega arith)))
measured-form o (of_water (suc n)) = ((λ h. omega arith), (λ h. refl))
measured-form o of_trace = ((λ h. absurd (omega arith)), (λ h. absurd (omega arith)))
measured-form o (of_refusal k) = ((λ h. absurd (omega arith)), (λ h. absurd (omega arith)))

none-form : (o : Outcome) → Form o → o.kind ≡ none → o.water ≡ 0
none-form o (of_water zero) h = refl
none-form o (of_water (suc n)) h = absurd (omega arith)
none-form o of_trace h = absurd (omega arith)
none-form o (of_refusal k) h = refl

trace-form : (o : Outcome) → Form o → o.kind ≡ trace → (o.number ≡ 0) × (o.water ≡ 0)
trace-form o (of_water zero) h = absurd (omega arith)
trace-form o (of_water (suc n)) h = absurd (omega arith)
trace-form o of_trace h = (refl, refl)
trace-form o (of_refusal k) h = absurd (omega arith)

dry-form : (o : Outcome) → Form o → o.water ≡ 0 → (o.kind ≡ trace → ⊥) → o.kind ≡ none
dry-form o (of_water zero) h k = refl
dry-form o (of_water (suc n)) h k = absurd (omega arith)
dry-form o of_trace h k = absurd (k refl)
dry-form o (of_refusal j) h k = refl

-- ---- a number of inches or of millimetres
module _ (most per of : ℕ) (O : 0 < of) (inside : (u d : ℕ) → 2 * (u * per) < d * of → u ≤ most * d) where
  -- in range or not, a number that is not above zero is no trace
  not-fallen : (t : Bool) (n : ℕ) → (cond t (accepted n) (refused not_acceptable)).kind ≡ trace → ⊥
  not-fallen true zero h = omega arith
  not-fallen true (suc n) h = omega arith
  not-fallen false n h = omega arith

  -- above zero it is one where it is in range and nearest to 0
  is-fallen : (t : Bool) (n : ℕ) → (cond t (cond (eqb n 0) traced (accepted n)) (refused not_acceptable)).kind ≡ trace → n ≡ 0
  is-fallen true n h = go (eqb n 0) refl h
    where
      go : (b : Bool) → eqb n 0 ≡ b → (cond b traced (accepted n)).kind ≡ trace → n ≡ 0
      go true e h = eqb-true n 0 e
      go false e h = absurd (not-fallen true n h)
  is-fallen false n h = absurd (omega arith)

  -- nearest to 0 is less than a half
  half : (n d : ℕ) → 0 < d → nearest_ℕ n d ≡ 0 → 2 * n < d
  half n d D e = let h = ((near-only n d 0 D).0 e).1 in omega arith

  below_half : (n d : ℕ) → 0 < d → 2 * n < d → nearest_ℕ n d ≡ 0
  below_half n d D h = (near-only n d 0 D).1 (omega arith, omega arith)

  told : (x : Float) → (converted most per of x).kind ≡ trace → Little per of x
  unfolding converted within above_zero nearest_to
  told nan h = absurd (omega arith)
  told (inf s) h = absurd (omega arith)
  told (fin true m e) h = absurd (not-fallen (eqb m 0 && leb (m * up e) (most * down e)) (nearest_ℕ (m * up e * per) (down e * of)) h)
  told (fin false zero e) h = absurd (not-fallen (leb (0 * up e) (most * down e)) (nearest_ℕ (0 * up e * per) (down e * of)) h)
  told (fin false (suc m) e) h =
      let n = nearest_ℕ (suc m * up e * per) (down e * of) in
      let k : not (eqb (suc m) 0) ≡ true = ap not (ne_eqb (suc m) 0 (λ z. omega arith)) in
      let z : n ≡ 0 = is-fallen (leb (suc m * up e) (most * down e)) n (rw k at h) in
      (refl, omega arith, half (suc m * up e * per) (down e * of) (mul-pos (down_pos e) O) z)

  tells : (x : Float) → Little per of x → (converted most per of x).kind ≡ trace
  unfolding converted within above_zero nearest_to
  tells nan h = absurd h
  tells (inf s) h = absurd h
  tells (fin true m e) h = absurd (let k : ◌≡◌ {A = ℕ} 0 1 = cc in omega arith)
  tells (fin false m e) h =
      let k : eqb m 0 ≡ false = ne_eqb m 0 (λ z. omega arith) in
      let z = below_half (m * up e * per) (down e * of) (mul-pos (down_pos e) O) h.2 in
      rw (k, le-leb (m * up e) (most * down e) (inside (m * up e) (down e) h.2), z)

a_trace : (r : Reading) → ((reading r).kind ≡ trace) ↔ IsTrace r
unfolding reading inInches millimetres
a_trace (Whole n) = (whole-no-trace n, λ h. absurd h)
a_trace (Inches x) = (told 100 1000 1 (omega arith) (λ u d h. omega arith) x, tells 100 1000 1 (omega arith) (λ u d h. omega arith) x)
a_trace (Millimetres x) = (told 2540 5000 127 (omega arith) (λ u d h. omega arith) x, tells 2540 5000 127 (omega arith) (λ u d h. omega arith) x)
a_trace Missing = ((λ h. absurd (omega arith)), λ h. absurd h)

is_none : (r : Reading) → ((reading r).kind ≡ none) ↔ (((reading r).water ≡ 0) × (IsTrace r → ⊥))
is_none r = (
  (λ h. (none-form (reading r) (form r) h, λ t. (let k = sym h ∙ (a_trace r).1 t in omega arith))),
  (λ h. dry-form (reading r) (form r) h.0 (λ t. h.1 ((a_trace r).0 t))),
)

together : (q : MonthInches) → ((month q).p ≡ reading (Inches q.p)) × ((month q).pe ≡ reading (Inches q.pe))
unfolding month reading
together q = (refl, refl)

-- ---- a month's answer
answered : (r : Run) (a : Ask) (cs : Book) → (asked r a cs).answer.number ≡ 0 → (asked r a cs).answer.figures.water.kinds ≡ kinds_for a
answered r a cs h = ap (λ (f : Figures). f.water.kinds) (figures-are r a cs h) ∙ kinds-for (station_of r) a
  where
    kinds-for : (s : Station) (a : Ask) → (water_for s a).kinds ≡ kinds_for a
    kinds-for s (water p pe) = refl
    kinds-for s (inches q) = refl
    kinds-for s (anomaly z) = refl

-- ---- a season's
abbrev NoTrace : Figures → Type 0
NoTrace f = (f.water.kinds.p ≡ trace → ⊥) × (f.water.kinds.pe ≡ trace → ⊥)

last-no-trace : (f : Figures) (s : State) (n : ℕ) (ps pes : List ℤ) → NoTrace f → Accepted s (take n (months_of ps pes)) → NoTrace (last_of f s (take n (months_of ps pes)))
last-no-trace f s zero ps pes h k = h
last-no-trace f s (suc n) [] pes h k = h
last-no-trace f s (suc n) (p ∷ ps) [] h k = h
last-no-trace f s (suc n) (p ∷ ps) (pe ∷ pes) h k =
    let a = water (listed p) (listed pe) in
    last-no-trace (asked s.run a s.columns).answer.figures (after s a) n ps pes (rw (answered s.run a s.columns k.0) (listed-no-trace p, listed-no-trace pe)) k.1

season-no-trace : (r : Run) (ps pes : List ℤ) (cs : Book) → NoTrace (add_season r ps pes cs).answer.figures
season-no-trace r ps pes cs =
    elim (zero_or (season_refusal r ps pes cs)) [
      | inl z ↦ (let t = seasons.singly r ps pes cs z in rw t.figures (last-no-trace no_figures (standing r cs) (add_season r ps pes cs).answer.added ps pes none_said t.accepted))
      | inr k ↦ rw (seasons.refused r ps pes cs k) none_said
    ]
  where
    none_said : NoTrace no_figures
    none_said = ((λ h. omega arith), (λ h. omega arith))

-- ---- a month's record, and its row
kind-for : (s : Station) (a : Ask) → (record_for s a).kind ≡ pos (kinds_for a).p
kind-for s (water p pe) = refl
kind-for s (inches q) = refl
kind-for s (anomaly z) = refl

kind-all : (s : Station) (asks : List Ask) (i : ℕ) → (get_or (records_of_months s asks) i no_record).kind ≡ pos (get_or (map (λ (a : Ask). (kinds_for a).p) asks) i none)
kind-all s [] i = refl
kind-all s (a ∷ later) zero = kind-for s a
kind-all s (a ∷ later) (suc i) = kind-all (station_next s a) later i

module _ (f : Fresh) (asks : List Ask) (h : Accepted (first f) asks) (i : ℕ) (l : i < length asks) where
  in-record : (month_at (now f asks) i).kind ≡ pos (get_or (map (λ (a : Ask). (kinds_for a).p) asks) i none)
  in-record = ap (λ (m : Record). m.kind) (recorded.each f asks h i l).0 ∙ kind-all (station_of (first f).run) asks i

  in_row : (row_of_run (now f asks).run i (now f asks).columns).month.kind ≡ pos (get_or (map (λ (a : Ask). (kinds_for a).p) asks) i none)
  in_row = ap (λ (m : Record). m.kind) (recorded.shown f asks h i l).1 ∙ kind-all (station_of (first f).run) asks i

pub trace_rain : TraceRain
trace_rain =
    record {
      a_trace = a_trace;
      is_measured = λ r. measured-form (reading r) (form r);
      is_none = is_none;
      no_water = λ r t. trace-form (reading r) (form r) ((a_trace r).1 t);
      together = together;
      answered = answered;
      seasons = season-no-trace;
      recorded = in-record;
      shown = in_row;
      plain = λ r a b cs ds h e. plain r cs ds e a b h;
      plain-months = plain-months;
    }
