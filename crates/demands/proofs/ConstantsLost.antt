-- The set that a run was started with changes nothing of the set that is worked out: no month is refused by it (`accepted-alike`), and of the rows only Z and the modified index
-- depend on it, which the call does not read (`seen_all`). Assumes nothing.
use mathlib.Core.Path.{◌≡◌, refl, sym, ap, ap₂, ◌∙◌, fun_ext}
use mathlib.Core.Bool.{true, cond, ◌&&◌}
use mathlib.Core.Logic.{⊎_elim}
use mathlib.Core.List.{List, [], ◌∷◌}
use Prim.Native.Nat.{ℕ, zero, suc, ◌+◌, ◌*◌}
use native.Mathlib.Omega.{arith}
use lib.Dec.{leb}
use lib.IntN.{ℤ}
use lib.ListN.{length, get_or}
use Rattle.outline.specs.Numbers.{last_month}
use Rattle.outline.specs.Refusals.{few_years}
use Rattle.outline.specs.Every.{all_of}
use Rattle.water.specs.Constants.{most_gamma}
use Rattle.water.specs.Expected.{month_of}
use Rattle.water.specs.declared.Soil.{Soil}
use Rattle.runs.specs.declared.Run.{Run}
use Rattle.records.specs.Record.{no_record, record_in, record_at}
use Rattle.records.specs.Ends.{amounts}
use Rattle.records.specs.declared.Record.{Record}
use Rattle.refusals.specs.Book.{Book, long, columns_fit}
use Rattle.refusals.specs.Good.{Good}
use Rattle.given_rows.specs.GivenRows.{water_of}
use Rattle.given_rows.specs.declared.WaterRow.{WaterRow}
use Rattle.years.specs.Years.{first_of, years_of}
use Rattle.sums.specs.Sums.{row_in, sums_of, gamma_of, shares_of}
use Rattle.sums.specs.declared.Sums.{Sums}
use Rattle.departures.specs.Departures.{mean_of}
use Rattle.weighing.specs.Weighing.{Span, span, sums_in, shares_in, departure_in, gammas_fit, weight_at, products, k_of, monthly, five_of, departures_in, total_in, sixty_in}
use Rattle.constants.specs.WorkOut.{span_of, fewest_years, years_refusal, set_refusal, work_out_refusal, worked_out, work_out}
use Rattle.demands.specs.Months.{Ask, water, inches, anomaly, asked, State, after, Accepted, Station, station_of, soil_for, station_next, record_for, records_of_months}
use Rattle.demands.specs.Given.{AddGives, add_0}
use Rattle.demands.specs.Demands.{Fresh, first, now}
use Rattle.demands.specs.Recorded.{month_at}
use Rattle.demands.specs.WorkedOut.{Given, Alike}
use Rattle.demands.proofs.Took.{took, good-kept, months-next}
use Rattle.demands.proofs.Sequence.{months-all, long_after}
use Rattle.demands.proofs.Given.{adds_exactly}
use Rattle.demands.proofs.Chain.{calendar}
use Rattle.demands.proofs.Honest.{good-now}
use Rattle.demands.proofs.Recorded.{recorded}
use Rattle.demands.proofs.Reopened.{below}
use Rattle.demands.proofs.ConstantsOwn.{capacity-now, own-rows}
use Rattle.demands.proofs.ConstantsGiven.{record-0}

-- ---- what is accepted: of two good runs with as many months and lists as long, the same
accepted-alike : (s t : State) → Good t.run t.columns → t.run.months ≡ s.run.months → long t.columns ≡ long s.columns → (asks : List Ask) → Accepted s asks → Accepted t asks
accepted-alike s t g m l [] h = tt
accepted-alike s t g m l (a ∷ later) h =
    let e : (asked t.run a t.columns).answer.number ≡ 0 = (adds_exactly t.run a t.columns 0).1 (go ((adds_exactly s.run a s.columns 0).0 h.0)) in
    let p = took s.run s.columns a h.0 in
    let q = took t.run t.columns a e in
    let n : (after t a).run.months ≡ (after s a).run.months = months-next t.run a t.columns q ∙ ap suc m ∙ sym (months-next s.run a s.columns p) in
    let o : long (after t a).columns ≡ long (after s a).columns = long_after t.run t.columns a q ∙ l ∙ sym (long_after s.run s.columns a p) in
    (e, accepted-alike (after s a) (after t a) (good-kept t.run a t.columns q) n o later h.1)
  where
    go : AddGives s.run a s.columns 0 → AddGives t.run a t.columns 0
    go (add_0 k i r) = add_0 g i (omega arith)

-- ---- what the call reads of a row
abbrev Seen : Type 0
Seen = WaterRow × ℤ

abbrev seen : ℕ → Record → Seen
seen c m = (water_of c m, m.water)

seen_one : (c : ℕ) (d e : Station) → d.soil ≡ e.soil → (a : Ask) → (seen c (record_for d a) ≡ seen c (record_for e a)) × (soil_for d a ≡ soil_for e a)
unfolding month_of
seen_one c d e q (water p pe) = (rw q, rw q)
seen_one c d e q (inches w) = (rw q, rw q)
seen_one c d e q (anomaly z) = (rw q, q)

seen_all : (c : ℕ) (d e : Station) → d.soil ≡ e.soil → (asks : List Ask) (i : ℕ) → seen c (get_or (records_of_months d asks) i no_record) ≡ seen c (get_or (records_of_months e asks) i no_record)
seen_all c d e q [] i = refl
seen_all c d e q (a ∷ later) zero = (seen_one c d e q a).0
seen_all c d e q (a ∷ later) (suc i) = seen_all c (station_next d a) (station_next e a) (seen_one c d e q a).1 later i

-- ---- what is worked out of it
module _ (s t : Span) (weights : List ℤ) (sums : sums_in s ≡ sums_in t) (means : departure_in s ≡ departure_in t) where
  gammas-same : gammas_fit s last_month ≡ gammas_fit t last_month
  gammas-same = ap (λ (h : ℕ → Sums). all_of (λ m. leb (gamma_of (h m)) most_gamma) last_month) sums

  departures-same : departures_in s ≡ departures_in t
  departures-same = ap (λ (h : ℕ → ℕ). monthly (λ m. h m ∷ []) 0 last_month) means

  total-same : total_in s weights ≡ total_in t weights
  total-same = ap (λ (l : List ℕ). products l weights last_month) departures-same

  sixty-same : sixty_in s weights ≡ sixty_in t weights
  unfolding shares_in
  sixty-same = ap₂ (λ (h : ℕ → Sums) (n : ℕ). monthly (λ m. five_of (shares_of (h m)) (k_of n (weight_at weights m))) 0 last_month) sums total-same

  set_same : set_refusal s weights ≡ set_refusal t weights
  unfolding set_refusal
  set_same = rw (gammas-same, sixty-same, total-same)

  worked_same : worked_out s weights ≡ worked_out t weights
  worked_same = ap₂ (λ (k : List ℤ) (d : List ℕ). record { number = 0; constants = k; departures = d }) sixty-same departures-same

-- two lists of records that are the same to it
module _ (c start years : ℕ) (l k : List (List ℤ)) (same : (i : ℕ) → seen c (record_at l i) ≡ seen c (record_at k i)) where
  abbrev of : List (List ℤ) → Span
  of x = span c x start years

  waters : (m : ℕ) → row_in c l (start + m) ≡ row_in c k (start + m)
  waters m = fun_ext (λ y. ap (λ (v : Seen). v.0) (same (start + m + last_month * y)))

  sums_same : sums_in (of l) ≡ sums_in (of k)
  unfolding sums_in
  sums_same = fun_ext (λ m. ap (λ (row : ℕ → WaterRow). sums_of row years) (waters m))

  means-same : departure_in (of l) ≡ departure_in (of k)
  unfolding departure_in shares_in
  means-same = fun_ext (λ m. ap₂ (λ (s : Sums) (row : ℕ → WaterRow). mean_of (shares_of s) row years) (ap (λ (h : ℕ → Sums). h m) sums_same) (waters m))

  years-same : years_refusal (of l) ≡ years_refusal (of k)
  unfolding years_refusal
  years-same =
      ap (λ (w : ℕ → ℤ). cond (leb fewest_years years && all_of (λ i. amounts (w (start + i)) 1) (last_month * years)) 0 few_years)
      (fun_ext (λ i. ap (λ (v : Seen). v.1) (same i)))

-- two runs with the same years and the same rows to it
module _ (r q : Run) (weights : List ℤ) (cs ds : Book) (g : Given r cs) (h : Given q ds) (e : q.soil.capacity ≡ r.soil.capacity) (n : q.months ≡ r.months) (c : q.calendar ≡ r.calendar)
    (same : (i : ℕ) → seen r.soil.capacity (record_at ds.records i) ≡ seen r.soil.capacity (record_at cs.records i)) where
  abbrev theirs : Span
  theirs = span r.soil.capacity ds.records (first_of r) (years_of r)

  span-is : span_of q ds ≡ theirs
  span-is = rw (e, n, c)

  abbrev both_sums : sums_in theirs ≡ sums_in (span_of r cs)
  both_sums = sums_same r.soil.capacity (first_of r) (years_of r) ds.records cs.records same

  abbrev both-means : departure_in theirs ≡ departure_in (span_of r cs)
  both-means = means-same r.soil.capacity (first_of r) (years_of r) ds.records cs.records same

  number_same : work_out_refusal q weights ds ≡ work_out_refusal r weights cs
  unfolding work_out_refusal
  number_same =
      rw (record-0 q ds h, record-0 r cs g, span-is, years-same r.soil.capacity (first_of r) (years_of r) ds.records cs.records same, set_same theirs (span_of r cs) weights both_sums both-means)

  answer-same : work_out q weights ds ≡ work_out r weights cs
  unfolding work_out
  answer-same = rw (number_same, span-is, worked_same theirs (span_of r cs) weights both_sums both-means)

-- ---- two starts that are alike but for their constants
module _ (f g : Fresh) (a : Alike f g) (fit : columns_fit f.columns ≡ true) (asks : List Ask) (h : Accepted (first f) asks) where
  fit-too : columns_fit g.columns ≡ true
  fit-too = rw a.columns at fit

  soils : (first g).run.soil ≡ (first f).run.soil
  soils = rw (a.capacity, a.surface, a.underlying)

  accepted : Accepted (first g) asks
  accepted = accepted-alike (first f) (first g) (good-now g fit-too []) refl (rw a.columns) asks h

  given-now : (k : Fresh) → columns_fit k.columns ≡ true → Accepted (first k) asks → Given (now k asks).run (now k asks).columns
  given-now k o b = record { good = good-now k o asks; rows = λ i l. own-rows k asks b i (omega (arith, months-all (first k) asks b)) }

  capacity-same : (now g asks).run.soil.capacity ≡ (now f asks).run.soil.capacity
  capacity-same = capacity-now g asks accepted ∙ ap (λ (s : Soil). s.capacity) soils ∙ sym (capacity-now f asks h)

  months-same : (now g asks).run.months ≡ (now f asks).run.months
  months-same = months-all (first g) asks accepted ∙ sym (months-all (first f) asks h)

  calendar-same : (now g asks).run.calendar ≡ (now f asks).run.calendar
  calendar-same = rw (calendar g asks accepted, calendar f asks h, a.month)

  rows_same : (c i : ℕ) → seen c (month_at (now g asks) i) ≡ seen c (month_at (now f asks) i)
  rows_same c i =
      ⊎_elim
      (λ l. ap (seen c) (recorded.each g asks accepted i l).0 ∙ seen_all c (station_of (first g).run) (station_of (first f).run) soils asks i ∙ ap (seen c) (sym (recorded.each f asks h i l).0))
      (λ l. let p = (recorded.beyond g asks i (omega (arith, months-all (first g) asks accepted))).0 in
      let q = (recorded.beyond f asks i (omega (arith, months-all (first f) asks h))).0 in
      ap (λ (x : List ℤ). seen c (record_in x)) (p ∙ ap (λ (b : Book). get_or b.records i []) (sym a.columns) ∙ sym q))
      (below i (length asks))

  pub lost : Accepted (first g) asks × ((weights : List ℤ) → work_out (now g asks).run weights (now g asks).columns ≡ work_out (now f asks).run weights (now f asks).columns)
  lost = (
    accepted,
    λ weights. answer-same (now f asks).run (now g asks).run weights (now f asks).columns (now g asks).columns (given-now f fit h) (given-now g fit-too accepted) capacity-same months-same calendar-same (rows_same (now f asks).run.soil.capacity),
  )
