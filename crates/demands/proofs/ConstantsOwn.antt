-- A run's own rows of water are such as an add gives (`own-rows`): each is the record of a month of water from a soil that fits, with readings in their range
-- (`record-given`), and the capacity never changes. Assumes nothing.
use mathlib.Core.Path.{◌≡◌, refl, ap, ◌∙◌, subst}
use mathlib.Core.Bool.{true}
use mathlib.Core.List.{List, [], ◌∷◌}
use Prim.Native.Nat.{ℕ, zero, suc, ◌+◌, ◌≤◌, ◌<◌}
use native.Mathlib.Omega.{arith}
use lib.IntN.{ℤ}
use lib.ListN.{length, get_or}
use Rattle.outline.proofs.Tests.{both}
use Rattle.door.specs.Readings.{most_reading, reading, month}
use Rattle.door.proofs.Bounds.{reading-most, inches-most}
use Rattle.water.specs.Layers.{surface_holds, underlying_holds, SoilFits}
use Rattle.water.specs.Expected.{month_of}
use Rattle.water.specs.declared.Soil.{Soil}
use Rattle.water.specs.declared.Constants.{Constants}
use Rattle.calendar.specs.Calendar.{constants_at}
use Rattle.runs.specs.declared.Run.{Run}
use Rattle.records.specs.Record.{water_record, no_record}
use Rattle.records.specs.Ends.{amounts}
use Rattle.records.specs.declared.Record.{Record}
use Rattle.records.proofs.Meeting.{amounts-of}
use Rattle.adding.proofs.Readiness.{run_is}
use Rattle.given_rows.specs.GivenRows.{addable, holds, given_by_add, row_given}
use Rattle.demands.specs.Months.{Ask, water, inches, anomaly, State, after, Accepted, Station, station_of, record_for, records_of_months}
use Rattle.demands.specs.Demands.{Fresh, first, now}
use Rattle.demands.specs.Recorded.{month_at}
use Rattle.demands.proofs.Took.{took, station-next}
use Rattle.demands.proofs.Sequence.{station-all}
use Rattle.demands.proofs.Recorded.{recorded}
use Rattle.demands.proofs.Reopened.{capacity-stays, capacity-all}
use Rattle.demands.proofs.InRange.{amount}

-- ---- a month of water
module _ (s : Soil) (p pe : ℕ) (k : Constants) (modified : ℤ) (kind : ℕ) where
  abbrev kept : Record
  kept = water_record s p pe (month_of s p pe k) modified kind

  pub record-given : SoilFits s → p ≤ most_reading → pe ≤ most_reading → given_by_add s.capacity kept ≡ true
  unfolding given_by_add addable holds month_of
  record-given f hp hpe =
      let c = s.capacity in
      let m = month_of s p pe k in
      let starts = both (both (both (amount most_reading p hp) (amount most_reading pe hpe)) (amount (surface_holds c) s.surface f.surface)) (amount (underlying_holds c) s.underlying f.underlying) in
      let ends = both (both (both (both (both (amounts-of _ m.et refl) (amounts-of _ m.r refl)) (amounts-of _ (m.ls + m.lu) refl)) (amounts-of _ m.ro refl)) (amounts-of _ m.surface refl)) (amounts-of _ m.underlying refl) in
      both starts ends

  pub row-given : SoilFits s → p ≤ most_reading → pe ≤ most_reading → row_given s.capacity kept ≡ true
  unfolding row_given amounts
  row-given = record-given

-- ---- a month that is added, by whichever call
pub own-given : (r : Run) (a : Ask) → SoilFits r.soil → row_given r.soil.capacity (record_for (station_of r) a) ≡ true
unfolding row_given amounts month
own-given r (water p pe) f = row-given r.soil (reading p).water (reading pe).water (constants_at r.constants r.calendar) _ _ f (reading-most p) (reading-most pe)
own-given r (inches q) f = row-given r.soil (month q).p.water (month q).pe.water (constants_at r.constants r.calendar) _ _ f (inches-most q.p) (inches-most q.pe)
own-given r (anomaly z) f = refl

-- ---- months added one by one
rows-given : (s : State) (asks : List Ask) → Accepted s asks → (i : ℕ) → i < length asks
    → row_given s.run.soil.capacity (get_or (records_of_months (station_of s.run) asks) i no_record) ≡ true
rows-given s [] h i l = absurd (omega arith)
rows-given s (a ∷ later) h zero l = own-given s.run a (run_is s.run s.columns (took s.run s.columns a h.0).good).soil
rows-given s (a ∷ later) h (suc i) l =
    let e = station-next s.run a s.columns (took s.run s.columns a h.0) in
    rw (capacity-stays (station_of s.run) a) at
    (subst (λ (d : Station). row_given d.soil.capacity (get_or (records_of_months d later) i no_record) ≡ true) e (rows-given (after s a) later h.1 i (omega arith)))

module _ (f : Fresh) (asks : List Ask) (h : Accepted (first f) asks) where
  pub capacity-now : (now f asks).run.soil.capacity ≡ (first f).run.soil.capacity
  capacity-now = ap (λ (d : Station). d.soil.capacity) (station-all (first f) asks h) ∙ capacity-all (station_of (first f).run) asks

  pub own-rows : (i : ℕ) → i < length asks → row_given (now f asks).run.soil.capacity (month_at (now f asks) i) ≡ true
  own-rows i l = rw (capacity-now, (recorded.each f asks h i l).0) (rows-given (first f) asks h i l)
