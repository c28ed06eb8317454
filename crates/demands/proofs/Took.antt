-- A call that accepts a month: nothing was refused, and it did what `taken` says, with the storages, the water, the Z and the record that the
-- station's rules give. So the run and the columns that it leaves are good again, and hold the months before with one row more. Assumes nothing.
use mathlib.Core.Path.{◌≡◌, refl, sym, ap, ◌∙◌}
use Prim.Native.Nat.{suc, ◌≤◌, ◌<◌}
use native.Mathlib.Omega.{arith}
use lib.IntN.{pos, nat_abs}
use lib.ListN.{set}
use Rattle.outline.specs.Numbers.{most_z}
use Rattle.door.specs.Outcome.{Outcome, kinds_of}
use Rattle.door.specs.Readings.{most_reading, reading, month}
use Rattle.door.proofs.Bounds.{reading-most, inches-most}
use Rattle.water.specs.Layers.{SoilFits}
use Rattle.spells.specs.Spells.{step_of}
use Rattle.hindsight.specs.Months.{row_for}
use Rattle.hindsight.specs.Adding.{add_month, settled_count}
use Rattle.hindsight_laws.proofs.Adds.{adds_run}
use Rattle.runs.specs.declared.Run.{Run}
use Rattle.records.specs.Record.{numbers_of}
use Rattle.refusals.specs.Book.{Book, long}
use Rattle.refusals.specs.Good.{Good}
use Rattle.refusals.specs.Refusals.{z_refusal}
use Rattle.drought.specs.Calls.{add_outcomes, add_water, add_inches, add_z}
use Rattle.adding.specs.Taken.{Result, held_by, taken, taken_z, taken_water, water_of}
use Rattle.refusals.proofs.Refused.{z-passes, columns_are}
use Rattle.adding.proofs.Readiness.{run_is}
use Rattle.run_laws.proofs.Keeps.{wrote-index, wrote-mark, good-taken}
use Rattle.run_laws.proofs.Accepts.{took-water as water-took}
use Rattle.adding.proofs.Answered.{answered-zero}
use Rattle.demands.specs.Months.{Ask, water, inches, anomaly, asked, State, state_of, Station, station_of, z_for, soil_for, water_for, station_next, record_for, station_row}

-- a month that was taken
pub record Took (r : Run) (a : Ask) (cs : Book) : Type 0 where
  pub good : Good r cs
  pub room : r.months < long cs
  pub soil : SoilFits (soil_for (station_of r) a)
  pub z : nat_abs (z_for (station_of r) a) ≤ most_z
  pub did : asked r a cs ≡ taken r (soil_for (station_of r) a) (water_for (station_of r) a) (z_for (station_of r) a) (record_for (station_of r) a) cs

module _ (r : Run) (cs : Book) where
  -- two outcomes that are accepted
  took-water : (a : Ask) (p pe : Outcome) → p.water ≤ most_reading → pe.water ≤ most_reading
      → asked r a cs ≡ add_outcomes r p pe cs
      → soil_for (station_of r) a ≡ record { capacity = r.soil.capacity; surface = (water_of r p.water pe.water).surface; underlying = (water_of r p.water pe.water).underlying }
      → z_for (station_of r) a ≡ (water_of r p.water pe.water).z
      → taken_water r p.water pe.water (kinds_of p pe) cs ≡ taken r (soil_for (station_of r) a) (water_for (station_of r) a) (z_for (station_of r) a) (record_for (station_of r) a) cs
      → (asked r a cs).answer.number ≡ 0 → Took r a cs
  took-water a p pe hp hpe is soil z did h =
      let t = water-took r cs p pe hp hpe (sym (ap (λ (b : Result). b.answer.number) is) ∙ h) in
      record { good = t.good; room = t.room; soil = rw soil t.soil; z = rw z t.z; did = is ∙ t.did ∙ did }

  pub took : (a : Ask) → (asked r a cs).answer.number ≡ 0 → Took r a cs
  unfolding add_water add_inches add_z taken_water month
  took (water p pe) h = took-water (water p pe) (reading p) (reading pe) (reading-most p) (reading-most pe) refl refl refl refl h
  took (inches q) h = took-water (inches q) (month q).p (month q).pe (inches-most q.p) (inches-most q.pe) refl refl refl refl h
  took (anomaly z) h =
      let u = answered-zero (z_refusal r z cs) r cs (taken_z r z cs) h in
      let g = z-passes r cs z u.0 in
      let f = run_is r cs g.0 in
      record { good = g.0; room = g.1; soil = f.soil; z = g.2; did = u.1 }

-- a month's record ends with the storages that it leaves
pub ends_so : (s : Station) (a : Ask) → ((record_for s a).surface ≡ pos (soil_for s a).surface) × ((record_for s a).underlying ≡ pos (soil_for s a).underlying)
ends_so s (water p pe) = (refl, refl)
ends_so s (inches q) = (refl, refl)
ends_so s (anomaly z) = (refl, refl)

-- ---- what a taken month leaves
module _ (r : Run) (a : Ask) (cs : Book) (t : Took r a cs) where
  abbrev next : State
  next = state_of (asked r a cs)

  pub good-kept : Good next.run next.columns
  good-kept =
      let e = ends_so (station_of r) a in
      rw t.did (good-taken r cs t.good t.room (soil_for (station_of r) a) t.soil (water_for (station_of r) a) (z_for (station_of r) a) t.z (record_for (station_of r) a) e.0 e.1)

  -- one month more
  pub months-next : next.run.months ≡ suc r.months
  unfolding taken
  months-next = ap (λ (b : Result). b.answer.run.months) t.did

  -- the station moves on by its own rules
  pub station-next : station_of next.run ≡ station_next (station_of r) a
  unfolding taken
  station-next = ap (λ (b : Result). station_of b.answer.run) t.did

  -- the number of months settled
  pub settled_is : (asked r a cs).answer.settled ≡ settled_count (held_by r cs) (station_row (station_of r) a)
  unfolding taken
  settled_is = ap (λ (b : Result). b.answer.settled) t.did

  -- the running values' columns: the month's own place is written, and no other
  pub x1-next : next.columns.x1 ≡ set cs.x1 r.months (station_row (station_of r) a).x.x1
  unfolding taken
  x1-next = ap (λ (b : Result). b.columns.x1) t.did

  pub x2-next : next.columns.x2 ≡ set cs.x2 r.months (station_row (station_of r) a).x.x2
  unfolding taken
  x2-next = ap (λ (b : Result). b.columns.x2) t.did

  pub x3-next : next.columns.x3 ≡ set cs.x3 r.months (station_row (station_of r) a).x.x3
  unfolding taken
  x3-next = ap (λ (b : Result). b.columns.x3) t.did

  -- .. and so of the records and of V
  pub records-next : next.columns.records ≡ set cs.records r.months (numbers_of (record_for (station_of r) a))
  unfolding taken
  records-next = ap (λ (b : Result). b.columns.records) t.did

  pub v_next : next.columns.v ≡ set cs.v r.months (station_next (station_of r) a).values.v
  unfolding taken
  v_next = ap (λ (b : Result). b.columns.v) t.did

  -- the columns hold the months before, with the new month's row added
  pub held_next : held_by next.run next.columns ≡ add_month (held_by r cs) (station_row (station_of r) a)
  unfolding taken
  held_next =
      let s = step_of r.values (z_for (station_of r) a) in
      let l = columns_are cs t.good.fit in
      let row = row_for s in
      let i = wrote-index r cs t.good t.room row in
      let m = wrote-mark r cs t.good t.room row in
      let h = t.room in
      ap (λ (b : Result). held_by b.answer.run b.columns) t.did
      ∙ adds_run cs.x1 cs.x2 cs.x3 cs.index cs.mark r.months r.opens row _ _ _ _ h (omega (arith, l.x2_is)) (omega (arith, l.x3_is)) (omega (arith, l.index_is)) (omega (arith, l.mark_is))
      (i ∙ sym l.index_is) (m ∙ sym l.mark_is)
      (record { index_is = refl; mark_is = refl; opens_is = refl; settled_is = refl })
