-- A month worked again from its record: it may be asked of a run that stands, and what it leaves stands too, with every other record as it was. Assumes nothing.
use mathlib.Core.Path.{◌≡◌, refl, sym, ap, ◌∙◌}
use mathlib.Core.Bool.{Bool, true, false, cond}
use mathlib.Core.List.{[]}
use Prim.Native.Nat.{ℕ, suc, ◌≤◌, ◌<◌}
use native.Mathlib.Omega.{arith}
use lib.IntN.{ℤ, nat_abs}
use lib.ListN.{length}
use lib.Seq.{get_or-set_other}
use borrow.Author.Tests.{eq-eqb, ne_eqb}
use mir.Syntax.{w32}
use mir.Val.{SFits, of_z}
use Rattle.outline.specs.Numbers.{most_z}
use Rattle.water.specs.Layers.{SoilFits}
use Rattle.water.specs.declared.Soil.{Soil}
use Rattle.water.proofs.Theorems.{z-acceptable, month-layers-kept}
use Rattle.modified.specs.Modified.{modified_of}
use Rattle.ranges.proofs.RangeLaws.{is-calendar}
use Rattle.calendar.specs.Calendar.{constants_at}
use Rattle.runs.specs.declared.Run.{Run}
use Rattle.runs.proofs.RunLaws.{values_fit}
use Rattle.records.specs.Record.{record_in, record_at, numbers_of, water_record, z_record}
use Rattle.records.specs.declared.Record.{Record}
use Rattle.records.proofs.Fitting.{amounts-is}
use Rattle.refusals.specs.Book.{Book, columns_of, long}
use Rattle.refusals.proofs.Refused.{columns_are}
use Rattle.adding.specs.Figures.{water_figures, no_water}
use Rattle.adding.specs.Ready.{Ready, Watered}
use Rattle.adding.specs.Taken.{Result, taken, taken_water, taken_z, soil_after, water_of}
use Rattle.adding.specs.declared.WaterFigures.{WaterFigures}
use Rattle.run_laws.proofs.Keeps.{columns-kept, run-stays}
use Rattle.records.specs.Water.{had_water}
use Rattle.reworking.specs.Reworked.{again, kept_kinds}
use Rattle.reworking.specs.Workable.{Stands, Kept}

-- ---- which way a month is worked again, of the record as it was read
module _ (r : Run) (cs : Book) (m n : Record) (e : m ≡ n) (f : SFits w32 m.water) (w : Result) where
  -- `m.water == 1`, so and not
  pub with-water : of_z w32 m.water ≡ 1 → w ≡ taken_water r (nat_abs m.p) (nat_abs m.pe) (kept_kinds m) cs → w ≡ again r n cs
  unfolding again
  with-water h o = rw (← e, sym (amounts-is m.water 1 f (omega arith)) ∙ eq-eqb (of_z w32 m.water) 1 h) o

  pub without-water : (of_z w32 m.water ≡ 1 → ⊥) → w ≡ taken_z r m.z cs → w ≡ again r n cs
  unfolding again
  without-water h o = rw (← e, sym (amounts-is m.water 1 f (omega arith)) ∙ ne_eqb (of_z w32 m.water) 1 h) o

-- ---- what a month leaves
pub record Next (r : Run) (cs : Book) (b : Result) : Type 0 where
  pub stands : Stands b.answer.run b.columns
  pub months : b.answer.run.months ≡ suc r.months
  pub others : (j : ℕ) → (j ≡ r.months → ⊥) → record_at b.columns.records j ≡ record_at cs.records j

-- of two results, whichever it is
either : (P : Result → Type 0) (t : Bool) {a b : Result} → P a → P b → P (cond t a b)
either P true p q = p
either P false p q = q

module _ (r : Run) (cs : Book) (s : Stands r cs) where
  -- a run's calendar, soil and constants
  pub watered : Watered r
  watered = let f = s.run in record { soil = f.soil; constants = f.constants; calendar = is-calendar r.calendar f.first_month f.last_month }

  module _ (room : r.months < long cs) where
    pub ready : Ready r.months r.opens r.values (columns_of cs)
    ready =
        let l = columns_are cs s.fit in
        record {
          opens_fit = s.run.opens;
          room = room;
          most = l.most;
          x2 = l.x2_is;
          x3 = l.x3_is;
          index = l.index_is;
          mark = l.mark_is;
          values_fit = values_fit (long cs) r l.most s.run;
        }

    -- the month has its place among the records and in the list of V
    pub placed : (r.months < length cs.records) × (r.months < length cs.v)
    placed = let l = columns_are cs s.fit in (omega (arith, l.records_is), omega (arith, l.v_is))

    next-taken : (soil : Soil) → SoilFits soil → (w : WaterFigures) (z : ℤ) → nat_abs z ≤ most_z → (kept : Record) → Next r cs (taken r soil w z kept cs)
    unfolding taken
    next-taken soil sf w z hz kept =
        record {
          stands = record { fit = columns-kept r cs s.fit s.run room soil sf w z hz kept; run = run-stays r cs s.fit s.run room soil sf w z hz kept };
          months = refl;
          others = λ j n. ap record_in (get_or-set_other cs.records r.months j (numbers_of kept) [] n);
        }

    module _ (m : Record) (k : Kept m) where
      next-water : Next r cs (taken_water r (nat_abs m.p) (nat_abs m.pe) (kept_kinds m) cs)
      unfolding taken_water
      next-water =
          let p = nat_abs m.p in
          let pe = nat_abs m.pe in
          let w = water_of r p pe in
          let at = constants_at r.constants r.calendar in
          next-taken (soil_after r.soil w) (month-layers-kept r.soil p pe at s.run.soil) (water_figures p pe (kept_kinds m) w) w.z
          (z-acceptable r.soil p pe at s.run.soil k.p k.pe s.run.month_constants)
          (water_record r.soil p pe w (modified_of r.values w.z) (kept_kinds m).p)

      next-z : Next r cs (taken_z r m.z cs)
      next-z = next-taken r.soil s.run.soil no_water m.z k.z (z_record r.soil m.z (modified_of r.values m.z))

      pub next-again : Next r cs (again r m cs)
      unfolding again
      next-again = either (Next r cs) (had_water m) next-water next-z
