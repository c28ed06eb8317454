-- A run's month of water, by the steps that make it: its constants fit, its Z may be added, and put together with its spells it is
-- `taken_water`. Assumes nothing.
use mathlib.Core.Path.{◌≡◌}
use mathlib.Core.List.{List}
use Prim.Native.Nat.{ℕ, ◌≤◌}
use lib.IntN.{ℤ, nat_abs}
use lib.ListN.{set}
use mir.Syntax.{w32}
use mir.Val.{SFits}
use Rattle.outline.specs.Numbers.{most_z}
use Rattle.exact.proofs.Held.{held}
use Rattle.door.specs.Readings.{most_reading}
use Rattle.door.specs.declared.MonthKinds.{MonthKinds}
use Rattle.water.specs.Bounds.{ConstantsFit}
use Rattle.water.specs.Expected.{month_of}
use Rattle.water.specs.declared.Constants.{Constants}
use Rattle.water.specs.declared.Month.{Month}
use Rattle.modified.specs.Modified.{modified_of}
use Rattle.water.proofs.Theorems.{z-acceptable}
use Rattle.calendar.specs.Calendar.{constants_at}
use Rattle.calendar.proofs.CalendarLaws.{constants-at-fit}
use Rattle.records.specs.Record.{water_record, numbers_of}
use Rattle.records.specs.Recordable.{Recordable}
use Rattle.records.proofs.Fitting.{recordable}
use Rattle.refusals.specs.Columns.{Columns}
use Rattle.refusals.specs.Book.{Book, columns_of, book_of}
use Rattle.runs.specs.Progress.{run_of}
use Rattle.runs.specs.declared.Progress.{Progress}
use Rattle.adding.specs.Figures.{water_figures}
use Rattle.adding.specs.Progress.{added_of, month_added}
use Rattle.adding.specs.Ready.{Watered}
use Rattle.adding.specs.Spelled.{Spells}
use Rattle.adding.specs.Taken.{result_of, soil_after, taken_water, water_of}
use Rattle.adding.specs.declared.MonthAdded.{MonthAdded}
use Rattle.adding.specs.declared.Spelled.{Spelled}
use Rattle.adding.proofs.Taken.{taken_is}

module _ (at : Progress) (ks : List ℤ) where
  -- the month's constants fit
  pub fit : (k : Constants) → k ≡ constants_at ks at.calendar → Watered (run_of at ks) → ConstantsFit k
  fit k e w = rw e (constants-at-fit ks at.calendar w.constants w.calendar)

  -- the run's month of water, whose Z may be added
  pub record Measured (p pe : ℕ) (m : Month) : Type 0 where
    pub is : m ≡ water_of (run_of at ks) p pe
    pub bounded : nat_abs m.z ≤ most_z
    pub fits : SFits w32 m.z
    -- and whose record can be kept
    pub kept : Recordable at.soil p pe m

  pub measured : (k : Constants) → k ≡ constants_at ks at.calendar → Watered (run_of at ks) → (p pe : ℕ) → (p ≤ most_reading) × (pe ≤ most_reading) → (m : Month) → m ≡ month_of at.soil p pe k → Measured p pe m
  measured k e w p pe b m f =
      let z : nat_abs m.z ≤ most_z = rw f (z-acceptable at.soil p pe k w.soil b.0 b.1 (fit k e w)) in
      record { is = rw e at f; bounded = z; fits = search held; kept = rw f (recordable at.soil p pe k w.soil b.0 b.1 (fit k e w)) }

  -- the month with its spells, put together, and its record and V written
  pub measured-is : (p pe : ℕ) (kinds : MonthKinds) (m : Month) → Measured p pe m → (cs : Book) (ds : Columns) (s : Spelled) → Spells at.months at.opens at.values m.z (columns_of cs) s ds
      → (records : List (List ℤ)) → records ≡ set cs.records at.months (numbers_of (water_record at.soil p pe m s.modified kinds.p))
      → (v : List ℤ) → v ≡ set cs.v at.months s.values.v
      → (t : MonthAdded) → t ≡ month_added at (soil_after at.soil m) (water_figures p pe kinds m) m.z s
      → result_of (added_of t ks) (book_of ds records v) ≡ taken_water (run_of at ks) p pe kinds cs
  unfolding taken_water
  measured-is p pe kinds m i cs ds s h records f v g t e = rw (← i.is, e) (taken_is at (soil_after at.soil m) (water_figures p pe kinds m) m.z (water_record at.soil p pe m (modified_of at.values m.z) kinds.p) cs s ds records v h (rw h.modified_is at f) g ks)
