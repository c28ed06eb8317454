-- The run before a month whose rows are in range: it stands, on the columns with the months open again that were open then and the new readings in the
-- month's record, and every record from the month on can be worked from. Assumes nothing.
use mathlib.Core.Path.{◌≡◌, ap}
use mathlib.Core.Bool.{true}
use mathlib.Core.Logic.{⊎_elim}
use mathlib.Core.List.{List, []}
use Prim.Native.Nat.{ℕ, zero, suc, ◌-◌, ◌*◌, ◌≤◌, ◌<◌}
use native.Mathlib.Nat.{eq-or-lt_of_le}
use native.Mathlib.Omega.{arith}
use lib.IntN.{ℤ, pos}
use lib.ListN.{set, length-set}
use lib.Seq.{get_or-set_same, get_or-set_other}
use lib.Signed.{◌≤ℤ◌}
use Rattle.outline.specs.Numbers.{most_u}
use Rattle.exact.proofs.Z.{zs}
use Rattle.door.specs.Outcome.{measured}
use Rattle.door.specs.Readings.{most_reading}
use Rattle.ranges.specs.Ranges.{calendar_fits}
use Rattle.ranges.proofs.RangeLaws.{calendar-is, is-calendar}
use Rattle.calendar.proofs.CalendarLaws.{constants-at-fit}
use Rattle.spells.specs.ValuesFit.{FitsWithin}
use Rattle.runs.specs.RunFits.{RunFits}
use Rattle.runs.specs.declared.Run.{Run}
use Rattle.records.specs.Record.{record_at, numbers_of}
use Rattle.refusals.specs.Book.{Book, book, values_at, long, columns_fit}
use Rattle.refusals.proofs.Refused.{AllLong, columns_are}
use Rattle.adding.proofs.Readiness.{run_is}
use Rattle.kept_rows.specs.KeptRows.{row_fits}
use Rattle.kept_rows.proofs.Ranges.{RecordRanges, row-fits-at, values-of-row, record-of-row}
use Rattle.reopening.specs.Before.{calendar_back, run_before, values_before, reopened}
use Rattle.reopening.specs.Sided.{Sided}
use Rattle.reopening.proofs.Laws.{calendar-back, opens-most, index_long, mark_long}
use Rattle.reworking.specs.Reworked.{renewed, renewed_in}
use Rattle.reworking.specs.Workable.{Workable, Stands, Kept}
use Rattle.reworking.proofs.Passes.{Recorded}

-- a number that counts
not-below : (n : ℕ) → pos 0 ≤ℤ pos n
not-below n = simp zs (omega arith)

module _ (r : Run) (cs : Book) (i : ℕ) (w : Workable r cs i) where
  pub lengths : AllLong cs
  lengths = columns_are cs w.good.fit

  pub run_fits : RunFits (long cs) r
  run_fits = run_is r cs w.good

  pub calendar-fits : calendar_fits r.calendar ≡ true
  calendar-fits = is-calendar r.calendar run_fits.first_month run_fits.last_month

  row_at : (j : ℕ) → j < r.months → row_fits r.soil.capacity cs j ≡ true
  row_at j h = row-fits-at r.soil.capacity cs r.months j w.rows h

  -- each row's record and values
  pub ranges : (j : ℕ) → j < r.months → RecordRanges r.soil.capacity (record_at cs.records j)
  ranges j h = record-of-row r.soil.capacity cs j (row_at j h)

  values-at : (j : ℕ) → j < r.months → FitsWithin (most_u * suc j) (values_at cs j)
  values-at j h = values-of-row r.soil.capacity cs j (row_at j h)

  pub sided : Sided cs.x1 cs.x2 i
  sided j h =
      let v = values-at j (omega (arith, w.row)) in
      record { x1_size = v.x1_size; x2_size = v.x2_size; x1_sign = v.x1_sign; x2_sign = v.x2_sign }

  values-before : (m : ℕ) → m ≤ i → FitsWithin (most_u * m) (values_before cs m)
  values-before zero h =
      record {
        x1_size = omega arith;
        x2_size = omega arith;
        x3_size = omega arith;
        v_size = omega arith;
        x1_sign = not-below 0;
        x2_sign = not-below 0;
        v_above = λ h. h;
        v_below = λ h. h;
      }
  values-before (suc m) h = values-at m (omega (arith, w.row))

  -- the run before the month
  pub before-fits : RunFits (long cs) (run_before r cs i)
  before-fits =
      let f = run_fits in
      let v = values-before i (omega arith) in
      let m = ranges i w.row in
      let back = calendar-back r.calendar (r.months - i) calendar-fits in
      let c = calendar-is (calendar_back r.calendar (r.months - i)) back in
      record {
        months = omega (arith, w.row, f.months);
        opens = opens-most cs i;
        soil = record { least = f.soil.least; most = f.soil.most; surface = m.ss; underlying = m.su };
        first_month = c.0;
        last_month = c.1;
        constants = f.constants;
        all_count = f.all_count;
        month_constants = constants-at-fit r.constants (calendar_back r.calendar (r.months - i)) f.constants back;
        x1_size = v.x1_size;
        x2_size = v.x2_size;
        x3_size = v.x3_size;
        v_size = v.v_size;
        x1_sign = v.x1_sign;
        x2_sign = v.x2_sign;
        v_above = v.v_above;
        v_below = v.v_below;
      }

  module _ (p pe kind : ℕ) (read : (p ≤ most_reading) × (pe ≤ most_reading) × (kind ≤ measured)) where
    abbrev begun : Book
    begun = renewed_in (reopened cs i) i p pe kind

    begun-fits : columns_fit begun ≡ true
    begun-fits =
        let l = lengths in
        rw (index_long cs i (omega (arith, w.row, run_fits.months, l.index_is)), mark_long cs i (omega (arith, w.row, run_fits.months, l.mark_is)), length-set cs.records i (numbers_of (renewed (record_at cs.records i) p pe kind))) w.good.fit

    pub stands-begun : Stands (run_before r cs i) begun
    stands-begun = record { fit = begun-fits; run = before-fits }

    -- a record as it was, and the month's with its new readings
    kept_at : (j : ℕ) → j < r.months → Kept (record_at cs.records j)
    kept_at j h =
        let m = ranges j h in
        record { z = m.z; p_sign = m.p_sign; p = m.p; pe_sign = m.pe_sign; pe = m.pe; kind_sign = m.kind_sign; kind = m.kind }

    kept-renewed : Kept (renewed (record_at cs.records i) p pe kind)
    kept-renewed =
        let m = ranges i w.row in
        record { z = m.z; p_sign = not-below p; p = read.0; pe_sign = not-below pe; pe = read.1; kind_sign = not-below kind; kind = read.2 }

    pub recorded-begun : Recorded r.months (run_before r cs i) begun
    recorded-begun j l h =
        let new = numbers_of (renewed (record_at cs.records i) p pe kind) in
        ⊎_elim
        (λ (e : i ≡ j). rw (← e, get_or-set_same cs.records i new [] (omega (arith, lengths.records_is, w.row, run_fits.months))) kept-renewed)
        (λ (g : i < j). rw (get_or-set_other cs.records i j new [] (λ q. omega (arith, q))) (kept_at j h))
        (eq-or-lt_of_le l)

    -- what the code leaves before the first month, in its terms
    pub begins : (index : List ℤ) (mark : List ℕ) (records : List (List ℤ)) → book cs.x1 cs.x2 cs.x3 index mark cs.records cs.v ≡ reopened cs i
        → records ≡ set cs.records i (numbers_of (renewed (record_at cs.records i) p pe kind))
        → book cs.x1 cs.x2 cs.x3 index mark records cs.v ≡ begun
    begins index mark records e f = rw f (ap (λ (b : Book). book b.x1 b.x2 b.x3 b.index b.mark (set cs.records i (numbers_of (renewed (record_at cs.records i) p pe kind))) b.v) e)
