-- What an add hands back is a run again, whose last record ends where it stands, and the lists that it leaves fit again: so no sequence of calls on
-- columns that nobody else writes is ever refused 1 or 7. Assumes nothing.
use mathlib.Core.Path.{◌≡◌, refl, ap, ◌∙◌}
use mathlib.Core.Bool.{true}
use mathlib.Core.List.{List, [], ◌∷◌, ◌++◌}
use Prim.Native.Nat.{ℕ, suc, ◌*◌, ◌≤◌, ◌<◌}
use native.Mathlib.Omega.{arith}
use lib.IntN.{ℤ, pos, nat_abs}
use lib.Seq.{length-take-le, get_or-set_same}
use lib.ListN.{length, drop, get_or, set, length-append, length-drop, length-take, length-replicate, length-set}
use Rattle.outline.specs.Numbers.{most_z, most_u}
use Rattle.water.specs.Layers.{SoilFits}
use Rattle.water.specs.declared.Soil.{Soil}
use Rattle.spells.specs.ValuesFit.{FitsWithin}
use Rattle.spells.specs.Spells.{step_of}
use Rattle.spells.specs.declared.With.{With}
use Rattle.spell_laws.proofs.Theorems.{values-kept}
use Rattle.hindsight.specs.Rule.{X, Row}
use Rattle.hindsight.specs.Adding.{settled_all, add_as, add_month, History}
use Rattle.hindsight.specs.Months.{row_for}
use Rattle.hindsight.specs.Columns.{x_at}
use Rattle.history.proofs.Adding.{length-xs}
use Rattle.calendar.specs.Calendar.{next_calendar}
use Rattle.runs.specs.RunFits.{RunFits}
use Rattle.runs.specs.declared.Run.{Run}
use Rattle.runs.proofs.RunLaws.{fits-run}
use Rattle.calendar.proofs.CalendarLaws.{calendar-next, constants-at-fit}
use Rattle.ranges.proofs.RangeLaws.{calendar-is}
use Rattle.records.specs.Record.{numbers_of}
use Rattle.records.specs.Ends.{ends_meet}
use Rattle.records.specs.declared.Record.{Record}
use Rattle.records.proofs.Meeting.{are-ends}
use Rattle.refusals.specs.Book.{Book, long, columns_fit}
use Rattle.adding.specs.Taken.{held_by, run_after, taken}
use Rattle.adding.specs.declared.WaterFigures.{WaterFigures}
use Rattle.adding.proofs.Taken.{opens-most}
use Rattle.refusals.specs.Good.{Good}
use Rattle.refusals.proofs.Refused.{AllLong, columns_are, parts-run}
use Rattle.adding.proofs.Readiness.{run_is}
use Rattle.std.specs.Prelude.{Option, None, Some}

-- ---- the columns keep their length
pub settled-long : (w : With) (l : List X) → length (settled_all w l) ≡ length l
settled-long w [] = refl
settled-long w (m ∷ l) = ap suc (settled-long w l)

module _ (run : History) (r : Row) (n : ℕ) (past : length run.past ≡ n) (opens : run.opens ≤ n) where
  index_long : (d : Option With) → length run.index ≡ n → length (add_as d run r).index ≡ suc n
  index_long None i = omega (arith, length-append run.index (r.shown ∷ []))
  index_long (Some w) i =
      simp (length-append, settled-long, length-drop, length-take) (omega arith)

  mark_long : (d : Option With) → length run.mark ≡ n → length (add_as d run r).mark ≡ suc n
  mark_long None i = omega (arith, length-append run.mark (1 ∷ []))
  mark_long (Some w) i = simp (length-append, length-replicate, length-take) (omega arith)

-- ---- a month that is added to a run on columns that fit; where the last record ends is not asked
module _ (r : Run) (cs : Book) (fit : columns_fit cs ≡ true) (fits : RunFits (long cs) r) (room : r.months < long cs) where
  lengths : AllLong cs
  lengths = columns_are cs fit

  held-past : length (held_by r cs).past ≡ r.months
  held-past = length-xs (x_at cs.x1 cs.x2 cs.x3) 0 r.months

  held-index : length (held_by r cs).index ≡ r.months
  held-index = length-take-le r.months cs.index (omega (arith, lengths.index_is))

  held-mark : length (held_by r cs).mark ≡ r.months
  held-mark = length-take-le r.months cs.mark (omega (arith, lengths.mark_is))

  module _ (row : Row) where
    pub index-written : length ((add_month (held_by r cs) row).index ++ drop (suc r.months) cs.index) ≡ long cs
    index-written =
        let a = index_long (held_by r cs) row r.months held-past fits.opens row.decision held-index in
        omega (arith, length-append (add_month (held_by r cs) row).index (drop (suc r.months) cs.index), length-drop (suc r.months) cs.index, lengths.index_is)

    pub mark-written : length ((add_month (held_by r cs) row).mark ++ drop (suc r.months) cs.mark) ≡ long cs
    mark-written =
        let a = mark_long (held_by r cs) row r.months held-past fits.opens row.decision held-mark in
        omega (arith, length-append (add_month (held_by r cs) row).mark (drop (suc r.months) cs.mark), length-drop (suc r.months) cs.mark, lengths.mark_is)

  module _ (soil : Soil) (sf : SoilFits soil) (w : WaterFigures) (z : ℤ) (hz : nat_abs z ≤ most_z) (kept : Record) where
    -- each list is as long as it was
    pub long-stays : long (taken r soil w z kept cs).columns ≡ long cs
    unfolding taken
    long-stays = length-set cs.x1 r.months (step_of r.values z).after.x1

    pub columns-kept : columns_fit (taken r soil w z kept cs).columns ≡ true
    unfolding taken
    columns-kept =
        rw (length-set cs.x1 r.months (step_of r.values z).after.x1, length-set cs.x2 r.months (step_of r.values z).after.x2, length-set cs.x3 r.months (step_of r.values z).after.x3, index-written (row_for (step_of r.values z)), mark-written (row_for (step_of r.values z)), length-set cs.records r.months (numbers_of kept), length-set cs.v r.months (step_of r.values z).after.v, lengths.x2_is, lengths.x3_is, lengths.records_is, lengths.v_is)
        (rw (lengths.x2_is, lengths.x3_is, lengths.index_is, lengths.mark_is, lengths.records_is, lengths.v_is) at fit)

    -- the running values, with V's room a month more
    before-fits : FitsWithin (most_u * r.months) r.values
    before-fits =
        record {
          x1_size = fits.x1_size;
          x2_size = fits.x2_size;
          x3_size = fits.x3_size;
          v_size = fits.v_size;
          x1_sign = fits.x1_sign;
          x2_sign = fits.x2_sign;
          v_above = fits.v_above;
          v_below = fits.v_below;
        }

    after-fits : RunFits (long cs) (run_after r soil (step_of r.values z) (add_month (held_by r cs) (row_for (step_of r.values z))))
    after-fits =
        let v = values-kept r.values z (most_u * r.months) before-fits hz in
        let o = opens-most (held_by r cs) (row_for (step_of r.values z)) in
        let c = calendar-is (next_calendar r.calendar) (calendar-next r.calendar) in
        record {
          months = room;
          opens = omega (arith, fits.opens);
          soil = sf;
          first_month = c.0;
          last_month = c.1;
          constants = fits.constants;
          all_count = fits.all_count;
          month_constants = constants-at-fit r.constants (next_calendar r.calendar) fits.constants (calendar-next r.calendar);
          x1_size = v.x1_size;
          x2_size = v.x2_size;
          x3_size = v.x3_size;
          v_size = omega (arith, v.v_size);
          x1_sign = v.x1_sign;
          x2_sign = v.x2_sign;
          v_above = v.v_above;
          v_below = v.v_below;
        }

    -- the run that is handed back fits the columns that are left
    pub run-stays : RunFits (long (taken r soil w z kept cs).columns) (taken r soil w z kept cs).answer.run
    unfolding taken
    run-stays = rw (length-set cs.x1 r.months (step_of r.values z).after.x1) after-fits

    -- where the month's record ends with the soil that it leaves, the last record ends where that run stands
    ends-kept : kept.surface ≡ pos soil.surface → kept.underlying ≡ pos soil.underlying → ends_meet (suc r.months) soil (taken r soil w z kept cs).columns.records ≡ true
    unfolding taken
    ends-kept surface underlying =
        let own = get_or-set_same cs.records r.months (numbers_of kept) [] (omega (arith, lengths.records_is)) in
        are-ends r.months soil (set cs.records r.months (numbers_of kept))
        (ap (λ (n : List ℤ). get_or n 9 (pos 0)) own ∙ surface)
        (ap (λ (n : List ℤ). get_or n 10 (pos 0)) own ∙ underlying)

-- ---- .. and whose last record ends where it stands: so does the run that is handed back, on the columns that are left
module _ (r : Run) (cs : Book) (g : Good r cs) (room : r.months < long cs) where
  pub wrote-index : (row : Row) → length ((add_month (held_by r cs) row).index ++ drop (suc r.months) cs.index) ≡ long cs
  wrote-index = index-written r cs g.fit (run_is r cs g) room

  pub wrote-mark : (row : Row) → length ((add_month (held_by r cs) row).mark ++ drop (suc r.months) cs.mark) ≡ long cs
  wrote-mark = mark-written r cs g.fit (run_is r cs g) room

  module _ (soil : Soil) (sf : SoilFits soil) (w : WaterFigures) (z : ℤ) (hz : nat_abs z ≤ most_z) (kept : Record) where
    pub long_kept : long (taken r soil w z kept cs).columns ≡ long cs
    long_kept = long-stays r cs g.fit (run_is r cs g) room soil sf w z hz kept

    pub good-taken : kept.surface ≡ pos soil.surface → kept.underlying ≡ pos soil.underlying → Good (taken r soil w z kept cs).answer.run (taken r soil w z kept cs).columns
    unfolding taken
    good-taken surface underlying =
        let b = taken r soil w z kept cs in
        let f = run_is r cs g in
        record {
          fit = columns-kept r cs g.fit f room soil sf w z hz kept;
          run = parts-run b.answer.run b.columns (fits-run (long b.columns) b.answer.run (run-stays r cs g.fit f room soil sf w z hz kept)) (ends-kept r cs g.fit f room soil sf w z hz kept surface underlying);
        }
