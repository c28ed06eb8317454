-- The years that count, as specs/WorkedOut.antt states them: the calendar of the rows, back from the run's, is the one that the station started with. Assumes nothing.
use mathlib.Core.Path.{◌≡◌}
use mathlib.Core.Bool.{true}
use mathlib.Core.List.{List, []}
use Prim.Native.Nat.{ℕ, suc, ◌+◌, ◌*◌, ◌<◌}
use native.Mathlib.Omega.{arith}
use lib.IntN.{nat_abs}
use lib.ListN.{length}
use Rattle.outline.specs.Numbers.{last_month}
use Rattle.ranges.specs.Ranges.{calendar_fits}
use Rattle.ranges.proofs.RangeLaws.{calendar-is, is-calendar}
use Rattle.runs.specs.declared.Run.{Run}
use Rattle.starts.proofs.Theorems.{fresh-fits}
use Rattle.reopening.specs.Before.{calendar_back}
use Rattle.reopening.proofs.Laws.{back-again}
use Rattle.years.specs.Years.{calendar_first, years_from, first_of, years_of}
use Rattle.years.proofs.YearLaws.{january, none_before, years-inside, years-none}
use Rattle.demands.specs.Demands.{Fresh, first, now}
use Rattle.demands.specs.Repairs.{Call, now_by, months_by}
use Rattle.demands.specs.WorkedOut.{calendar_at, WholeYears}
use Rattle.demands.proofs.Sequence.{months-all}
use Rattle.demands.proofs.Chain.{calendar}
use Rattle.demands.proofs.Corrected.{calls-fresh}

module _ (r : Run) (h : calendar_fits r.calendar ≡ true) where
  back_fits : calendar_fits (calendar_first r) ≡ true
  unfolding calendar_back
  back_fits = is-calendar (calendar_first r) (omega arith) (omega arith)

  next : calendar_at r r.months ≡ r.calendar
  unfolding calendar_back
  next = let k = calendar-is r.calendar h in omega arith

  is-january : calendar_at r (first_of r) ≡ 1
  is-january = omega (arith, january (calendar_first r) back_fits)

  month-in : (y m : ℕ) → m < last_month → calendar_at r (first_of r + m + last_month * y) ≡ suc m
  month-in y m l = omega (arith, january (calendar_first r) back_fits)

  all-years : r.months < first_of r + last_month * years_of r + last_month
  unfolding years_from
  all-years = omega arith

  pub whole_years : WholeYears r
  whole_years =
      record {
        next = next;
        january = is-january;
        none_before = λ i l e. none_before (calendar_first r) back_fits i l (omega arith);
        months = month-in;
        inside = years-inside (first_of r) r.months;
        none = years-none (first_of r) r.months;
        all = all-years;
      }

-- row 0 is the month of the start
pub started : (f : Fresh) (calls : List Call) → calendar_first (now_by f calls).run ≡ nat_abs f.month
started f calls =
    let asks = months_by f calls in
    let q = calls-fresh f [] tt calls in
    let g = fresh-fits f.constants f.capacity f.surface f.underlying f.month f.started 0 in
    let n : (now f asks).run.months ≡ length asks = omega (arith, months-all (first f) asks q.0) in
    rw (q.1, calendar f asks q.0, n) (back-again (nat_abs f.month) (length asks) g.first_month g.last_month)
