-- Document 02, E10, "Station constants from the station's own record": what its two calls answer. Neither writes anything. Assumes nothing.
use Rattle.std.specs.Prelude.{ℕ, ◌-◌, ◌*◌, cond, not, ◌&&◌, List, ℤ, pos, nat_abs, eqb, leb, length, replicate}
use Rattle.outline.specs.Numbers.{many_constants, last_month}
use Rattle.outline.specs.Refusals.{bad_lists, not_sixty, bad_constant, bad_month, not_a_run, few_years, bad_gamma, bad_k, zero_k, or_else, unless_refused}
use Rattle.calendar.specs.Calendar.{some_zero_k}
use Rattle.runs.specs.declared.Run.{Run}
use Rattle.refusals.specs.Book.{Book, columns_fit}
use Rattle.refusals.specs.Refusals.{is_run_of}
use Rattle.given_rows.specs.GivenRows.{rows_given}
use Rattle.years.specs.Years.{first_of, years_of, all_water}
use Rattle.sums.specs.Sums.{no_sums}
use Rattle.weighing.specs.Weighing.{Span, span, sums_in, gammas_fit, weights_fit, total_in, ks_fit, departures_in, sixty_in}
use Rattle.starts.specs.Start.{month_fits}
use Rattle.constants.specs.declared.Summed.{Summed}
use Rattle.constants.specs.declared.WorkedOut.{WorkedOut}

-- the whole years of a run
abbrev pub span_of : Run → Book → Span
span_of r cs = span r.soil.capacity cs.records (first_of r) (years_of r)

-- ---- the refusals
-- 1; "7 (here also any water row whose six figures and end storages no add gives from its start storages)"
unfoldable pub record_refusal : Run → Book → ℕ
record_refusal r cs =
    or_else (cond (columns_fit cs) 0 bad_lists) (cond (is_run_of cs r && rows_given r.soil.capacity cs.records r.months) 0 not_a_run)

-- "2 or 3 (weights not twelve or out of range)"
unfoldable pub weights_refusal : List ℤ → ℕ
weights_refusal weights = cond (eqb (length weights) last_month) (cond (weights_fit weights last_month) 0 bad_constant) not_sixty

-- "18 fewer than ten such years or one with a Z-only month"
abbrev pub fewest_years : ℕ
fewest_years = 10

unfoldable pub years_refusal : Span → ℕ
years_refusal s = cond (leb fewest_years s.years && all_water s.records s.first (last_month * s.years)) 0 few_years

-- "19 gamma out of range, 20 the sum of D K' is 0 or a K out of range"; E11: "21 zero K, .. in E10 after 20"
unfoldable pub set_refusal : Span → List ℤ → ℕ
set_refusal s weights =
    or_else (cond (gammas_fit s last_month) 0 bad_gamma)
    (or_else (cond (not (eqb (total_in s weights) 0) && ks_fit (total_in s weights) weights last_month) 0 bad_k)
    (cond (not (some_zero_k (sixty_in s weights))) 0 zero_k))

-- "after 1, 7 .. and 2 or 3 .., 18 .., 19 .., 20 .., in that order", and 21
unfoldable pub work_out_refusal : Run → List ℤ → Book → ℕ
work_out_refusal r weights cs =
    or_else (record_refusal r cs) (or_else (weights_refusal weights) (or_else (years_refusal (span_of r cs)) (set_refusal (span_of r cs) weights)))

-- the sums of a calendar month: 1, 7, 6, 18
unfoldable pub sum_refusal : Run → ℤ → Book → ℕ
sum_refusal r month cs = or_else (record_refusal r cs) (or_else (cond (month_fits month) 0 bad_month) (years_refusal (span_of r cs)))

-- ---- WORK THE CONSTANTS OUT AGAIN
-- the sixty, and the twelve D
abbrev pub worked_out : Span → List ℤ → WorkedOut
worked_out s weights = record { number = 0; constants = sixty_in s weights; departures = departures_in s }

-- "A refusal returns its number with all figures 0"
abbrev pub not_worked_out : ℕ → WorkedOut
not_worked_out k = record { number = k; constants = replicate many_constants (pos 0); departures = replicate last_month 0 }

-- of years whose rows, water and weights were asked
unfoldable pub set_of : Span → List ℤ → WorkedOut
set_of s weights = let k = set_refusal s weights in unless_refused k (worked_out s weights) (not_worked_out k)

unfoldable pub work_out : Run → List ℤ → Book → WorkedOut
work_out r weights cs = let k = work_out_refusal r weights cs in unless_refused k (worked_out (span_of r cs) weights) (not_worked_out k)

-- ---- THE SUMS OF A CALENDAR MONTH, from 1 on: what its constants are made from
abbrev pub summed : Span → ℕ → Summed
summed s m = record { number = 0; years = s.years; sums = sums_in s m }

abbrev pub not_summed : ℕ → Summed
not_summed k = record { number = k; years = 0; sums = no_sums }

unfoldable pub sum_month : Run → ℤ → Book → Summed
sum_month r month cs = let k = sum_refusal r month cs in unless_refused k (summed (span_of r cs) (nat_abs month - 1)) (not_summed k)
