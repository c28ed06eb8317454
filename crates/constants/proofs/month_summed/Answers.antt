-- `constants::month_summed` meets its contract: where nothing is refused, the month's rows are such as an add gives, and its sums are theirs. Assumes nothing.
use Rattle.std.proofs.lemmas.Result.{err_from_is_err_and}
use mathlib.Core.Path.{◌≡◌, sym, ap, ◌∙◌}
use mathlib.Core.Bool.{true, cond}
use Prim.Native.Nat.{ℕ, ◌-◌, ◌≤◌}
use native.Mathlib.Omega.{arith}
use lib.IntN.{ℤ, nat_abs}
use mir.Facts.{to_z-of_z}
use Rattle.outline.specs.Numbers.{most_months}
use Rattle.outline.specs.Refusals.{bad_month}
use Rattle.outline.proofs.Tests.{cond-zero}
use Rattle.outline.specs.Refused.{answer_number}
use Rattle.outline.proofs.Refused.{number-ne-zero}
use Rattle.runs.specs.Progress.{progress_of, run_of}
use Rattle.runs.specs.declared.Progress.{Progress}
use Rattle.refusals.specs.Book.{Book}
use Rattle.refusals.specs.Lists.{read}
use Rattle.refusals.specs.Good.{Good}
use Rattle.years.specs.Years.{first_of, years_of}
use Rattle.starts.specs.Start.{month_fits}
use Rattle.sums.specs.declared.Sums.{Sums}
use Rattle.weighing.specs.Weighing.{Span, sums_in}
use Rattle.constants.specs.WorkOut.{not_summed, summed}
use Rattle.constants.specs.Asked.{asked_refusal}
use Rattle.constants.proofs.Passes.{calendar-good, first-most, span-is, watered-from, asked-passes, asked-good, month-low, month-wide, sum-refused, sum_done}
use Rattle.constants.proofs.month_summed.Goals as goal
use Rattle.constants.proofs.month_summed.Goals.{Start, After-month_refusal, After-whole_years-whole}

abbrev lent : Start → Book
lent s = read s.args.rows.now

-- the number of the month
abbrev own : ℤ → ℕ
own month = cond (month_fits month) 0 bad_month

number_is : (s : Start) (p : Progress) (k n : ℕ) → p ≡ progress_of s.args.run → k ≡ own s.args.month → n ≡ asked_refusal (run_of p s.args.run.constants) k (lent s) → n ≡ asked_refusal s.args.run (own s.args.month) (lent s)
number_is s p k n a b e = rw (a, b) at e

own_is : (c : After-month_refusal) → answer_number c.month_refusal.result ≡ own c.args.month
own_is c = let f = c.ranges.month in simp to_z-of_z at c.month_refusal.ensures

pub returns-in_err-refusal : goal.returns-in_err-refusal
returns-in_err-refusal c =
    let at = goal.at.returns-in_err-refusal c in
    let e = number_is at.Start c.progress_of-at.result _ _ c.progress_of-at.ensures (own_is at.After-month_refusal) c.in_err-refusal.ensures in
    let p = err_from_is_err_and c.from_residual.result c.from_residual.ensures.1 in
    rw (p.1, p.2) (ap not_summed e ∙ sum-refused c.args.run c.args.month (lent at.Start) (λ z. number-ne-zero _ (e ∙ z)))

-- where nothing is refused
good : (s : Start) → asked_refusal s.args.run (own s.args.month) (lent s) ≡ 0 → Good s.args.run (lent s)
good s passed = asked-good s.args.run (lent s) (own s.args.month) passed

month-fits : (s : Start) → asked_refusal s.args.run (own s.args.month) (lent s) ≡ 0 → month_fits s.args.month ≡ true
month-fits s passed = cond-zero _ 5 (asked-passes s.args.run (lent s) (own s.args.month) passed).1

pub whole_years-whole-requires : goal.whole_years-whole-requires
whole_years-whole-requires c =
    let at = goal.at.whole_years-whole-requires c in
    let passed = sym (number_is at.Start c.progress_of-at.result _ 0 c.progress_of-at.ensures (own_is at.After-month_refusal) c.in_ok-refusal.ensures) in
    rw c.progress_of-at.ensures (calendar-good c.args.run (lent at.Start) (good at.Start passed))

-- the whole years are the run's
whole_is : (w : After-whole_years-whole) → let r = w.args.run in (w.whole_years-whole.result.first ≡ first_of r) × (w.whole_years-whole.result.years ≡ years_of r)
whole_is w =
    rw w.progress_of-at.ensures at (w.whole_years-whole.ensures w.args.run.constants)

-- the first January is low
first-low : (s : Start) (first : ℕ) → first ≡ first_of s.args.run → asked_refusal s.args.run (own s.args.month) (lent s) ≡ 0 → first ≤ most_months
first-low s first e passed = rw e (first-most s.args.run (lent s) (good s passed))

pub overflow_cast-row-2 : goal.overflow_cast-row-2
overflow_cast-row-2 c =
    let f = c.ranges.month in
    let at = goal.at.overflow_cast-row-2 c in
    let passed = sym (number_is at.Start c.progress_of-at.result _ 0 c.progress_of-at.ensures (own_is at.After-month_refusal) c.in_ok-refusal.ensures) in
    rw (to_z-of_z f) (month-wide c.args.month (month-fits at.Start passed))

pub overflow_sub-row : goal.overflow_sub-row
overflow_sub-row c =
    let f = c.ranges.month in
    let at = goal.at.overflow_sub-row c in
    let passed = sym (number_is at.Start c.progress_of-at.result _ 0 c.progress_of-at.ensures (own_is at.After-month_refusal) c.in_ok-refusal.ensures) in
    rw (to_z-of_z f) (month-low c.args.month (month-fits at.Start passed)).0

pub overflow_add-row : goal.overflow_add-row
overflow_add-row c =
    let f = c.ranges.month in
    let at = goal.at.overflow_add-row c in
    let passed = sym (number_is at.Start c.progress_of-at.result _ 0 c.progress_of-at.ensures (own_is at.After-month_refusal) c.in_ok-refusal.ensures) in
    let low = first-low at.Start c.whole_years-whole.result.first (whole_is at.After-whole_years-whole).0 passed in
    rw (to_z-of_z f) (omega (arith, low, month-low c.args.month (month-fits at.Start passed)))

-- its rows are such as an add gives
pub invariant_of-over_years : goal.invariant_of-over_years
invariant_of-over_years c =
    let f = c.ranges.month in
    let at = goal.at.invariant_of-over_years c in
    let b = lent at.Start in
    let passed = sym (number_is at.Start c.progress_of-at.result _ 0 c.progress_of-at.ensures (own_is at.After-month_refusal) c.in_ok-refusal.ensures) in
    let p = asked-passes c.args.run b (own c.args.month) passed in
    let m = month-low c.args.month (month-fits at.Start passed) in
    let w = whole_is at.After-whole_years-whole in
    record {
      watered = rw (to_z-of_z f)
          (watered-from c.args.run b c.progress_of-at.result c.whole_years-whole.result.first c.whole_years-whole.result.years
          c.progress_of-at.ensures w.0 w.1 p.0 p.2 (nat_abs c.args.month - 1) (omega arith));
    }

pub returns : goal.returns
unfolding sums_in
returns c =
    let f = c.ranges.month in
    let at = goal.at.returns c in
    let b = lent at.Start in
    let w = whole_is at.After-whole_years-whole in
    let p = span-is c.args.run b c.progress_of-at.result c.whole_years-whole.result.first c.whole_years-whole.result.years c.progress_of-at.ensures w.0 w.1 in
    ap (λ (t : Sums). record { number = 0; years = c.whole_years-whole.result.years; sums = t }) (rw (to_z-of_z f) at c.sums_of-sums.ensures)
    ∙ ap (λ (q : Span). summed q (nat_abs c.args.month - 1)) p
    ∙ sum_done c.args.run c.args.month b (sym (number_is at.Start c.progress_of-at.result _ 0 c.progress_of-at.ensures (own_is at.After-month_refusal) c.in_ok-refusal.ensures))
