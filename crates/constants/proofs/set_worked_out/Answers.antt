-- `constants::set_worked_out` meets its contract: where something is refused before the set is worked out, that is the call's number, and otherwise the set's
-- own is. Assumes nothing.
use Rattle.std.proofs.lemmas.Result.{err_from_is_err_and}
use mathlib.Core.Path.{◌≡◌, sym, ap, ◌∙◌}
use Prim.Native.Nat.{ℕ}
use Rattle.outline.proofs.Refused.{number-ne-zero}
use Rattle.runs.specs.Progress.{progress_of, run_of}
use Rattle.runs.specs.declared.Progress.{Progress}
use Rattle.refusals.specs.Book.{Book}
use Rattle.refusals.specs.Lists.{read}
use Rattle.years.specs.Years.{first_of, years_of}
use Rattle.weighing.specs.Weighing.{Span}
use Rattle.constants.specs.WorkOut.{weights_refusal, not_worked_out, set_of}
use Rattle.constants.specs.Asked.{asked_refusal}
use Rattle.constants.proofs.Passes.{calendar-good, weights-good, span-is, watered-from, first-within, asked-passes, asked-good, work-refused, work-done}
use Rattle.constants.proofs.set_worked_out.Goals as goal
use Rattle.constants.proofs.set_worked_out.Goals.{Start, After-whole_years-whole}

abbrev lent : Start → Book
lent s = read s.args.rows.now

number_is : (s : Start) (p : Progress) (k n : ℕ) → p ≡ progress_of s.args.run → k ≡ weights_refusal s.args.weights.now → n ≡ asked_refusal (run_of p s.args.run.constants) k (lent s) → n ≡ asked_refusal s.args.run (weights_refusal s.args.weights.now) (lent s)
number_is s p k n a b e = rw (a, b) at e

pub returns-in_err-refusal : goal.returns-in_err-refusal
returns-in_err-refusal c =
    let s = (goal.at.returns-in_err-refusal c).Start in
    let e = number_is s c.progress_of-at.result _ _ c.progress_of-at.ensures c.weights_refusal.ensures c.in_err-refusal.ensures in
    let p = err_from_is_err_and c.from_residual.result c.from_residual.ensures.1 in
    rw (p.1, p.2) (ap not_worked_out e ∙ work-refused c.args.run c.args.weights.now (lent s) (λ z. number-ne-zero _ (e ∙ z)))

pub whole_years-whole-requires : goal.whole_years-whole-requires
whole_years-whole-requires c =
    let at = goal.at.whole_years-whole-requires c in
    let passed = sym (number_is at.Start c.progress_of-at.result _ 0 c.progress_of-at.ensures c.weights_refusal.ensures c.in_ok-refusal.ensures) in
    rw c.progress_of-at.ensures (calendar-good c.args.run (lent at.Start) (asked-good c.args.run (lent at.Start) (weights_refusal c.args.weights.now) passed))

-- the whole years are the run's
whole_is : (w : After-whole_years-whole) → let r = w.args.run in (w.whole_years-whole.result.first ≡ first_of r) × (w.whole_years-whole.result.years ≡ years_of r)
whole_is w =
    rw w.progress_of-at.ensures at (w.whole_years-whole.ensures w.args.run.constants)

pub set_of-requires : goal.set_of-requires
set_of-requires c =
    let at = goal.at.set_of-requires c in
    let r = c.args.run in
    let b = lent at.Start in
    let passed = sym (number_is at.Start c.progress_of-at.result _ 0 c.progress_of-at.ensures c.weights_refusal.ensures c.in_ok-refusal.ensures) in
    let p = asked-passes r b (weights_refusal c.args.weights.now) passed in
    let q = c.progress_of-at.result in
    let f = c.whole_years-whole.result.first in
    let y = c.whole_years-whole.result.years in
    let w = whole_is at.After-whole_years-whole in
    record {
      first_le_most_months = (first-within r b q f y c.progress_of-at.ensures w.0 w.1 (asked-good r b (weights_refusal c.args.weights.now) passed), watered-from r b q f y c.progress_of-at.ensures w.0 w.1 p.0 p.2);
      weights_len = weights-good c.args.weights.now p.1;
    }

pub returns : goal.returns
returns c =
    let at = goal.at.returns c in
    let b = lent at.Start in
    let q = c.progress_of-at.result in
    let w = whole_is at.After-whole_years-whole in
    c.set_of.ensures
    ∙ ap (λ (p : Span). set_of p c.args.weights.now) (span-is c.args.run b q c.whole_years-whole.result.first c.whole_years-whole.result.years c.progress_of-at.ensures w.0 w.1)
    ∙ work-done c.args.run c.args.weights.now b (sym (number_is at.Start c.progress_of-at.result _ 0 c.progress_of-at.ensures c.weights_refusal.ensures c.in_ok-refusal.ensures))
