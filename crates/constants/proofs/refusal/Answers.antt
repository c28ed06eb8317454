-- `constants::refusal` meets its contract: 1 and 7, what else is handed in, and 18, each where those before it are 0. Assumes nothing.
use Rattle.std.proofs.lemmas.Result.{err_from_is_err_and}
use mathlib.Core.Path.{◌≡◌, sym, ap, ◌∙◌}
use native.Mathlib.Omega.{arith}
use Rattle.outline.proofs.Refusals.{or-first, or-second}
use Rattle.runs.specs.Progress.{run_of}
use Rattle.runs.specs.declared.Run.{Run}
use Rattle.refusals.specs.Book.{Book}
use Rattle.refusals.specs.Lists.{read}
use Rattle.outline.specs.Refused.{refusal_number, answer_number}
use Rattle.outline.proofs.Refused.{number-ne-zero}
use Rattle.refusals.specs.Good.{Good}
use Rattle.constants.specs.WorkOut.{record_refusal}
use Rattle.constants.specs.Asked.{asked_refusal}
use Rattle.constants.proofs.Passes.{record-good, calendar-good, years-room, some_first}
use Rattle.constants.proofs.refusal.Goals as goal
use Rattle.constants.proofs.refusal.Goals.{Start}

abbrev lent : Start → Book
lent s = read s.args.rows.now

abbrev given : Start → Run
given s = run_of s.args.at s.args.constants.now

pub returns-in_err-record_refusal : goal.returns-in_err-record_refusal
unfolding asked_refusal
returns-in_err-record_refusal c =
    let s = (goal.at.returns-in_err-record_refusal c).Start in
    let e = c.in_err-record_refusal.ensures in
    let p = err_from_is_err_and c.from_residual.result c.from_residual.ensures.1 in
    rw (p.1, p.2) (e ∙ sym (or-first (record_refusal (given s) (lent s)) _ (λ z. number-ne-zero _ (e ∙ z))))

pub returns-in_err-given : goal.returns-in_err-given
unfolding asked_refusal
returns-in_err-given c =
    let s = (goal.at.returns-in_err-given c).Start in
    let p = err_from_is_err_and c.from_residual-in_err-given.result c.from_residual-in_err-given.ensures.1 in
    let g : answer_number c.args.given ≡ refusal_number c.in_err-given.field-0.0 = ap answer_number c.in_err-given.was in
    rw (p.1, p.2) (sym g ∙ sym (or-second (record_refusal (given s) (lent s)) _ (sym c.in_ok-record_refusal.ensures) ∙ or-first (answer_number c.args.given) _ (λ z. number-ne-zero c.in_err-given.field-0.0 (sym g ∙ z))))

-- where 1 and 7 are passed
good : (s : Start) → record_refusal (given s) (lent s) ≡ 0 → Good (given s) (lent s)
good s passed = (record-good (given s) (lent s) passed).0

pub whole_years-whole-requires : goal.whole_years-whole-requires
whole_years-whole-requires c =
    let s = (goal.at.whole_years-whole-requires c).Start in
    calendar-good (given s) (lent s) (good s (sym c.in_ok-record_refusal.ensures))

pub years_refusal-requires : goal.years_refusal-requires
years_refusal-requires c h =
    let s = (goal.at.years_refusal-requires c).Start in
    let w = c.whole_years-whole.ensures c.args.constants.now in
    let room = years-room (given s) (lent s) (good s (sym c.in_ok-record_refusal.ensures)) (some_first (given s) (rw w.1 at h)) in
    (omega (arith, w, room), omega (arith, w, room))

pub returns : goal.returns
unfolding asked_refusal
returns c =
    let s = (goal.at.returns c).Start in
    let w = c.whole_years-whole.ensures c.args.constants.now in
    (rw (w.0, w.1) at (c.years_refusal.ensures c.args.at.soil.capacity))
    ∙ sym (or-second (record_refusal (given s) (lent s)) _ (sym c.in_ok-record_refusal.ensures) ∙ or-second (answer_number c.args.given) _ (ap answer_number c.in_ok-given.was))
