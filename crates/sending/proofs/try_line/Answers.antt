-- `sending::try_line`: its tests are those of the definition, in their order. Assumes nothing.
use mathlib.Core.Path.{◌≡◌, sym, ap, ap₂, ◌∙◌}
use mathlib.Core.Bool.{Bool, true}
use mathlib.Core.List.{◌++◌}
use Prim.Native.Nat.{ℕ, ◌+◌, ◌≤◌}
use native.Mathlib.Omega.{arith}
use lib.ListN.{length, drop}
use Rattle.fields.specs.Columns.{last_column}
use Rattle.ranges.specs.Ranges.{calendar_fits}
use Rattle.runs.specs.Progress.{run_of}
use Rattle.runs.specs.RunFits.{RunFits}
use Rattle.runs.specs.declared.Run.{Run}
use Rattle.refusals.specs.Book.{Book}
use Rattle.refusals.specs.Lists.{read}
use Rattle.refusals.specs.Lent.{run_refusal_for}
use Rattle.std.specs.Prelude.{Err}
use Rattle.std.proofs.lemmas.Result.{err_from_is_err_and}
use Rattle.outline.specs.Refused.{answer_number, refusal_number}
use Rattle.outline.proofs.Refused.{number-ne-zero}
use Rattle.reopening.proofs.Laws.{calendar-back}
use Rattle.years.specs.Years.{calendar_first}
use Rattle.sent_months.specs.Sent.{year_sent}
use Rattle.sending.specs.Sending.{line_text, year_of, all_fit, written}
use Rattle.sending.specs.Steps.{written_by, write_line_for}
use Rattle.sending.proofs.Refused.{by-run, by-heading, by-months, by-room, by-line, is-theirs, calendar-fits, year-small}
use Rattle.sending.proofs.try_line.Goals as goal
use Rattle.sending.proofs.try_line.Goals.{Start}

-- ---- what was handed in
abbrev lent : Start → Book
lent s = read s.args.rows.now

abbrev given : Start → Run
given s = run_of s.args.at s.args.constants.now

abbrev number : Start → ℕ
number s = run_refusal_for s.args.n (given s) s.args.rows.now.records.now

-- where its number is 0
fits : (s : Start) → number s ≡ 0 → RunFits s.args.n (given s)
fits s passed = is-theirs s.args.n (given s) s.args.rows.now.records.now passed

calendar-good : (s : Start) (calendar : ℕ) → number s ≡ 0 → calendar ≡ calendar_first (given s) → calendar_fits calendar ≡ true
calendar-good s calendar passed e = rw e (calendar-back s.args.at.calendar s.args.at.months (calendar-fits s.args.n (given s) (fits s passed)))

within : (s : Start) → number s ≡ 0 → (s.args.at.months ≤ length s.args.rows.now.index.now) × (s.args.at.months ≤ length s.args.rows.now.mark.now) × (s.args.at.months ≤ length s.args.rows.now.records.now)
within s passed =
    let f = (fits s passed).months in
    (omega (arith, f, s.requires.0), omega (arith, f, s.requires.1), omega (arith, f, s.requires.2))

-- whether the months fit, by the run's own calendar
months-are : (s : Start) (fit : Bool) (calendar : ℕ) → calendar ≡ calendar_first (given s)
    → (let a = s.args in fit ≡ all_fit (year_sent a.element (lent s) calendar a.at.months a.which)) → fit ≡ all_fit (year_of (given s) s.args.element s.args.which (lent s))
months-are s fit calendar e f =
    let a = s.args in
    f ∙ ap (λ (k : ℕ). all_fit (year_sent a.element (lent s) k a.at.months a.which)) e

pub returns-in_err-run_refusal : goal.returns-in_err-run_refusal
unfolding write_line_for
returns-in_err-run_refusal c =
    let a = c.args in
    let s = (goal.at.returns-in_err-run_refusal c).Start in
    let p = err_from_is_err_and c.from_residual.result c.from_residual.ensures.1 in
    let e = c.in_err-run_refusal.field-0.0 in
    ap (λ r. written (answer_number r) a.line.now) (p.1 ∙ ap Err p.2)
    ∙ by-run (given s) a.element a.state a.division a.year a.which (lent s) a.line.now (refusal_number e) (number-ne-zero e)
    ∙ ap (λ (k : ℕ). written_by k (given s) a.element a.state a.division a.year a.which (lent s) a.line.now) c.in_err-run_refusal.ensures

pub returns-then-not-heading_fits : goal.returns-then-not-heading_fits
unfolding write_line_for
returns-then-not-heading_fits c =
    let a = c.args in
    let s = (goal.at.returns-then-not-heading_fits c).Start in
    by-heading (given s) a.element a.state a.division a.year a.which (lent s) a.line.now (number s) (sym c.in_ok-run_refusal.ensures) (sym c.heading_fits.ensures ∙ c.if-not-heading_fits.true)

pub calendar_back-requires : goal.calendar_back-requires
calendar_back-requires c =
    let s = (goal.at.calendar_back-requires c).Start in
    calendar-fits c.args.n (given s) (fits s (sym c.in_ok-run_refusal.ensures))

pub year_fits-requires : goal.year_fits-requires
year_fits-requires c =
    let s = (goal.at.year_fits-requires c).Start in
    let passed = sym c.in_ok-run_refusal.ensures in
    record { calendar_value = calendar-good s c.calendar_back.result passed c.calendar_back.ensures; months_in_bounds = within s passed }

pub returns-then-not-year_fits : goal.returns-then-not-year_fits
unfolding write_line_for
returns-then-not-year_fits c =
    let a = c.args in
    let s = (goal.at.returns-then-not-year_fits c).Start in
    let heading = sym c.heading_fits.ensures ∙ c.if-not-heading_fits.false in
    let months = months-are s c.year_fits.result c.calendar_back.result c.calendar_back.ensures c.year_fits.ensures in
    by-months (given s) a.element a.state a.division a.year a.which (lent s) a.line.now (number s) (sym c.in_ok-run_refusal.ensures) heading (sym months ∙ c.if-not-year_fits.true)

pub returns-then-line-lt-LAST_COLUMN : goal.returns-then-line-lt-LAST_COLUMN
unfolding write_line_for
returns-then-line-lt-LAST_COLUMN c =
    let a = c.args in
    let s = (goal.at.returns-then-line-lt-LAST_COLUMN c).Start in
    let heading = sym c.heading_fits.ensures ∙ c.if-not-heading_fits.false in
    let months = months-are s c.year_fits.result c.calendar_back.result c.calendar_back.ensures c.year_fits.ensures in
    by-room (given s) a.element a.state a.division a.year a.which (lent s) a.line.now (number s) (sym c.in_ok-run_refusal.ensures) heading (sym months ∙ c.if-not-year_fits.false) c.if-line-lt-LAST_COLUMN.true

pub overflow_add-heading : goal.overflow_add-heading
overflow_add-heading c =
    let a = c.args in
    omega (arith, year-small a.state a.division (a.year + a.which) (sym c.heading_fits.ensures ∙ c.if-not-heading_fits.false))

pub put_line-requires : goal.put_line-requires
put_line-requires c =
    let s = (goal.at.put_line-requires c).Start in
    let passed = sym c.in_ok-run_refusal.ensures in
    record {
      calendar_value = calendar-good s c.calendar_back.result passed c.calendar_back.ensures;
      months_in_bounds = within s passed;
      last_column_in_bounds = c.if-line-lt-LAST_COLUMN.false;
    }

pub returns : goal.returns
unfolding write_line_for
returns c =
    let a = c.args in
    let s = (goal.at.returns c).Start in
    let heading = sym c.heading_fits.ensures ∙ c.if-not-heading_fits.false in
    let months = months-are s c.year_fits.result c.calendar_back.result c.calendar_back.ensures c.year_fits.ensures in
    ap (written 0)
    (c.put_line.ensures
    ∙ ap₂ (λ (e k : ℕ). line_text a.state a.division e (a.year + a.which) (year_sent a.element (lent s) k a.at.months a.which) ++ drop last_column a.line.now) c.number.ensures c.calendar_back.ensures)
    ∙ by-line (given s) a.element a.state a.division a.year a.which (lent s) a.line.now (number s) (sym c.in_ok-run_refusal.ensures) heading (sym months ∙ c.if-not-year_fits.false) c.if-line-lt-LAST_COLUMN.false
