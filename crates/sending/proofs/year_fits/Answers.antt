-- `sending::year_fits`: whether the months still to come fit decides. Assumes nothing.
use mathlib.Core.Path.{◌≡◌, sym, ap, ◌∙◌}
use mathlib.Core.List.{List}
use lib.ListN.{get_or}
use Rattle.refusals.specs.Lists.{read}
use Rattle.figures.specs.Figures.{figure_fits}
use Rattle.figures.specs.declared.Figure.{Figure}
use Rattle.figures.specs.declared.Figure.TheVariants.{Malformed}
use Rattle.sent_months.specs.Sent.{month_sent, year_sent}
use Rattle.sent_months.specs.Signed.{sent_fits}
use Rattle.sent_months.specs.declared.SentYear.{SentYear}
use Rattle.sent_months.proofs.Holds.{fits-is}
use Rattle.sending.proofs.Lines.{sent-at, month-is-sent, fit_on, fit-off, fit-end}
use Rattle.sending.proofs.year_fits.Goals as goal
use Rattle.sending.proofs.year_fits.Goals.{After-sent_fits}

-- the months of the year
abbrev year : SentYear → List Figure
year s = year_sent s.element (read s.rows) s.calendar s.months s.which

test-is : (t : After-sent_fits) → t.sent_fits.result ≡ figure_fits (get_or (year t.args.sent.now) t.loop-k.k Malformed)
test-is t =
    let s = t.args.sent.now in
    t.sent_fits.ensures ∙ ap sent_fits t.month.ensures ∙ fits-is (month_sent s.element (read s.rows) s.calendar s.months s.which t.loop-k.k) (month-is-sent s.element (read s.rows) s.calendar s.months s.which t.loop-k.k)
    ∙ ap figure_fits (sym (sent-at s.element (read s.rows) s.calendar s.months s.which t.loop-k.k t.loop-k-test.true))

pub returns-then-not-sent_fits : goal.returns-then-not-sent_fits
returns-then-not-sent_fits c =
    let at = goal.at.returns-then-not-sent_fits c in
    sym (fit-off (year c.args.sent.now) c.loop-k.k c.loop-k-test.true (sym (test-is at.After-sent_fits) ∙ c.if-not-sent_fits.true)) ∙ c.loop-k.invariant

pub loop-k-preserved : goal.loop-k-preserved
loop-k-preserved c =
    let at = goal.at.loop-k-preserved c in
    fit_on (year c.args.sent.now) c.loop-k.k c.loop-k-test.true (sym (test-is at.After-sent_fits) ∙ c.if-not-sent_fits.false) ∙ c.loop-k.invariant

pub returns : goal.returns
returns c = sym (fit-end (year c.args.sent.now) c.loop-k.k c.loop-k-test.false) ∙ c.loop-k.invariant
