-- `kept_rows::rows_fit` meets its contract: the rows fit where each of the six tests is passed (`rows_are`). Assumes nothing.
use mathlib.Core.Path.{sym, ◌∙◌}
use Rattle.refusals.specs.Book.{book}
use Rattle.kept_rows.proofs.Lists.{rows_are}
use Rattle.kept_rows.proofs.rows_fit.Goals as goal

pub returns-then-not-column_fits : goal.returns-then-not-column_fits
returns-then-not-column_fits c =
    let a = c.args in
    let rows = rows_are a.capacity (book a.x1.now a.x2.now a.x3.now a.index.now a.mark.now a.records.now a.v.now) a.months in
    rw (rows, sym c.column_fits.ensures ∙ c.if-not-column_fits.true)

pub returns-then-not-column_fits-2 : goal.returns-then-not-column_fits-2
returns-then-not-column_fits-2 c =
    let a = c.args in
    let rows = rows_are a.capacity (book a.x1.now a.x2.now a.x3.now a.index.now a.mark.now a.records.now a.v.now) a.months in
    rw (rows, sym c.column_fits.ensures ∙ c.if-not-column_fits.false, sym c.column_fits-2.ensures ∙ c.if-not-column_fits-2.true)

pub returns-then-not-column_fits-3 : goal.returns-then-not-column_fits-3
returns-then-not-column_fits-3 c =
    let a = c.args in
    let rows = rows_are a.capacity (book a.x1.now a.x2.now a.x3.now a.index.now a.mark.now a.records.now a.v.now) a.months in
    rw (rows, sym c.column_fits.ensures ∙ c.if-not-column_fits.false, sym c.column_fits-2.ensures ∙ c.if-not-column_fits-2.false, sym c.column_fits-3.ensures ∙ c.if-not-column_fits-3.true)

pub returns-then-not-column_fits-4 : goal.returns-then-not-column_fits-4
returns-then-not-column_fits-4 c =
    let a = c.args in
    let rows = rows_are a.capacity (book a.x1.now a.x2.now a.x3.now a.index.now a.mark.now a.records.now a.v.now) a.months in
    rw (rows, sym c.column_fits.ensures ∙ c.if-not-column_fits.false, sym c.column_fits-2.ensures ∙ c.if-not-column_fits-2.false, sym c.column_fits-3.ensures ∙ c.if-not-column_fits-3.false, sym c.column_fits-4.ensures ∙ c.if-not-column_fits-4.true)

pub returns-then-not-marks_fit : goal.returns-then-not-marks_fit
returns-then-not-marks_fit c =
    let a = c.args in
    let rows = rows_are a.capacity (book a.x1.now a.x2.now a.x3.now a.index.now a.mark.now a.records.now a.v.now) a.months in
    rw (rows, sym c.column_fits.ensures ∙ c.if-not-column_fits.false, sym c.column_fits-2.ensures ∙ c.if-not-column_fits-2.false, sym c.column_fits-3.ensures ∙ c.if-not-column_fits-3.false, sym c.column_fits-4.ensures ∙ c.if-not-column_fits-4.false, sym c.marks_fit.ensures ∙ c.if-not-marks_fit.true)

pub returns : goal.returns
returns c =
    let a = c.args in
    let rows = rows_are a.capacity (book a.x1.now a.x2.now a.x3.now a.index.now a.mark.now a.records.now a.v.now) a.months in
    rw (rows, sym c.column_fits.ensures ∙ c.if-not-column_fits.false, sym c.column_fits-2.ensures ∙ c.if-not-column_fits-2.false, sym c.column_fits-3.ensures ∙ c.if-not-column_fits-3.false, sym c.column_fits-4.ensures ∙ c.if-not-column_fits-4.false, sym c.marks_fit.ensures ∙ c.if-not-marks_fit.false) c.rest_fits.ensures
