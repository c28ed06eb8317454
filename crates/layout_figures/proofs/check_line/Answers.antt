-- `layout_figures::check_line`: by the line's heading, its element, and what follows. Assumes nothing.
use Rattle.std.proofs.Common.{◌≡◌, sym, ap, ◌∙◌, List, ℕ}
use Rattle.text.specs.Bytes.{natural}
use Rattle.fields.specs.Columns.{state, division, element, year}
use Rattle.layout_heading.specs.Steps.{element_refusal}
use Rattle.layout_heading.specs.declared.Heading.{Heading}
use Rattle.layout_heading.proofs.Headings.{Heads, heads, headless}
use Rattle.layout_figures.proofs.Refusals.{of-rain, of_other, of-heading}
use Rattle.layout_figures.proofs.Refusals.{headless as no-heading}
use Rattle.layout_figures.proofs.check_line.Goals as goal

headed-as : (l : List ℕ) (h : Heading) (s d e y : ℕ) → Heads l h → element_refusal h.state h.division h.element h.year s d e y ≡ element_refusal (natural (state l)) (natural (division l)) (natural (element l)) (natural (year l)) s d e y
headed-as l h s d e y t = rw (t.1, t.2, t.3, t.4)

pub returns-in_default : goal.returns-in_default
returns-in_default c =
    let l = c.args.line.now in
    sym (no-heading l c.requires.last_column_in_bounds _ _ _ _ (headless l _ (sym c.in_default.ensures)).0)

pub returns-then-heading-eq-PRECIPITATION : goal.returns-then-heading-eq-PRECIPITATION
returns-then-heading-eq-PRECIPITATION c =
    let l = c.args.line.now in
    let said = heads l c.in-Ok.heading (sym c.in-Ok.ensures) in
    c.rain_refusal.ensures ∙ sym (of-rain l c.requires.last_column_in_bounds _ _ _ _ (said.3 ∙ c.if-heading-eq-PRECIPITATION.true))

pub returns-then-not-rest_fits : goal.returns-then-not-rest_fits
returns-then-not-rest_fits c =
    let l = c.args.line.now in
    let said = heads l c.in-Ok.heading (sym c.in-Ok.ensures) in
    sym (of_other l c.requires.last_column_in_bounds _ _ _ _ said.0 (λ e. c.if-heading-eq-PRECIPITATION.false (sym said.3 ∙ e)) (sym c.rest_fits.ensures ∙ c.if-not-rest_fits.true))

pub returns : goal.returns
returns c =
    let a = c.args in
    let l = a.line.now in
    let said = heads l c.in-Ok.heading (sym c.in-Ok.ensures) in
    c.check.ensures ∙ headed-as l c.in-Ok.heading _ _ _ _ said
    ∙ ap (λ (e : ℕ). element_refusal (natural (state l)) (natural (division l)) (natural (element l)) (natural (year l)) a.state a.division e a.year) c.number.ensures
    ∙ sym (of-heading l c.requires.last_column_in_bounds _ _ _ _ said.0 (λ e. c.if-heading-eq-PRECIPITATION.false (sym said.3 ∙ e)) (sym c.rest_fits.ensures ∙ c.if-not-rest_fits.false))
