-- `layout::check_line`: a line is refused with 14 where it is at fault, in its heading or after it, and else by its heading. Assumes nothing.
use Rattle.std.proofs.Common.{◌≡◌, sym, ◌∙◌, List, ℕ}
use Rattle.text.specs.Bytes.{natural}
use Rattle.fields.specs.Columns.{state, division, element, year}
use Rattle.layout_heading.specs.Heading.{precipitation}
use Rattle.layout_heading.specs.Steps.{heading_refusal, element_refusal}
use Rattle.layout_heading.specs.declared.Heading.{Heading}
use Rattle.layout_heading.proofs.Headings.{heading-told, Heads, heads, headless}
use Rattle.fields.proofs.Told.{told_some_is, told_none_is}
use Rattle.layout.proofs.Faults.{at-heading, at_rest}
use Rattle.layout.proofs.Refusals.{at-fault, faultless}
use Rattle.layout.proofs.check_line.Goals as goal

headed-as : (l : List ℕ) (h a : Heading) → Heads l h → a.element ≡ precipitation → element_refusal h.state h.division h.element h.year a.state a.division a.element a.year ≡ heading_refusal (natural (state l)) (natural (division l)) (natural (element l)) (natural (year l)) a.state a.division a.year
unfolding heading_refusal element_refusal
headed-as l h a t e = rw (t.1, t.2, t.3, t.4, e)

pub returns-in_default : goal.returns-in_default
returns-in_default c =
    let l = c.args.line.now in
    let h = headless l _ (sym c.in_default.ensures) in
    sym (at-fault l _ _ _ (λ e. heading-told l h.0 (sym (at-heading l c.requires.last_column_in_bounds h.0) ∙ e)))

pub rest_fault-requires : goal.rest_fault-requires
rest_fault-requires c =
    let said = heads c.args.line.now c.in-Ok.heading (sym c.in-Ok.ensures) in
    record { last_column_in_bounds = c.requires.last_column_in_bounds; found_value = c.requires.found_value; element_value = sym said.3 }

pub returns-then-is_some : goal.returns-then-is_some
returns-then-is_some c =
    let l = c.args.line.now in
    let said = heads l c.in-Ok.heading (sym c.in-Ok.ensures) in
    let rest = at_rest l c.requires.last_column_in_bounds said.0 in
    sym (at-fault l _ _ _ (λ e. told_some_is _ _ c.rest_fault.ensures (sym c.is_some.ensures ∙ c.if-is_some.true) (sym rest ∙ e)))

pub returns : goal.returns
returns c =
    let l = c.args.line.now in
    let said = heads l c.in-Ok.heading (sym c.in-Ok.ensures) in
    let rest = at_rest l c.requires.last_column_in_bounds said.0 in
    let none = told_none_is _ _ c.rest_fault.ensures (sym c.is_some.ensures ∙ c.if-is_some.false) in
    c.check.ensures ∙ headed-as l c.in-Ok.heading c.args.asked said c.requires.element_value ∙ sym (faultless l _ _ _ (rest ∙ none))
