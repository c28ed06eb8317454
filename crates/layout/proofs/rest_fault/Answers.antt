-- `layout::rest_fault`: the months are looked at first, and then what follows them. Assumes nothing.
use Rattle.std.proofs.Common.{sym, ap, ◌∙◌, true, false}
use Rattle.text.specs.Bytes.{all_spaces}
use Rattle.fields.specs.Columns.{last_column}
use Rattle.fields.specs.Told.{unless_zero}
use Rattle.fields.proofs.Parts.{to_end}
use Rattle.fields.proofs.Told.{told_none, told_some}
use Rattle.layout.proofs.Faults.{found-fault, at-month, at-end}
use Rattle.layout.proofs.rest_fault.Goals as goal

pub returns-in-Some : goal.returns-in-Some
returns-in-Some c =
    let l = c.args.line.now in
    let m = found-fault l _ _ c.requires.found_value c.requires.element_value in
    let t = told_some _ _ (sym c.in-Some.ensures) in
    c.in-Some.ensures ∙ ap unless_zero (m ∙ sym (at-month l (λ e. t.1 (m ∙ e))))

pub returns-then-all_spaces : goal.returns-then-all_spaces
returns-then-all_spaces c =
    let l = c.args.line.now in
    let m = found-fault l _ _ c.requires.found_value c.requires.element_value in
    let s = c.all_spaces.ensures ∙ ap all_spaces (to_end l last_column) in
    let n = told_none _ (sym c.in_default.ensures) in
    ap unless_zero (sym (at-end l (sym m ∙ n) true (sym s ∙ c.if-all_spaces.true)))

pub returns : goal.returns
returns c =
    let l = c.args.line.now in
    let m = found-fault l _ _ c.requires.found_value c.requires.element_value in
    let s = c.all_spaces.ensures ∙ ap all_spaces (to_end l last_column) in
    let n = told_none _ (sym c.in_default.ensures) in
    ap unless_zero (sym (at-end l (sym m ∙ n) false (sym s ∙ c.if-all_spaces.false)))
