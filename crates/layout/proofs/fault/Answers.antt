-- `layout::fault`: the line's length is looked at first, then its heading, then what follows it. Assumes nothing.
use Rattle.std.proofs.Common.{sym, ap, ◌∙◌}
use Rattle.fields.specs.Told.{unless_zero}
use Rattle.fields.proofs.Told.{told_more, told_ne}
use Rattle.layout.proofs.Faults.{at_length, at-heading, at_rest}
use Rattle.layout_heading.proofs.Headings.{heads, headless, heading-told}
use Rattle.layout.proofs.fault.Goals as goal

pub returns-then-line-lt-LAST_COLUMN : goal.returns-then-line-lt-LAST_COLUMN
returns-then-line-lt-LAST_COLUMN c = rw (at_length c.args.line.now c.if-line-lt-LAST_COLUMN.true) (sym (told_more _))

pub rest_fault-requires : goal.rest_fault-requires
rest_fault-requires c =
    let said = heads c.args.line.now c.in-Ok.heading (sym c.in-Ok.ensures) in
    record { last_column_in_bounds = c.if-line-lt-LAST_COLUMN.false; found_value = c.read_months-found.ensures.value; element_value = sym said.3 }

pub returns-in-Err : goal.returns-in-Err
returns-in-Err c =
    let l = c.args.line.now in
    let h = headless l c.in-Err.column (sym c.in-Err.ensures) in
    let t = heading-told l h.0 in
    rw (at-heading l c.if-line-lt-LAST_COLUMN.false h.0, ← h.1) (told_ne _ t)

pub returns-in-Ok : goal.returns-in-Ok
returns-in-Ok c =
    let l = c.args.line.now in
    let said = heads l c.in-Ok.heading (sym c.in-Ok.ensures) in
    c.rest_fault.ensures ∙ ap unless_zero (sym (at_rest l c.if-line-lt-LAST_COLUMN.false said.0))
