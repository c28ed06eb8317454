-- `palmer_input::end`: its tests are those of the definition, in their order. Assumes nothing.
use mathlib.Core.Path.{sym, ap, ◌∙◌}
use Rattle.std.specs.Prelude.{not}
use Rattle.refusals.specs.Book.{book}
use Rattle.palmer_input.specs.ByLines.{state}
use Rattle.palmer_input.proofs.Steps.{none-refused, some-refused, end-closes, end-blank, end_refused}
use Rattle.palmer_input.proofs.end.Goals as goal
use Rattle.palmer_input.proofs.end.Goals.{else-is_none-via-then-is_none+else-not-is_blank, else-is_none-via-else-is_none}

pub returns-then-not-is_blank : goal.returns-then-not-is_blank
returns-then-not-is_blank c =
    let a = c.args in
    let t = state a.s (book a.x1.now a.x2.now a.x3.now a.index.now a.mark.now a.records.now a.v.now) a.percent.now in
    let k = none-refused a.s.refused (c.is_none.ensures ∙ ap not c.if-is_none.true) in
    c.close_line.ensures ∙ sym (end-closes t k (sym c.is_blank.ensures ∙ c.if-not-is_blank.true))

pub returns-else-is_none : goal.returns-else-is_none
returns-else-is_none c =
    let a = c.args in
    let t = state a.s (book a.x1.now a.x2.now a.x3.now a.index.now a.mark.now a.records.now a.v.now) a.percent.now in
    elim c.else-is_none.branch [
      | else-is_none-via-then-is_none+else-not-is_blank w ↦ sym (end-blank t (none-refused a.s.refused (c.is_none.ensures ∙ ap not w.if-is_none.true)) (sym w.is_blank.ensures ∙ w.if-not-is_blank.false))
      | else-is_none-via-else-is_none w ↦ sym (end_refused t (some-refused a.s.refused (c.is_none.ensures ∙ ap not w.if-is_none.false)))
    ]
