-- `fields::without_padding`: what is left has the same bytes after its spaces as the whole has. Assumes nothing.
use lib.ListN.{drop_of_length-le}
use borrow.Author.Rules.{rules}
use mathlib.Core.Path.{refl, sym, ◌∙◌}
use native.Mathlib.Omega.{arith}
use Rattle.fields.proofs.Parts.{to_end, padding-on, padding-off, padding-end}
use Rattle.fields.proofs.without_padding.Goals as goal

pub loop-i-init : goal.loop-i-init
loop-i-init c = (omega arith, refl)

pub bounds-part-i : goal.bounds-part-i
bounds-part-i c = omega arith

pub slice_bounds-result-count : goal.slice_bounds-result-count
slice_bounds-result-count c = omega (arith, c.loop-i.invariant.0)

pub slice_bounds-result-start : goal.slice_bounds-result-start
slice_bounds-result-start c = omega (arith, c.loop-i.invariant.0)

pub slice_bounds-result-end : goal.slice_bounds-result-end
slice_bounds-result-end c = search rules

pub returns-then-part-i-ne32 : goal.returns-then-part-i-ne32
returns-then-part-i-ne32 c =
    let s = c.args.part.now in
    let i = c.loop-i.i in
    to_end s i ∙ sym (padding-off s i c.loop-i-test.true c.if-part-i-ne32.true) ∙ c.loop-i.invariant.1

pub overflow_add-i : goal.overflow_add-i
overflow_add-i c = omega arith

pub loop-i-smaller : goal.loop-i-smaller
loop-i-smaller c = omega arith

pub loop-i-preserved : goal.loop-i-preserved
loop-i-preserved c =
    let s = c.args.part.now in
    (omega arith, sym (padding-on s c.loop-i.i c.loop-i-test.true c.if-part-i-ne32.false) ∙ c.loop-i.invariant.1)

pub slice_bounds-result-count-2 : goal.slice_bounds-result-count-2
slice_bounds-result-count-2 c = omega (arith, c.loop-i.invariant.0)

pub slice_bounds-result-start-2 : goal.slice_bounds-result-start-2
slice_bounds-result-start-2 c = omega (arith, c.loop-i.invariant.0)

pub slice_bounds-result-end-2 : goal.slice_bounds-result-end-2
slice_bounds-result-end-2 c = search rules

pub returns : goal.returns
returns c =
    let s = c.args.part.now in
    to_end s c.loop-i.i ∙ drop_of_length-le s c.loop-i-test.false ∙ padding-end s c.loop-i.i c.loop-i-test.false ∙ c.loop-i.invariant.1
