-- `report::gather` meets its contract. The loop's invariant is `Going`: the changes of the first i months stand at the beginning, up to i there is nothing, and from i on all is as it was. Assumes nothing.
use Rattle.std.proofs.Common.{arith, rules, ◌≡◌, sym, ◌∙◌, pos, get_or}
use Rattle.report.proofs.Gathering.{Read, at_first, old_at, old_mark_at, read-differs, changed, unchanged}
use Rattle.report.proofs.gather.Goals as goal
use Rattle.report.proofs.gather.Goals.{then-ne, else-ne}

pub loop-i-init : goal.loop-i-init
loop-i-init c = at_first c.args.report.now c.args.index.now c.args.mark.now c.args.months

pub loop-i-preserved : goal.loop-i-preserved
loop-i-preserved c =
    let a = c.args in
    let i = c.loop-i.i in
    let r = c.loop-i.report in
    let m = c.from-new_mark.result in
    let e : m ≡ pos (get_or a.mark.now i 0) = search rules in
    let f : Read i (old_at r i) (get_or a.index.now i (pos 0)) (old_mark_at r i) m = record {
      place = search rules;
      old_fits = search rules;
      new_fits = search rules;
      old_mark = search rules;
      new_mark = search rules;
    } in
    let t = sym (read-differs _ _ _ _ _ f) ∙ sym c.ne.ensures in
    elim c.if-ne.branch [
      | then-ne w ↦ rw (w.k-is, w.report-is) (changed a.report.now a.index.now a.mark.now a.months r c.loop-i.k i c.loop-i.invariant (omega arith) (omega arith) m e f (t ∙ w.if-ne.true))
      | else-ne w ↦ rw (w.k-is, w.report-is) (unchanged a.report.now a.index.now a.mark.now a.months r c.loop-i.k i c.loop-i.invariant (omega arith) (omega arith) m e f (t ∙ w.if-ne.false))
    ]
