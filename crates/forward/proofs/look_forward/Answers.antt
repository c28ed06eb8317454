-- `forward::look_forward` meets its contract. Invariants: `Months` of the loop over the groups, `Scanning` of the scan. Assumes nothing.
use mathlib.Core.Path.{refl, sym, ◌∙◌}
use borrow.Author.Rules.{rules}
use lib.IntN.{pos}
use lib.ListN.{get_or}
use mir.Syntax.{w32}
use mir.Val.{SFits}
use mir.Facts.{to_z-of_z}
use Rattle.forward.proofs.Scans.{scan-next, Left, left_out, left-decides, months-next}
use Rattle.forward.proofs.look_forward.Goals as goal
use Rattle.forward.proofs.look_forward.Goals.{Left-deciding, else-deciding-test, then-deciding-test+then-is_some}

pub deciding-preserved : goal.deciding-preserved
deciding-preserved c =
    let m = c.step-month.result in
    let zt : SFits w32 (get_or c.args.z.now c.deciding.at (pos 0)) = search rules in
    let za : SFits w32 m.after.x1 = search rules in
    let zb : SFits w32 m.after.x2 = search rules in
    let ze : SFits w32 m.index = search rules in
    rw (to_z-of_z ze)
    (scan-next c.months.invariant c.deciding.invariant c.requires.each_fits c.deciding-test.true m m.decision c.told_mark.result
    (rw (to_z-of_z zt) at c.step-month.ensures) refl (sym c.is_some.ensures ∙ c.if-is_some.false) (rw (to_z-of_z za, to_z-of_z zb) at c.told_mark.ensures))

-- where the two ways out of the scan meet
leaves : (c : Left-deciding)
    → Left c.args.z.now c.deciding-test.index c.deciding-test.mark
    c.months.values.x1 c.months.values.x2
    c.deciding-test.values c.months.from c.deciding-test.by c.deciding.at
leaves c =
    let z = c.args.z.now in
    elim c.deciding-test.branch [
      | else-deciding-test w ↦ rw (w.index-is, w.mark-is, w.values-is, w.by-is) (left_out c.months.invariant c.deciding.invariant w.deciding-test.false)
      | then-deciding-test+then-is_some w ↦ (
          let m = w.step-month.result in
          let zt : SFits w32 (get_or z c.deciding.at (pos 0)) = search rules in
          let ze : SFits w32 m.index = search rules in
          rw (w.index-is, w.mark-is, w.values-is, w.by-is, to_z-of_z ze)
          (left-decides c.months.invariant c.deciding.invariant c.requires.each_fits w.deciding-test.true m m.decision (rw (to_z-of_z zt) at w.step-month.ensures) refl (sym w.is_some.ensures ∙ w.if-is_some.true))
          )
    ]

pub settle-requires-clause-mark_value : goal.settle-requires-clause-mark_value
settle-requires-clause-mark_value c =
    let za : SFits w32 c.months.values.x1 = search rules in
    let zb : SFits w32 c.months.values.x2 = search rules in
    rw (to_z-of_z za, to_z-of_z zb) (leaves (goal.at.settle-requires-clause-mark_value c).Left-deciding).codes_are

pub months-preserved : goal.months-preserved
months-preserved c =
    let za : SFits w32 c.months.values.x1 = search rules in
    let zb : SFits w32 c.months.values.x2 = search rules in
    months-next (leaves (goal.at.months-preserved c).Left-deciding) c.settle.auto.index c.settle.auto.mark (rw (to_z-of_z za, to_z-of_z zb) at c.settle.ensures.indexes) c.settle.ensures.marks
