-- `report::hold` meets its contract. The loop's invariant: the first i places hold index and mark of their months. Assumes nothing.
use Rattle.std.proofs.Common.{arith, rules, ◌≡◌, pos, get_or}
use mir.Syntax.{w32}
use mir.Val.{SFits}
use Rattle.report.proofs.Filling.{held_first, held_next}
use Rattle.report.proofs.hold.Goals as goal

pub loop-i-init : goal.loop-i-init
loop-i-init c = held_first c.args.index.now c.args.mark.now

pub loop-i-preserved : goal.loop-i-preserved
loop-i-preserved c =
    let i = c.loop-i.i in
    let f : SFits w32 (get_or c.args.index.now i (pos 0)) = search rules in
    let g : SFits w32 c.from.result = search rules in
    let e : c.from.result ≡ pos (get_or c.args.mark.now i 0) = search rules in
    held_next c.args.index.now c.args.mark.now c.loop-i.report i c.from.result (omega arith) f g e c.loop-i.invariant
