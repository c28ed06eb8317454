-- `hindsight::settle` meets its contract. The loop's invariant is `Going`: from i up to `at` all is settled, and the side is the one that i's month gives. Assumes nothing.
use mathlib.Core.Path.{◌≡◌}
use Prim.Native.Nat.{◌-◌}
use native.Mathlib.Omega.{arith}
use borrow.Author.Rules.{rules}
use lib.IntN.{pos}
use lib.ListN.{get_or}
use mir.Syntax.{w32}
use mir.Val.{SFits}
use mir.Facts.{to_z-of_z}
use Rattle.std.specs.Option.{unwrap_or}
use Rattle.hindsight.specs.Rule.{nonzero}
use Rattle.hindsight.specs.Columns.{x_at}
use Rattle.hindsight.specs.Coded.{told, value_by}
use Rattle.hindsight.proofs.Back.{turn}
use Rattle.hindsight.proofs.settle.Goals as goal

pub loop-i-preserved : goal.loop-i-preserved
loop-i-preserved c =
    let a = c.args in
    let i = c.loop-i.i - 1 in
    let fa : SFits w32 (get_or a.x1.now i (pos 0)) = search rules in
    let fb : SFits w32 (get_or a.x2.now i (pos 0)) = search rules in
    let fc : SFits w32 (get_or a.x3.now i (pos 0)) = search rules in
    let side : c.told-side.result ≡ unwrap_or (told (nonzero (get_or a.x1.now i (pos 0))) (nonzero (get_or a.x2.now i (pos 0)))) c.loop-i.side =
    rw (to_z-of_z fa, to_z-of_z fb) at c.told-side.ensures in
    let value : c.value.result ≡ value_by a.by c.told-side.result (x_at a.x1.now a.x2.now a.x3.now i) =
    rw (to_z-of_z fa, to_z-of_z fb, to_z-of_z fc) at c.value.ensures in
    rw (to_z-of_z (record { sfits = c.value.type_inv }))
    (turn (x_at a.x1.now a.x2.now a.x3.now) a.by a.at i c.loop-i.i (omega arith)
    a.from a.index.now a.mark.now c.loop-i.index c.loop-i.mark c.loop-i.side c.told-side.result c.value.result
    (omega arith) (omega arith) (omega arith) c.loop-i.invariant side value)
