-- `door::read_whole` meets its contract. The machine reads a signed number back from its bits, `to_z w32 (of_z w32 n)`, which is n. Assumes nothing.
use mathlib.Core.Path.{◌≡◌}
use mir.Syntax.{w32}
use mir.Val.{to_z, of_z}
use mir.ValLaws.{to_z-of_z}
use Rattle.door.proofs.Answers.{counted, counted_is, too_many, below-zero}
use Rattle.door.proofs.read_whole.Goals as goal
use Rattle.door.proofs.read_whole.Goals.{else-n-ge0-via-then-n-ge0+else-n-le-MOST_WHOLE, else-n-ge0-via-else-n-ge0}

pub overflow_cast-result : goal.overflow_cast-result
overflow_cast-result c = counted (to_z w32 (of_z w32 c.args.n)) c.if-n-ge0.true c.if-n-le-MOST_WHOLE.true

pub returns-then-n-le-MOST_WHOLE : goal.returns-then-n-le-MOST_WHOLE
returns-then-n-le-MOST_WHOLE c =
    counted_is (to_z w32 (of_z w32 c.args.n)) c.args.n (to_z-of_z w32 c.args.n c.ranges.n) c.if-n-ge0.true c.if-n-le-MOST_WHOLE.true

pub returns : goal.returns
returns c =
    let e : to_z w32 (of_z w32 c.args.n) ≡ c.args.n = to_z-of_z w32 c.args.n c.ranges.n in
    elim c.else-n-ge0.branch [
      | else-n-ge0-via-then-n-ge0+else-n-le-MOST_WHOLE w ↦ too_many (to_z w32 (of_z w32 c.args.n)) c.args.n e w.if-n-le-MOST_WHOLE.false
      | else-n-ge0-via-else-n-ge0 w ↦ below-zero (to_z w32 (of_z w32 c.args.n)) c.args.n e w.if-n-ge0.false
    ]
