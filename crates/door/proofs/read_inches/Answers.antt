-- `door::read_inches` meets its contract: its two comparisons are `within`, `nearest_to` gives the number, and what is above zero and comes to none
-- is a trace. Assumes nothing.
use mathlib.Core.Path.{◌≡◌, sym, ap, ◌∙◌}
use mathlib.Core.Bool.{true}
use Prim.Native.Nat.{ℕ}
use lib.Ieee.{Float, binary32, le, of_bits}
use lib.Dec.{lit<, lit≤}
use Rattle.door.specs.Exact.{above_zero, nearest_to}
use Rattle.door.specs.Outcome.{Outcome, accepted}
use Rattle.door.specs.Readings.{fallen, inches}
use Rattle.door.proofs.Range.{hundred-is}
use Rattle.door.proofs.Answers.{is-trace, not-above, not-dry, taken_in, too_much, no_water, let-in}
use Rattle.door.proofs.read_inches.Goals as goal
use Rattle.door.proofs.read_inches.Goals.{else-x-via-then-x+else-x-2, else-x-via-else-x}

pub nearest_to-n-requires : goal.nearest_to-n-requires
nearest_to-n-requires c = (let-in 25 2 0x42c8_0000 (lit< tt) hundred-is 1000 1 c.args.x (lit≤ tt) c.if-x.true c.if-x-2.true, lit≤ tt, lit< tt, lit≤ tt)

-- in range, what is made of the number is the answer
told : (x : Float) (n : ℕ) → le (of_bits binary32 0) x ≡ true → le x (of_bits binary32 0x42c8_0000) ≡ true → n ≡ nearest_to 1000 1 x → (o : Outcome) → o ≡ fallen (above_zero x) n → o ≡ inches x
unfolding inches
told x n p q e o f = taken_in 25 2 0x42c8_0000 (lit< tt) hundred-is 1000 1 x o n p q e f

pub returns-then-n-ne0 : goal.returns-then-n-ne0
returns-then-n-ne0 c = told c.args.x c.nearest_to-n.result c.if-x.true c.if-x-2.true c.nearest_to-n.ensures _ (not-dry c.args.x c.nearest_to-n.result c.if-n-ne0.true)

pub returns-then-above_zero : goal.returns-then-above_zero
returns-then-above_zero c =
    told c.args.x c.nearest_to-n.result c.if-x.true c.if-x-2.true c.nearest_to-n.ensures _ (is-trace c.args.x c.nearest_to-n.result c.if-n-ne0.false (sym c.above_zero.ensures ∙ c.if-above_zero.true))

pub returns-then-x-2 : goal.returns-then-x-2
returns-then-x-2 c =
    told c.args.x c.nearest_to-n.result c.if-x.true c.if-x-2.true c.nearest_to-n.ensures _ (ap accepted (sym c.if-n-ne0.false) ∙ not-above c.args.x c.nearest_to-n.result (sym c.above_zero.ensures ∙ c.if-above_zero.false))

pub returns : goal.returns
unfolding inches
returns c =
    elim c.else-x.branch [
      | else-x-via-then-x+else-x-2 w ↦ too_much 25 2 0x42c8_0000 (lit< tt) hundred-is 1000 1 c.args.x w.if-x.true w.if-x-2.false
      | else-x-via-else-x w ↦ no_water 25 2 0x42c8_0000 (lit< tt) hundred-is 1000 1 c.args.x w.if-x.false
    ]
