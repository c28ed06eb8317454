-- `division_input::take`: what is still to be fed takes what is held to where the whole piece takes it. Assumes nothing.
use Rattle.std.proofs.Common.{◌≡◌, sym, ◌∙◌, List, ℕ, ◌≤◌, arith, length, drop}
use mathlib.Core.List.{foldl}
use lib.ListN.{drop_of_length-le}
use Rattle.division_input.specs.Input.{State, state_of, byte_fed}
use Rattle.division_input.proofs.Part.{part-unbroken, end-within, line-fed}
use Rattle.division_input.proofs.take.Goals as goal

all-fed : (piece : List ℕ) (t : State) (i : ℕ) → length piece ≤ i → foldl byte_fed t (drop i piece) ≡ t
all-fed piece t i h = rw (drop_of_length-le piece h)

pub slice_bounds-take_line-end : goal.slice_bounds-take_line-end
slice_bounds-take_line-end c =
    omega (arith, end-within c.args.piece.now c.loop-start.start c.line_end-end.result (omega arith) c.line_end-end.ensures)

pub take_line-requires-clause-part_value : goal.take_line-requires-clause-part_value
take_line-requires-clause-part_value c = part-unbroken c.args.piece.now c.loop-start.start c.line_end-end.result (omega arith) c.line_end-end.ensures

pub loop-start-preserved : goal.loop-start-preserved
loop-start-preserved c =
    let v = c.loop-start.invariant in
    let n = line-fed c.args.piece.now c.loop-start.start c.line_end-end.result (omega arith) c.line_end-end.ensures (state_of c.loop-start.session c.loop-start.out) _ c.take_line.ensures v.1 in
    (n.0 ∙ v.0, n.1)

pub returns : goal.returns
returns c =
    record {
      out_after = sym (all-fed c.args.piece.now (state_of c.loop-start.session c.loop-start.out) c.loop-start.start c.loop-start-test.false) ∙ c.loop-start.invariant.0;
      held = c.loop-start.invariant.1;
    }
