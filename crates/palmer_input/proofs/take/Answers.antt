-- `palmer_input::take`: what is still to be fed takes what is held to where all bytes take what was held at entry. Each of the two ways through a
-- pass feeds one byte (`went`). Assumes nothing.
use mathlib.Core.Path.{◌≡◌, refl, sym, ◌∙◌}
use lib.ListN.{drop, get_or}
use Rattle.text.proofs.Folds.{fold_more}
use Rattle.refusals.specs.Book.{book}
use Rattle.palmer_input.specs.ByLines.{state}
use Rattle.palmer_input.specs.Input.{byte_fed}
use Rattle.palmer_input.proofs.Steps.{none-refused, some-refused, byte-closes, byte-within, state-same}
use Rattle.palmer_input.proofs.ByLines.{bytes-stay}
use Rattle.palmer_input.proofs.take.Goals as goal
use Rattle.palmer_input.proofs.take.Goals.{then-b-eq10, else-b-eq10}

pub returns-then-is_some : goal.returns-then-is_some
returns-then-is_some c =
    let l = c.loop-b in
    let t = state l.s (book l.x1 l.x2 l.x3 l.index l.mark l.records l.v) l.percent in
    let k = some-refused l.s.refused (sym c.is_some.ensures ∙ c.if-is_some.true) in
    sym (bytes-stay t k (drop l.b-index c.args.bytes.now)) ∙ l.invariant

pub loop-b-preserved : goal.loop-b-preserved
loop-b-preserved c =
    let l = c.loop-b in
    let n = c.if-b-eq10 in
    let t = state l.s (book l.x1 l.x2 l.x3 l.index l.mark l.records l.v) l.percent in
    let u = state n.s (book n.x1 n.x2 n.x3 n.index n.mark n.records n.v) n.percent in
    let b = get_or c.args.bytes.now l.b-index 0 in
    let k = none-refused l.s.refused (sym c.is_some.ensures ∙ c.if-is_some.false) in
    let went : u ≡ byte_fed t b = elim n.branch [
      | then-b-eq10 w ↦ state-same w.s-is w.x1-is w.x2-is w.x3-is w.index-is w.mark-is w.records-is w.v-is w.percent-is ∙ w.close_line.ensures ∙ sym (byte-closes t b k w.if-b-eq10.true)
      | else-b-eq10 w ↦ state-same w.s-is w.x1-is w.x2-is w.x3-is w.index-is w.mark-is w.records-is w.v-is w.percent-is ∙ (rw w.feed-s.ensures refl) ∙ sym (byte-within t b k w.if-b-eq10.false)
    ] in
    rw went (fold_more byte_fed c.args.bytes.now t _ l.b-index c.loop-b-test.true l.invariant)
