-- `kept_line::Kept::keep_part`: what stands in the layout's columns is kept, and then the rest. Assumes nothing.
use Rattle.std.proofs.Common.{arith, sym, ap, ◌∙◌, ◌+◌, drop, length}
use borrow.Author.Tests.{eqb-true, eqb-false}
use Rattle.kept_line.specs.declared.Kept.{Kept}
use Rattle.kept_line.specs.Kept.{part_kept}
use Rattle.kept_line.proofs.Parts.{part-on, part_end, joined, none-kept}
use Rattle.kept_line.proofs.Kept.keep_part.Goals as goal
use Rattle.kept_line.proofs.Kept.keep_part.Goals.{then-not-is_empty, else-not-is_empty}

pub keep_columns-requires : goal.keep_columns-requires
keep_columns-requires c =
    let n = eqb-false (length c.split_at.result.0.now) 0 (sym c.is_empty.ensures ∙ c.if-not-is_empty.true) in
    omega (arith, n, c.min.ensures, c.saturating_sub-left.ensures, c.split_at.ensures.front_len)

pub loop-b-init : goal.loop-b-init
loop-b-init c =
    let s = c.args.self.now in
    let p = c.split_at in
    elim c.if-not-is_empty.branch [
      | then-not-is_empty w ↦ joined s c.if-not-is_empty.self c.args.part.now p.result.0.now p.result.1.now c.min.result p.ensures.front p.ensures.back (w.self-is ∙ w.keep_columns.ensures)
      | else-not-is_empty w ↦ joined s c.if-not-is_empty.self c.args.part.now p.result.0.now p.result.1.now c.min.result p.ensures.front p.ensures.back
          (w.self-is ∙ none-kept s p.result.0.now (eqb-true (length p.result.0.now) 0 (sym c.is_empty.ensures ∙ w.if-not-is_empty.false)))
    ]

pub loop-b-preserved : goal.loop-b-preserved
loop-b-preserved c =
    ap (λ (k : Kept). part_kept k (drop (c.loop-b.b-index + 1) c.split_at.result.1.now)) c.keep_byte.ensures
    ∙ sym (part-on c.split_at.result.1.now c.loop-b.b-index (omega arith) c.loop-b.self) ∙ c.loop-b.invariant

pub returns : goal.returns
returns c = sym (part_end c.split_at.result.1.now c.loop-b.b-index (omega arith) c.loop-b.self) ∙ c.loop-b.invariant
