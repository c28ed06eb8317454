-- `rows::lay_refusal`: each piece is laid where the one before it ends, so the whole line is. Assumes nothing.
use Rattle.std.proofs.Common.{[], ◌∷◌, arith}
use Rattle.text.specs.Bytes.{space, line_feed}
use Rattle.rows.specs.Text.{numeral, refused_word, refused_text}
use Rattle.rows.proofs.Laid.{Reached, reach-then}
use Rattle.rows.proofs.lay_refusal.Goals as goal

pub returns : goal.returns
unfolding refused_text
returns c =
    let w = c.put_text-word_end in
    let n = c.put_spaced-line_end in
    let k = c.put_spaced-number_end in
    let b = c.put_byte in
    let word : Reached refused_word 7 c.args.at c.args.out.now w.result w.new.out = record { put = (w.ensures.value, w.ensures.out_after); within = omega (arith, w.ensures.value); kept = w.auto.out } in
    let upto = reach-then (space ∷ numeral c.args.line) 11 (omega arith) word (n.ensures.value, n.ensures.out_after) (omega (arith, n.ensures.upper_bound)) n.auto.out in
    let told = reach-then (space ∷ numeral c.args.number) 11 (omega arith) upto (rw c.from.ensures at k.ensures.value, rw c.from.ensures at k.ensures.out_after) (omega (arith, k.ensures.upper_bound)) k.auto.out in
    let e = reach-then (line_feed ∷ []) 1 (omega arith) told (b.ensures.value, b.ensures.out_after) (omega (arith, b.ensures.value)) b.auto.out in
    record { value = e.put.0; upper_bound = omega (arith, e.within); out_after = e.put.1 }
