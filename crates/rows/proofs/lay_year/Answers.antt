-- `rows::lay_year`: each piece is laid where the one before it ends, so the whole row is. Assumes nothing.
use Rattle.std.proofs.Common.{[], ◌∷◌, arith}
use Rattle.text.specs.Bytes.{space, line_feed}
use Rattle.rows.specs.Text.{numeral, months_text, year_text}
use Rattle.rows.proofs.Laid.{Reached, reach-then}
use Rattle.rows.proofs.lay_year.Goals as goal

pub returns : goal.returns
unfolding year_text
returns c =
    let y = c.put-year_end in
    let m = c.put_months-months_end in
    let n = c.put_spaced-count_end in
    let b = c.put_byte in
    let year : Reached (numeral c.args.year) 10 c.args.at c.args.out.now y.result y.new.out = record { put = (y.ensures.value, y.ensures.out_after); within = y.ensures.upper_bound; kept = y.auto.out } in
    let months = reach-then (months_text c.args.amounts.now c.args.present) 132 (omega arith) year (m.ensures.value, m.ensures.out_after) (omega (arith, m.ensures.upper_bound)) m.auto.out in
    let count = reach-then (space ∷ numeral c.args.count) 11 (omega arith) months (n.ensures.value, n.ensures.out_after) (omega (arith, n.ensures.upper_bound)) n.auto.out in
    let e = reach-then (line_feed ∷ []) 1 (omega arith) count (b.ensures.value, b.ensures.out_after) (omega (arith, b.ensures.value)) b.auto.out in
    record { value = e.put.0; upper_bound = e.within; out_after = e.put.1 }
