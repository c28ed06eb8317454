-- `rows::put_natural`: the digits of the tenth, and then the last digit. Assumes nothing.
use Rattle.std.proofs.Common.{◌≡◌, ap, ◌∙◌, ℕ, ◌+◌, ◌/◌, ◌≤◌, length, length-append, arith}
use Rattle.rows.specs.Text.{numeral}
use Rattle.rows.proofs.Laid.{put_then}
use Rattle.rows.proofs.Digits.{numeral-one, numeral-ten}
use Rattle.rows.proofs.+put_natural.Goals as goal

shorter : (n : ℕ) → 10 ≤ n → length (numeral n) ≡ length (numeral (n / 10)) + 1
shorter n h = ap length (numeral-ten n h) ∙ length-append (numeral (n / 10)) _

pub put_byte-requires : goal.put_byte-requires
put_byte-requires t c = omega (arith, ap length (numeral-one c.args.n c.if-n-lt10.true))

pub returns-then-n-lt10 : goal.returns-then-n-lt10
returns-then-n-lt10 t c =
    let e = numeral-one c.args.n c.if-n-lt10.true in
    record { value = rw e c.put_byte.ensures.value; out_after = rw e c.put_byte.ensures.out_after }

pub put_natural-end-requires : goal.put_natural-end-requires
put_natural-end-requires t c = (omega arith, omega (arith, shorter c.args.n c.if-n-lt10.false))

pub put_byte-requires-2 : goal.put_byte-requires-2
put_byte-requires-2 t c = omega (arith, shorter c.args.n c.if-n-lt10.false)

pub returns : goal.returns
returns t c =
    let e = numeral-ten c.args.n c.if-n-lt10.false in
    let f = c.put_natural-end.ensures in
    let g = c.put_byte-2.ensures in
    let p = put_then (numeral (c.args.n / 10)) _ c.args.at c.args.out.now (omega arith) _ _ _ _ (f.value, f.out_after) (g.value, g.out_after) in
    record { value = rw e p.0; out_after = rw e p.1 }
