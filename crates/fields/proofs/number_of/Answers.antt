-- `fields::number_of`: what is left makes, after what has come, the number that the whole makes, and at most four digits stay far below what a
-- `u32` holds. Assumes nothing.
use Rattle.std.proofs.Common.{◌≡◌, sym, ◌∙◌, refl, true, arith, add-one, get_or}
use Rattle.text.specs.Bytes.{is_digit, natural}
use Rattle.text.proofs.Digits.{digit-range}
use Rattle.fields.specs.Field.{digits_of}
use Rattle.fields.proofs.Parts.{digit-on, digit-off, number-on, digits-end, number-end}
use Rattle.fields.proofs.Naturals.{one_more}
use Rattle.fields.proofs.number_of.Goals as goal
use Rattle.fields.proofs.number_of.Goals.{Else-not-is_digit}

digit : (c : Else-not-is_digit) → is_digit (get_or c.args.part.now c.loop-b.b-index 0) ≡ true
digit c = sym c.is_digit.ensures ∙ c.if-not-is_digit.false

pub loop-b-init : goal.loop-b-init
unfolding natural
loop-b-init c = record { small = omega arith; digits = refl; makes = refl }

pub returns-then-not-is_digit : goal.returns-then-not-is_digit
unfolding digits_of
returns-then-not-is_digit c =
    rw (← c.loop-b.invariant.digits, digit-off c.args.part.now c.loop-b.b-index c.loop-b-test.true (sym c.is_digit.ensures ∙ c.if-not-is_digit.true))

pub overflow_sub-b : goal.overflow_sub-b
overflow_sub-b c = omega (arith, digit-range _ (digit (goal.at.overflow_sub-b c).Else-not-is_digit))

pub loop-b-preserved : goal.loop-b-preserved
loop-b-preserved c =
    let s = c.args.part.now in
    let i = c.loop-b.b-index in
    let h = c.loop-b-test.true in
    let d = digit (goal.at.loop-b-preserved c).Else-not-is_digit in record {
      small = rw (c.from.ensures, add-one i) (one_more c.loop-b.n i (get_or s i 0) c.loop-b.invariant.small d);
      digits = sym (digit-on s i h d) ∙ c.loop-b.invariant.digits;
      makes = rw c.from.ensures (sym (number-on s i h c.loop-b.n) ∙ c.loop-b.invariant.makes);
    }

pub returns : goal.returns
unfolding digits_of
returns c =
    let s = c.args.part.now in
    rw (← c.loop-b.invariant.digits, digits-end s c.loop-b.b-index c.loop-b-test.false, ← c.loop-b.invariant.makes, number-end s c.loop-b.b-index c.loop-b-test.false c.loop-b.n)
