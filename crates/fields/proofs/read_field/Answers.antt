-- `fields::read_field`: its tests are those of the definition, in their order, and the parts that it looks at are the definition's. Assumes
-- nothing.
use Rattle.std.proofs.Common.{◌≡◌, sym, ap, ◌∙◌, true, List, ℕ, ◌≤◌, ◌<◌, arith, length, take, drop, Some}
use Rattle.std.proofs.Math.ListN.{length-take}
use Rattle.text.specs.Bytes.{body}
use Rattle.fields.specs.Field.{unpadded, plain, ahead, units, decimals, digits_of}
use Rattle.fields.proofs.Naturals.{made-digits, natural-small}
use Rattle.fields.proofs.Fields.{units-short, no-point, not_plain, not-units, not-decimals, number}
use Rattle.fields.proofs.read_field.Goals as goal
use Rattle.fields.proofs.read_field.Goals.{Else-not-is_plain, In_ok-whole, In_ok-part}

-- ---- what each call was about
ahead-is : (f a : List ℕ) → a ≡ unpadded (take 4 f) → a ≡ ahead f
unfolding ahead
ahead-is f a h = h

units-is : (f a u : List ℕ) → a ≡ unpadded (take 4 f) → u ≡ body a → u ≡ units f
unfolding units
units-is f a u h e = e ∙ ap body (ahead-is f a h)

plainly : (e : Else-not-is_plain) → plain (units e.args.field.now) ≡ true
plainly e =
    ap plain (sym (units-is e.args.field.now _ _ e.without_padding-ahead.ensures e.without_minus-units.ensures)) ∙ sym e.is_plain.ensures ∙ e.if-not-is_plain.false

units-made : (k : In_ok-whole) → digits_of (units k.args.field.now) ≡ Some k.in_ok-whole.whole
units-made k =
    ap digits_of (sym (units-is k.args.field.now _ _ k.without_padding-ahead.ensures k.without_minus-units.ensures)) ∙ sym k.number_of.ensures ∙ k.in_ok-whole.was

-- ---- numbers of few digits are small
made-small : (s : List ℕ) {n : ℕ} → length s ≤ 4 → digits_of s ≡ Some n → n < 10000
made-small s h e = let m = made-digits s _ e in omega (arith, natural-small s h m.0, m.1)

whole-small : (k : In_ok-whole) → k.in_ok-whole.whole < 10000
whole-small k = made-small (units k.args.field.now) (units-short k.args.field.now) (units-made k)

decimals-short : (f : List ℕ) → length (decimals f) ≤ 4
decimals-short f = omega (arith, length-take 2 (drop 5 f))

decimals-made : (k : In_ok-part) → digits_of (decimals k.args.field.now) ≡ Some k.in_ok-part.part
decimals-made k = sym k.number_of-2.ensures ∙ k.in_ok-part.was

part_small : (k : In_ok-part) → k.in_ok-part.part < 10000
part_small k = made-small (decimals k.args.field.now) (decimals-short k.args.field.now) (decimals-made k)

pub returns-then-field-ne46 : goal.returns-then-field-ne46
returns-then-field-ne46 c = sym (no-point _ c.if-field-ne46.true)

pub returns-then-not-is_plain : goal.returns-then-not-is_plain
returns-then-not-is_plain c =
    let f = c.args.field.now in
    let u = units-is f _ _ c.without_padding-ahead.ensures c.without_minus-units.ensures in
    sym (not_plain f c.if-field-ne46.false (ap plain (sym u) ∙ sym c.is_plain.ensures ∙ c.if-not-is_plain.true))

pub number_of-requires : goal.number_of-requires
number_of-requires c =
    let f = c.args.field.now in
    rw (units-is f _ _ c.without_padding-ahead.ensures c.without_minus-units.ensures) (units-short f)

pub returns-in_err-whole : goal.returns-in_err-whole
returns-in_err-whole c =
    let f = c.args.field.now in
    let u = units-is f _ _ c.without_padding-ahead.ensures c.without_minus-units.ensures in
    let e = (goal.at.returns-in_err-whole c).Else-not-is_plain in
    c.from_residual.ensures ∙ sym (not-units f c.if-field-ne46.false (plainly e) (ap digits_of (sym u) ∙ sym c.number_of.ensures ∙ c.in_err-whole.was))

pub returns-in_err-part : goal.returns-in_err-part
returns-in_err-part c =
    let a = goal.at.returns-in_err-part c in
    c.from_residual-in_err-part.ensures ∙ sym (not-decimals _ c.if-field-ne46.false (plainly a.Else-not-is_plain) _ (units-made a.In_ok-whole) (sym c.number_of-2.ensures ∙ c.in_err-part.was))

pub overflow_mul-result : goal.overflow_mul-result
overflow_mul-result c = omega (arith, whole-small (goal.at.overflow_mul-result c).In_ok-whole)

pub overflow_add-result : goal.overflow_add-result
overflow_add-result c = omega (arith, whole-small (goal.at.overflow_add-result c).In_ok-whole, part_small (goal.at.overflow_add-result c).In_ok-part)

pub returns : goal.returns
returns c =
    let f = c.args.field.now in
    let a = goal.at.returns c in
    rw (c.has_minus.ensures, ahead-is f _ c.without_padding-ahead.ensures)
    (sym (number f c.if-field-ne46.false (plainly a.Else-not-is_plain) _ (units-made a.In_ok-whole) _ (decimals-made a.In_ok-part)))
