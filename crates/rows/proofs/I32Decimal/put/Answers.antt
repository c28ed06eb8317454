-- An `i32` is put: a minus where it is below zero, and the digits of its size, at most ten. Assumes nothing.
use mathlib.Core.Path.{◌≡◌, sym, ap, ◌∙◌}
use mathlib.Core.Bool.{true, false}
use mathlib.Core.List.{[], ◌∷◌}
use Prim.Native.Nat.{ℕ}
use native.Mathlib.Omega.{arith}
use lib.IntN.{ℤ, pos, nat_abs}
use lib.Signed.{lt_z}
use lib.ListN.{length}
use mir.Syntax.{w32}
use mir.Val.{SFits, to_z, of_z}
use mir.Facts.{to_z-of_z}
use Rattle.text.specs.Bytes.{minus_sign}
use Rattle.rows.specs.Text.{numeral, integer}
use Rattle.rows.proofs.Laid.{put_then}
use Rattle.rows.proofs.Digits.{integer-below, integer-above, integer-length}
use Rattle.rows.proofs.I32Decimal.put.Goals as goal

-- its text, by its sign and its size as the machine reads them back
below : (x : ℤ) (n : ℕ) → SFits w32 x → lt_z (to_z w32 (of_z w32 x)) (pos 0) ≡ true → n ≡ nat_abs (to_z w32 (of_z w32 x)) → integer x ≡ minus_sign ∷ numeral n
below x n f e s =
    integer-below x (rw (to_z-of_z f) at e) ∙ ap (λ k. minus_sign ∷ numeral k) (sym (rw (to_z-of_z f) at s))

above : (x : ℤ) (n : ℕ) → SFits w32 x → lt_z (to_z w32 (of_z w32 x)) (pos 0) ≡ false → n ≡ nat_abs (to_z w32 (of_z w32 x)) → integer x ≡ numeral n
above x n f e s = integer-above x (rw (to_z-of_z f) at e) ∙ ap numeral (sym (rw (to_z-of_z f) at s))

pub put_natural-requires : goal.put_natural-requires
put_natural-requires c =
    let x = c.args.self in
    let i = below x c.unsigned_abs-size.result c.ranges.self c.if-self-lt0.true c.unsigned_abs-size.ensures.value in
    omega (arith, ap length i, integer-length x c.ranges.self)

pub returns-then-self-lt0 : goal.returns-then-self-lt0
returns-then-self-lt0 c =
    let x = c.args.self in
    let n = c.unsigned_abs-size.result in
    let i = below x n c.ranges.self c.if-self-lt0.true c.unsigned_abs-size.ensures.value in
    let e = c.put_byte-end.ensures in
    let f = c.put_natural.ensures in
    let p = put_then (minus_sign ∷ []) (numeral n) c.args.at c.args.out.now (omega arith) _ _ _ _ (e.value, e.out_after) (f.value, f.out_after) in
    record { value = rw i p.0; out_after = rw i p.1; upper_bound = omega (arith, p.0, ap length i, integer-length x c.ranges.self) }

pub put_natural-requires-2 : goal.put_natural-requires-2
put_natural-requires-2 c =
    let x = c.args.self in
    let i = above x c.unsigned_abs-size.result c.ranges.self c.if-self-lt0.false c.unsigned_abs-size.ensures.value in
    omega (arith, ap length i, integer-length x c.ranges.self)

pub returns : goal.returns
returns c =
    let x = c.args.self in
    let i = above x c.unsigned_abs-size.result c.ranges.self c.if-self-lt0.false c.unsigned_abs-size.ensures.value in
    let f = c.put_natural-2.ensures in
    record { value = rw i f.value; out_after = rw i f.out_after; upper_bound = omega (arith, f.value, ap length i, integer-length x c.ranges.self) }
