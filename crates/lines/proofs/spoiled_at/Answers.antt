-- `lines::spoiled_at`: what has been passed and the digits that still stand in front make the place. Assumes nothing.
use mathlib.Core.Path.{◌≡◌, refl, sym, ◌∙◌}
use Prim.Native.Nat.{◌≤◌}
use native.Mathlib.Omega.{arith}
use lib.ListN.{length, drop, drop_of_length-le}
use Rattle.lines.specs.Fault.{digits_in, spoiled_at}
use Rattle.lines.proofs.Faults.{after-sign, sign-and-body, one-digit, no_digit}
use Rattle.lines.proofs.spoiled_at.Goals as goal

pub loop-i-init : goal.loop-i-init
unfolding spoiled_at
loop-i-init c = rw (c.sign_length-i.ensures, after-sign c.args.line.now) refl

pub returns-then-not-is_digit : goal.returns-then-not-is_digit
returns-then-not-is_digit c =
    let e = no_digit c.args.line.now c.loop-i.i (omega arith) (sym c.is_digit.ensures ∙ c.if-not-is_digit.true) in
    omega (arith, e, c.loop-i.invariant)

pub loop-i-preserved : goal.loop-i-preserved
loop-i-preserved c =
    let e = one-digit c.args.line.now c.loop-i.i (omega arith) (sym c.is_digit.ensures ∙ c.if-not-is_digit.false) in
    omega (arith, e, c.loop-i.invariant)

pub returns : goal.returns
unfolding digits_in
returns c =
    let line = c.args.line.now in
    let i = c.loop-i.i in
    let h : i ≡ length line = omega (arith, sign-and-body line, c.sign_length-i.ensures, c.loop-i.auto.i-end) in
    let k : length line ≤ i = omega (arith, h) in
    let e : digits_in (drop i line) ≡ 0 = rw (drop_of_length-le line k) refl in
    omega (arith, e, h, c.loop-i.invariant)
