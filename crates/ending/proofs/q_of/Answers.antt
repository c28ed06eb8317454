-- `ending::q_of` meets its contract. Assumes nothing.
use mathlib.Core.Path.{◌≡◌, ap₂, ◌∙◌}
use Prim.Native.Nat.{◌≤◌}
use native.Mathlib.Omega.{arith}
use lib.IntN.{ℤ, pos, nat_abs, ◌+ℤ◌, ◌*ℤ◌}
use mir.Syntax.{w64}
use mir.Val.{SFits}
use mir.Facts.{to_z-of_z}
use Rattle.exact.proofs.Z.{zs, is-Z}
use Rattle.ending.specs.Ending.{turn, e_of, q_of}
use Rattle.ending.specs.Bounds.{most_v}
use Rattle.ending.proofs.Rooms.{rooms, turn-size, most_e, e-size}
use Rattle.ending.proofs.q_of.Goals as goal

fits : (e b : ℤ) → nat_abs e ≤ most_e → nat_abs b ≤ most_v → SFits w64 (pos 1000 *ℤ b) × SFits w64 (e +ℤ pos 1000 *ℤ b)
fits e b = rw (is-Z e, is-Z b) (simp zs (omega arith))

pub e_of-requires : goal.e_of-requires
e_of-requires c = search rooms

pub turned-requires : goal.turned-requires
turned-requires c = search rooms

e-is : (c : goal.After-e_of) → c.e_of.result ≡ e_of (turn c.args.wet c.args.x3)
e-is c = c.e_of.ensures ∙ (search rooms)

v_is : (c : goal.After-turned) → c.turned.result ≡ turn c.args.wet c.args.v
v_is c = c.turned.ensures ∙ (search rooms)

fit : (c : goal.After-turned) → SFits w64 (pos 1000 *ℤ c.turned.result) × SFits w64 (c.e_of.result +ℤ pos 1000 *ℤ c.turned.result)
fit c =
    rw (e-is c.before, v_is c)
    (fits (e_of (turn c.args.wet c.args.x3)) (turn c.args.wet c.args.v) (e-size c.args.wet c.args.x3 c.requires.0) (turn-size c.args.wet c.args.v most_v c.requires.1))

pub overflow_mul-result : goal.overflow_mul-result
overflow_mul-result c =
    let f : SFits w64 c.turned.result = record { sfits = c.turned.type_inv } in
    simp to_z-of_z (fit c).0

pub overflow_add-result : goal.overflow_add-result
overflow_add-result c =
    let f : SFits w64 c.turned.result = record { sfits = c.turned.type_inv } in
    let g : SFits w64 c.e_of.result = record { sfits = c.e_of.type_inv } in
    let h = (fit c).0 in
    simp to_z-of_z (fit c).1

sum : (c : goal.After-turned) → c.e_of.result +ℤ pos 1000 *ℤ c.turned.result ≡ q_of (turn c.args.wet c.args.x3) (turn c.args.wet c.args.v)
unfolding q_of
sum c = ap₂ (λ (e b : ℤ). e +ℤ pos 1000 *ℤ b) (e-is c.before) (v_is c)

pub returns : goal.returns
returns c =
    let f : SFits w64 c.turned.result = record { sfits = c.turned.type_inv } in
    let g : SFits w64 c.e_of.result = record { sfits = c.e_of.type_inv } in
    let h = (fit c).0 in
    let k : SFits w64 (c.e_of.result +ℤ pos 1000 *ℤ c.turned.result) = (fit c).1 in
    simp to_z-of_z (sum c)
