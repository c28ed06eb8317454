-- `ending::v_of` meets its contract. Assumes nothing.
use mathlib.Core.Path.{◌≡◌, ap₂, ◌∙◌}
use Prim.Native.Nat.{◌*◌}
use native.Mathlib.Omega.{arith}
use lib.IntN.{◌+ℤ◌}
use mir.Syntax.{w64}
use mir.Val.{SFits}
use mir.Facts.{to_z-of_z}
use Rattle.exact.proofs.Z.{fits-within}
use Rattle.ending.specs.Ending.{turn, u_of, v_of}
use Rattle.ending.specs.Bounds.{most_v}
use Rattle.ending.proofs.Rooms.{rooms, v_size}
use Rattle.ending.proofs.v_of.Goals as goal

pub u_of-requires : goal.u_of-requires
u_of-requires c = search rooms

pub turned-requires : goal.turned-requires
turned-requires c = search rooms

u-is : (c : goal.After-u_of) → c.u_of.result ≡ u_of (turn c.args.wet c.args.z)
u-is c = c.u_of.ensures ∙ (search rooms)

v_is : (c : goal.After-turned) → c.turned.result ≡ turn c.args.wet c.args.v
v_is c = c.turned.ensures ∙ (search rooms)

fit : (c : goal.After-turned) → SFits w64 (c.u_of.result +ℤ c.turned.result)
unfolding v_of
fit c =
    rw (u-is c.before, v_is c)
    (fits-within w64 (v_of (turn c.args.wet c.args.v) (turn c.args.wet c.args.z)) (2 * most_v) (v_size c.args.wet c.args.v c.args.z c.requires.0 c.requires.1) (omega arith))

pub overflow_add-result : goal.overflow_add-result
overflow_add-result c =
    let f : SFits w64 c.u_of.result = record { sfits = c.u_of.type_inv } in
    let g : SFits w64 c.turned.result = record { sfits = c.turned.type_inv } in
    simp to_z-of_z (fit c)

pub returns : goal.returns
unfolding v_of
returns c =
    let f : SFits w64 c.u_of.result = record { sfits = c.u_of.type_inv } in
    let g : SFits w64 c.turned.result = record { sfits = c.turned.type_inv } in
    let h = fit c in
    simp to_z-of_z (ap₂ ◌+ℤ◌ (u-is c.before) (v_is c))
