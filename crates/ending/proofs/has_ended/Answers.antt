-- `ending::has_ended` meets its contract. Assumes nothing.
use mathlib.Core.Path.{◌≡◌, ap₂, ◌∙◌}
use Prim.Native.Nat.{◌*◌}
use native.Mathlib.Omega.{arith}
use lib.IntN.{ℤ, pos, ◌*ℤ◌}
use lib.Signed.{le_z}
use mir.Syntax.{w64}
use mir.Val.{SFits}
use mir.Facts.{to_z-of_z}
use Rattle.outline.specs.Numbers.{most_u}
use Rattle.exact.proofs.Z.{fits-within, within-mul}
use Rattle.ending.specs.Ending.{turn, u_of, e_of}
use Rattle.ending.proofs.Rooms.{rooms, u-size}
use Rattle.ending.proofs.has_ended.Goals as goal

pub u_of-requires : goal.u_of-requires
u_of-requires c = search rooms

u-is : (c : goal.After-u_of) → c.u_of.result ≡ u_of (turn c.args.wet c.args.z)
u-is c = c.u_of.ensures ∙ (search rooms)

fit : (c : goal.After-u_of) → SFits w64 (pos 1000 *ℤ c.u_of.result)
fit c =
    rw (u-is c)
    (fits-within w64 (pos 1000 *ℤ u_of (turn c.args.wet c.args.z)) (1000 * most_u) (within-mul (pos 1000) (u_of (turn c.args.wet c.args.z)) 1000 most_u (omega arith) (u-size c.args.wet c.args.z c.requires.1)) (omega arith))

pub overflow_mul-result : goal.overflow_mul-result
overflow_mul-result c =
    let f : SFits w64 c.u_of.result = record { sfits = c.u_of.type_inv } in
    simp to_z-of_z (fit c)

pub e_of-requires : goal.e_of-requires
e_of-requires c = search rooms

e-is : (c : goal.After-e_of) → c.e_of.result ≡ e_of (turn c.args.wet c.args.x3)
e-is c = c.e_of.ensures ∙ (search rooms)

pub returns : goal.returns
returns c =
    let f : SFits w64 c.u_of.result = record { sfits = c.u_of.type_inv } in
    let g : SFits w64 c.e_of.result = record { sfits = c.e_of.type_inv } in
    let h = fit c.before in
    simp to_z-of_z (ap₂ (λ (e u : ℤ). le_z e (pos 1000 *ℤ u)) (e-is c) (u-is c.before))
