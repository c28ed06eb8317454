-- `modified::lacking` meets its contract. Assumes nothing.
use mathlib.Core.Path.{◌≡◌, ap₂, ◌∙◌}
use Prim.Native.Nat.{◌≤◌}
use native.Mathlib.Omega.{arith}
use lib.IntN.{ℤ, pos, nat_abs, ◌-ℤ◌, ◌*ℤ◌}
use mir.Syntax.{w64}
use mir.Val.{SFits}
use mir.Facts.{to_z-of_z}
use Rattle.outline.specs.Numbers.{most_u}
use Rattle.exact.proofs.Z.{zs, is-Z}
use Rattle.ending.specs.Ending.{turn, u_of, e_of}
use Rattle.ending.proofs.Rooms.{rooms, most_e, u-size, e-size}
use Rattle.modified.proofs.lacking.Goals as goal

fits : (e u : ℤ) → nat_abs e ≤ most_e → nat_abs u ≤ most_u → SFits w64 (pos 1000 *ℤ u) × SFits w64 (e -ℤ pos 1000 *ℤ u)
fits e u = rw (is-Z e, is-Z u) (simp zs (omega arith))

pub e_of-requires : goal.e_of-requires
e_of-requires c = search rooms

pub u_of-requires : goal.u_of-requires
u_of-requires c = search rooms

e-is : (c : goal.After-e_of) → c.e_of.result ≡ e_of (turn c.args.wet c.args.x3)
e-is c = c.e_of.ensures ∙ (search rooms)

u-is : (c : goal.After-u_of) → c.u_of.result ≡ u_of (turn c.args.wet c.args.z)
u-is c = c.u_of.ensures ∙ (search rooms)

fit : (c : goal.After-u_of) → SFits w64 (pos 1000 *ℤ c.u_of.result) × SFits w64 (c.e_of.result -ℤ pos 1000 *ℤ c.u_of.result)
fit c =
    rw (e-is c.before, u-is c)
    (fits (e_of (turn c.args.wet c.args.x3)) (u_of (turn c.args.wet c.args.z)) (e-size c.args.wet c.args.x3 c.requires.0) (u-size c.args.wet c.args.z c.requires.1))

pub overflow_mul-result : goal.overflow_mul-result
overflow_mul-result c =
    let f : SFits w64 c.u_of.result = record { sfits = c.u_of.type_inv } in
    simp to_z-of_z (fit c).0

pub overflow_sub-result : goal.overflow_sub-result
overflow_sub-result c =
    let f : SFits w64 c.u_of.result = record { sfits = c.u_of.type_inv } in
    let g : SFits w64 c.e_of.result = record { sfits = c.e_of.type_inv } in
    let h = (fit c).0 in
    simp to_z-of_z (fit c).1

pub returns : goal.returns
returns c =
    let f : SFits w64 c.u_of.result = record { sfits = c.u_of.type_inv } in
    let g : SFits w64 c.e_of.result = record { sfits = c.e_of.type_inv } in
    let h = (fit c).0 in
    let k = (fit c).1 in
    simp to_z-of_z (ap₂ (λ (e u : ℤ). e -ℤ pos 1000 *ℤ u) (e-is c.before) (u-is c))
