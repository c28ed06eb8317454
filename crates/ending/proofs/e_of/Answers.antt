-- `ending::e_of` meets its contract: each of its three steps has room, X3 turned being within 13,000,000. Assumes nothing.
use mathlib.Core.Path.{◌≡◌, ap, ◌∙◌}
use Prim.Native.Nat.{◌≤◌}
use native.Mathlib.Omega.{arith}
use lib.IntN.{ℤ, pos, nat_abs, ◌-ℤ◌, ◌*ℤ◌}
use mir.Syntax.{w64}
use mir.Val.{SFits}
use mir.Facts.{to_z-of_z}
use Rattle.outline.specs.Numbers.{weight, most_x}
use Rattle.exact.proofs.Z.{zs, is-Z}
use Rattle.ending.specs.Ending.{turn, e_of}
use Rattle.ending.proofs.Rooms.{rooms, turn-size}
use Rattle.ending.proofs.e_of.Goals as goal

fits : (a : ℤ) → nat_abs a ≤ most_x → SFits w64 (pos weight *ℤ a) × SFits w64 (pos 0 -ℤ pos weight *ℤ a) × SFits w64 (pos 0 -ℤ pos weight *ℤ a -ℤ pos 1500000)
fits a = rw (is-Z a) (simp zs (omega arith))

e-is : (a : ℤ) → pos 0 -ℤ pos weight *ℤ a -ℤ pos 1500000 ≡ e_of a
unfolding e_of
e-is a = rw (is-Z a) (simp zs (omega arith))

pub overflow_cast-x3 : goal.overflow_cast-x3
overflow_cast-x3 c = search rooms

pub turned-requires : goal.turned-requires
turned-requires c = search rooms

x3_is : (c : goal.After-turned) → c.turned.result ≡ turn c.args.wet c.args.x3
x3_is c = c.turned.ensures ∙ (search rooms)

small : (c : goal.After-turned) → nat_abs c.turned.result ≤ most_x
small c = rw (x3_is c) (turn-size c.args.wet c.args.x3 most_x c.requires)

pub overflow_mul-result : goal.overflow_mul-result
overflow_mul-result c =
    let f : SFits w64 c.turned.result = record { sfits = c.turned.type_inv } in
    simp to_z-of_z (fits c.turned.result (small c)).0

pub overflow_sub-result : goal.overflow_sub-result
overflow_sub-result c =
    let f : SFits w64 c.turned.result = record { sfits = c.turned.type_inv } in
    let g = fits c.turned.result (small c) in
    let g0 = g.0 in
    simp to_z-of_z g.1

pub overflow_sub-result-2 : goal.overflow_sub-result-2
overflow_sub-result-2 c =
    let f : SFits w64 c.turned.result = record { sfits = c.turned.type_inv } in
    let g = fits c.turned.result (small c) in
    let g0 = g.0 in
    let g1 = g.1 in
    simp to_z-of_z g.2

pub returns : goal.returns
returns c =
    let f : SFits w64 c.turned.result = record { sfits = c.turned.type_inv } in
    let g = fits c.turned.result (small c) in
    let g0 = g.0 in
    let g1 = g.1 in
    let g2 = g.2 in
    simp to_z-of_z (e-is c.turned.result ∙ ap e_of (x3_is c))
