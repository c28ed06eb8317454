-- `ending::u_of` meets its contract. Assumes nothing.
use mathlib.Core.Path.{◌≡◌, ap, ◌∙◌}
use native.Mathlib.Omega.{arith}
use lib.IntN.{ℤ, pos, ◌+ℤ◌}
use mir.Syntax.{w64}
use mir.Val.{SFits}
use mir.Facts.{to_z-of_z}
use Rattle.outline.specs.Numbers.{most_u}
use Rattle.exact.proofs.Z.{fits-within}
use Rattle.ending.specs.Ending.{turn, u_of}
use Rattle.ending.proofs.Rooms.{rooms, u-size}
use Rattle.ending.proofs.u_of.Goals as goal

pub overflow_cast-z : goal.overflow_cast-z
overflow_cast-z c = search rooms

pub turned-requires : goal.turned-requires
turned-requires c = search rooms

z-is : (c : goal.After-turned) → c.turned.result ≡ turn c.args.wet c.args.z
z-is c = c.turned.ensures ∙ (search rooms)

fit : (c : goal.After-turned) → SFits w64 (c.turned.result +ℤ pos 150)
unfolding u_of
fit c =
    rw (z-is c) (fits-within w64 (u_of (turn c.args.wet c.args.z)) most_u (u-size c.args.wet c.args.z c.requires) (omega arith))

pub overflow_add-result : goal.overflow_add-result
overflow_add-result c =
    let f : SFits w64 c.turned.result = record { sfits = c.turned.type_inv } in
    simp to_z-of_z (fit c)

pub returns : goal.returns
unfolding u_of
returns c =
    let f : SFits w64 c.turned.result = record { sfits = c.turned.type_inv } in
    let g = fit c in
    simp to_z-of_z (ap (λ (n : ℤ). n +ℤ pos 150) (z-is c))
