-- `ending::is_steady` meets its contract. Assumes nothing.
use mathlib.Core.Path.{◌≡◌, ap, ◌∙◌}
use lib.IntN.{ℤ, pos}
use lib.Signed.{le_z}
use mir.Syntax.{w64}
use mir.Val.{SFits}
use mir.Facts.{to_z-of_z}
use Rattle.ending.specs.Ending.{turn, v_of}
use Rattle.ending.proofs.Rooms.{rooms}
use Rattle.ending.proofs.is_steady.Goals as goal

pub v_of-requires : goal.v_of-requires
v_of-requires c = search rooms

v_is : (c : goal.After-v_of) → c.v_of.result ≡ v_of (turn c.args.wet c.args.v) (turn c.args.wet c.args.z)
v_is c = c.v_of.ensures ∙ (search rooms)

pub returns : goal.returns
returns c =
    let f : SFits w64 c.v_of.result = record { sfits = c.v_of.type_inv } in
    ap (λ (n : ℤ). le_z n (pos 0)) (to_z-of_z f ∙ v_is c)
