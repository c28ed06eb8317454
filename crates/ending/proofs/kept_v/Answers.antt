-- `ending::kept_v` meets its contract. Assumes nothing.
use mathlib.Core.Path.{◌≡◌, ap, ◌∙◌}
use mir.Syntax.{w64}
use mir.Val.{SFits}
use mir.Facts.{to_z-of_z}
use Rattle.ending.specs.Ending.{turn, v_of}
use Rattle.ending.proofs.Rooms.{rooms, v_size}
use Rattle.ending.proofs.kept_v.Goals as goal

pub v_of-requires : goal.v_of-requires
v_of-requires c = search rooms

v_is : (c : goal.After-v_of) → c.v_of.result ≡ v_of (turn c.args.wet c.args.v) (turn c.args.wet c.args.z)
v_is c = c.v_of.ensures ∙ (search rooms)

pub turned-requires : goal.turned-requires
turned-requires c =
    let f : SFits w64 c.v_of.result = record { sfits = c.v_of.type_inv } in
    simp to_z-of_z (rw (v_is c) (v_size c.args.wet c.args.v c.args.z c.requires.0 c.requires.1))

pub returns : goal.returns
returns c =
    let f : SFits w64 c.v_of.result = record { sfits = c.v_of.type_inv } in
    let g : SFits w64 c.turned.result = record { sfits = c.turned.type_inv } in
    simp to_z-of_z ((simp to_z-of_z at c.turned.ensures) ∙ ap (turn c.args.wet) (v_is c.before))
