-- `ending::chance` meets its contract. Assumes nothing.
use mathlib.Core.Path.{◌≡◌, ap₂, ◌∙◌}
use mir.Syntax.{w64}
use mir.Val.{SFits}
use mir.Facts.{to_z-of_z}
use Rattle.ending.specs.Ending.{turn, v_of, q_of, percent_of}
use Rattle.ending.proofs.Rooms.{rooms, v_size}
use Rattle.ending.proofs.chance.Goals as goal

pub v_of-requires : goal.v_of-requires
v_of-requires c = search rooms

pub q_of-requires : goal.q_of-requires
q_of-requires c = search rooms

v_is : (c : goal.After-v_of) → c.v_of.result ≡ v_of (turn c.args.wet c.args.v) (turn c.args.wet c.args.z)
v_is c = c.v_of.ensures ∙ (search rooms)

q-is : (c : goal.After-q_of) → c.q_of.result ≡ q_of (turn c.args.wet c.args.x3) (turn c.args.wet c.args.v)
q-is c = c.q_of.ensures ∙ (search rooms)

pub percent_of-requires : goal.percent_of-requires
percent_of-requires c =
    let f : SFits w64 c.v_of.result = record { sfits = c.v_of.type_inv } in
    simp to_z-of_z (rw (v_is c.before) (v_size c.args.wet c.args.v c.args.z c.requires.1 c.requires.2))

pub returns : goal.returns
returns c =
    let f : SFits w64 c.v_of.result = record { sfits = c.v_of.type_inv } in
    let g : SFits w64 c.q_of.result = record { sfits = c.q_of.type_inv } in
    (simp to_z-of_z at c.percent_of.ensures) ∙ ap₂ percent_of (v_is c.before.before) (q-is c.before)
