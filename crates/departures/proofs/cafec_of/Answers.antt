-- `departures::cafec_of` meets its contract: N is far below what can be rounded. Assumes nothing.
use mathlib.Core.Path.{◌∙◌}
use native.Mathlib.Omega.{arith}
use lib.IntN.{nat_abs}
use Prim.Native.Nat.{◌≤◌}
use mir.Syntax.{w64}
use mir.Val.{SFits}
use mir.Facts.{to_z-of_z}
use Rattle.exact.specs.Bounds.{most_rounded}
use Rattle.water.specs.Expected.{cafec_of}
use Rattle.departures.proofs.cafec_of.Goals as goal

pub nearest_signed-requires : goal.nearest_signed-requires
nearest_signed-requires c = let k : nat_abs c.args.n ≤ most_rounded = omega (arith, c.requires) in let f = c.ranges.n in simp to_z-of_z k

pub returns : goal.returns
unfolding cafec_of
returns c =
    let f = c.ranges.n in
    let g : SFits w64 c.nearest_signed.result = record { sfits = c.nearest_signed.type_inv } in
    to_z-of_z g ∙ (simp to_z-of_z at c.nearest_signed.ensures)
