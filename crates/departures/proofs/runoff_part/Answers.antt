-- `departures::runoff_part` meets its contract: gamma and beta are low, and so is their difference, of either sign. Assumes nothing.
use mathlib.Core.Path.{◌≡◌, ap₂, ◌∙◌}
use Prim.Native.Nat.{ℕ, ◌≤◌}
use native.Mathlib.Nat.{lt_of_le_of_lt}
use lib.Dec.{lit<}
use lib.IntN.{pos, ◌-ℤ◌, ◌*ℤ◌}
use mir.Syntax.{w64}
use mir.Val.{SFits, to_z, of_z}
use mir.Facts.{to_z-of_z, to_z_pos}
use Rattle.exact.proofs.Z.{fits-within}
use Rattle.water.specs.Layers.{most_capacity}
use Rattle.water.specs.Bounds.{ConstantsFit}
use Rattle.water.specs.declared.Constants.{Constants}
use Rattle.departures.proofs.DepartureLaws.{slope-most, part-most}
use Rattle.departures.proofs.runoff_part.Goals as goal

-- gamma - beta, as the machine reads it
slope-is : (k : Constants) → ConstantsFit k → to_z w64 k.gamma -ℤ to_z w64 k.beta ≡ pos k.gamma -ℤ pos k.beta
slope-is k f = ap₂ ◌-ℤ◌ (to_z_pos w64 (lt_of_le_of_lt f.gamma (lit< tt))) (to_z_pos w64 (lt_of_le_of_lt f.beta (lit< tt)))

slope-fits : (k : Constants) → ConstantsFit k → SFits w64 (to_z w64 k.gamma -ℤ to_z w64 k.beta)
slope-fits k f = rw (slope-is k f) (fits-within w64 _ 50000 (slope-most k f) (lit< tt))

-- and what it makes of PRO
part-is : (k : Constants) (pro : ℕ) → ConstantsFit k → pro ≤ most_capacity
    → to_z w64 (of_z w64 (to_z w64 k.gamma -ℤ to_z w64 k.beta)) *ℤ to_z w64 pro ≡ (pos k.gamma -ℤ pos k.beta) *ℤ pos pro
part-is k pro f h = ap₂ ◌*ℤ◌ (to_z-of_z (slope-fits k f) ∙ slope-is k f) (to_z_pos w64 (lt_of_le_of_lt h (lit< tt)))

part-fits : (k : Constants) (pro : ℕ) → ConstantsFit k → pro ≤ most_capacity → SFits w64 (to_z w64 (of_z w64 (to_z w64 k.gamma -ℤ to_z w64 k.beta)) *ℤ to_z w64 pro)
part-fits k pro f h = rw (part-is k pro f h) (fits-within w64 _ 1500000000 (part-most k pro f h) (lit< tt))

pub overflow_sub-result : goal.overflow_sub-result
overflow_sub-result c = slope-fits c.args.k c.requires.constants_fit

pub overflow_mul-result : goal.overflow_mul-result
overflow_mul-result c = part-fits c.args.k c.args.pro c.requires.constants_fit c.requires.pro_le_most_capacity

pub returns : goal.returns
returns c =
    let f = c.requires.constants_fit in
    let h = c.requires.pro_le_most_capacity in
    to_z-of_z (part-fits c.args.k c.args.pro f h) ∙ part-is c.args.k c.args.pro f h
