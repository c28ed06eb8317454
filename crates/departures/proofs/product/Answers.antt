-- `departures::product` meets its contract: both are low, and so is the product. Assumes nothing.
use mathlib.Core.Path.{◌≡◌, ap₂, ◌∙◌}
use Prim.Native.Nat.{ℕ, ◌*◌, ◌≤◌}
use native.Mathlib.Nat.{lt_of_le_of_lt, mul-le-mul}
use lib.Dec.{lit<}
use lib.IntN.{pos, ◌*ℤ◌}
use mir.Syntax.{w64}
use mir.Val.{SFits, to_z}
use mir.Facts.{to_z-of_z, to_z_pos}
use Rattle.exact.proofs.Z.{fits-within}
use Rattle.door.specs.Readings.{most_reading}
use Rattle.water.specs.Constants.{most_k}
use Rattle.departures.proofs.product.Goals as goal

-- the product, as the machine reads it
value : (a b : ℕ) → a ≤ most_k → b ≤ most_reading → to_z w64 a *ℤ to_z w64 b ≡ pos (a * b)
value a b h k = ap₂ ◌*ℤ◌ (to_z_pos w64 (lt_of_le_of_lt h (lit< tt))) (to_z_pos w64 (lt_of_le_of_lt k (lit< tt)))

fits : (a b : ℕ) → a ≤ most_k → b ≤ most_reading → SFits w64 (to_z w64 a *ℤ to_z w64 b)
fits a b h k = rw (value a b h k) (fits-within w64 (pos (a * b)) (most_k * most_reading) (mul-le-mul h k) (lit< tt))

pub overflow_mul-result : goal.overflow_mul-result
overflow_mul-result c = fits c.args.a c.args.b c.requires.0 c.requires.1

pub returns : goal.returns
returns c = to_z-of_z (fits c.args.a c.args.b c.requires.0 c.requires.1) ∙ value c.args.a c.args.b c.requires.0 c.requires.1
