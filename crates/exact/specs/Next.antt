-- Document 01, "One month of spells": next(x) = nearest to (2691 x + 1000 Z) / 3000.
-- Assumes nothing.
use Rattle.std.specs.Prelude.{ℤ, pos, ◌+ℤ◌, ◌*ℤ◌}
use Rattle.outline.specs.Numbers.{weight, weight_of_z, next_divisor}
use Rattle.exact.specs.Nearest.{nearest}

-- next(x), in a month whose anomaly is z
unfoldable pub next_of : ℤ → ℤ → ℤ
next_of x z = nearest (pos weight *ℤ x +ℤ pos weight_of_z *ℤ z) next_divisor
