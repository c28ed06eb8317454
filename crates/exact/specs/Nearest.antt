-- Document 01, "Quantities": "Nearest" means the nearest whole number, halves away from zero.
-- The laws in proofs/Nearest.antt say that it is that: `near-only`, `nearest-near`, `nearest-half`.
-- Assumes nothing.
use Rattle.std.specs.Prelude.{ℕ, suc, ◌+◌, ◌*◌, ◌/◌, ℤ, pos, negsuc, neg_ℤ}

-- n / d to the nearest whole number, halves up: n / d + 1 / 2, that is (2 n + d) / (2 d), without what is left over. 0 where d is 0
unfoldable pub nearest_ℕ : ℕ → ℕ → ℕ
nearest_ℕ n d = (2 * n + d) / (2 * d)

-- the same of a signed n, halves away from zero: the size is rounded, and the sign put back
unfoldable pub nearest : ℤ → ℕ → ℤ
nearest (pos n) d = pos (nearest_ℕ n d)
nearest (negsuc n) d = neg_ℤ (pos (nearest_ℕ (suc n) d))

-- a signed divisor as a natural, 0 where it is below zero
abbrev pub clip : ℤ → ℕ
clip (pos n) = n
clip (negsuc n) = 0
