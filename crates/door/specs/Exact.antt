-- The exact value of a binary32 number, and the whole number nearest to a multiple of it, over whole numbers alone.
-- A finite number `fin s m e` is the fraction m times the power of two 2 ^ e, negative where s is true. 2 ^ e is up e / down e, of which
-- one is 1 (`lib.Ieee`), so the number's size is (m * up e) / (down e). Assumes nothing.
use Rattle.std.specs.Prelude.{ℕ, ◌*◌, Bool, false, not, ◌&&◌, ◌||◌, leb, eqb, Float}
use Rattle.std.specs.Float.{nan, inf, fin}
use Rattle.std.specs.Float.Ieee.{up, down}
use Rattle.exact.specs.Nearest.{nearest_ℕ}

-- Whether x is a number from 0 to `most`, both included. "Negative zero is 0. NaN, infinities, negatives and anything above the range are
-- refused."
unfoldable pub within : ℕ → Float → Bool
within most nan = false
within most (inf s) = false
within most (fin s m e) = (not s || eqb m 0) && leb (m * up e) (most * down e)

-- Whether x is above zero. No zero is, of either sign, and no NaN.
unfoldable pub above_zero : Float → Bool
above_zero nan = false
above_zero (inf s) = not s
above_zero (fin s m e) = not s && not (eqb m 0)

-- The whole number nearest to the size of x times per / of, for an `of` above 0.
unfoldable pub nearest_to : ℕ → ℕ → Float → ℕ
nearest_to per of nan = 0
nearest_to per of (inf s) = 0
nearest_to per of (fin s m e) = nearest_ℕ (m * up e * per) (down e * of)
