-- Where a line that is refused with 13 is at fault, to tell a person: a whole number is "an optional minus and one or more digits", so the
-- fault is the first byte after the sign and the digits that follow it. Assumes nothing.
use Rattle.std.specs.Prelude.{ℕ, ◌+◌, cond, List, [], ◌∷◌}
use Rattle.text.specs.Bytes.{is_digit, negative, body}

unfoldable pub sign_length : List ℕ → ℕ
sign_length line = cond (negative line) 1 0

-- how many digits stand in front
unfoldable pub digits_in : List ℕ → ℕ
digits_in [] = 0
digits_in (b ∷ bs) = cond (is_digit b) (1 + digits_in bs) 0

-- the place, counted from 0, of the first byte that no whole number has there; the line's length where there is none
unfoldable pub spoiled_at : List ℕ → ℕ
spoiled_at line = sign_length line + digits_in (body line)
