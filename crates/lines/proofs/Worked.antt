-- Worked lines, computed from the definition alone: what is a whole number and what is not, and both ends of the range of Z. A line is
-- written as its bytes. Assumes nothing.
use mathlib.Core.Path.{◌≡◌, refl}
use mathlib.Core.List.{List, [], ◌∷◌}
use Prim.Native.Nat.{ℕ}
use lib.IntN.{pos, negsuc}
use Rattle.outline.specs.Numbers.{z_fits}
use Rattle.text.specs.Bytes.{is_digit, all_digits, negative, body, natural}
use Rattle.lines.specs.Line.{Judged, accepted, refused, one_or_more, well_formed, signed, value, ranged, judged}

-- a list of lines, each judged
abbrev each : List (List ℕ) → List Judged
each [] = []
each (l ∷ ls) = judged l ∷ each ls

-- "", "-", "5" and a carriage return, " 5", "+5", "--5", "5-", a byte above 127
pub not-numbers : each ([] ∷ (45 ∷ []) ∷ (53 ∷ 13 ∷ []) ∷ (32 ∷ 53 ∷ []) ∷ (43 ∷ 53 ∷ []) ∷ (45 ∷ 45 ∷ 53 ∷ []) ∷ (53 ∷ 45 ∷ []) ∷ (200 ∷ []) ∷ []) ≡ (refused 13 ∷ refused 13 ∷ refused 13 ∷ refused 13 ∷ refused 13 ∷ refused 13 ∷ refused 13 ∷ refused 13 ∷ [])
unfolding is_digit negative body one_or_more all_digits well_formed natural signed value z_fits ranged judged
not-numbers = refl

-- "-0", "000", "-3000", "1040"
pub numbers : each ((45 ∷ 48 ∷ []) ∷ (48 ∷ 48 ∷ 48 ∷ []) ∷ (45 ∷ 51 ∷ 48 ∷ 48 ∷ 48 ∷ []) ∷ (49 ∷ 48 ∷ 52 ∷ 48 ∷ []) ∷ []) ≡ (accepted (pos 0) ∷ accepted (pos 0) ∷ accepted (negsuc 2999) ∷ accepted (pos 1040) ∷ [])
unfolding is_digit negative body one_or_more all_digits well_formed natural signed value z_fits ranged judged
numbers = refl

-- "-4000000", "0004000000", "-4000001", "4000001"
pub ends : each ((45 ∷ 52 ∷ 48 ∷ 48 ∷ 48 ∷ 48 ∷ 48 ∷ 48 ∷ []) ∷ (48 ∷ 48 ∷ 48 ∷ 52 ∷ 48 ∷ 48 ∷ 48 ∷ 48 ∷ 48 ∷ 48 ∷ []) ∷ (45 ∷ 52 ∷ 48 ∷ 48 ∷ 48 ∷ 48 ∷ 48 ∷ 49 ∷ []) ∷ (52 ∷ 48 ∷ 48 ∷ 48 ∷ 48 ∷ 48 ∷ 49 ∷ []) ∷ []) ≡ (accepted (negsuc 3999999) ∷ accepted (pos 4000000) ∷ refused 12 ∷ refused 12 ∷ [])
unfolding is_digit negative body one_or_more all_digits well_formed natural signed value z_fits ranged judged
ends = refl
