-- Text as the list of its bytes: the bytes that have a name here, digits, and the number that digits make. Assumes nothing.
use Rattle.std.specs.Prelude.{ℕ, ◌+◌, ◌*◌, ◌-◌, Bool, true, false, cond, ◌&&◌, leb, eqb}
use mathlib.Core.List.{List, [], ◌∷◌, foldl}

-- the bytes of the line feed, ' ', '-', '.', '0' and '9'
abbrev pub line_feed : ℕ
line_feed = 10

abbrev pub space : ℕ
space = 32

abbrev pub minus_sign : ℕ
minus_sign = 45

abbrev pub point : ℕ
point = 46

abbrev pub digit_zero : ℕ
digit_zero = 48

abbrev pub digit_nine : ℕ
digit_nine = 57

unfoldable pub is_digit : ℕ → Bool
is_digit b = leb digit_zero b && leb b digit_nine

unfoldable pub all_digits : List ℕ → Bool
all_digits [] = true
all_digits (b ∷ bs) = is_digit b && all_digits bs

unfoldable pub all_spaces : List ℕ → Bool
all_spaces [] = true
all_spaces (b ∷ bs) = eqb b space && all_spaces bs

-- ---- an optional minus: whether it is there, and what is left without it
unfoldable pub negative : List ℕ → Bool
negative [] = false
negative (b ∷ bs) = eqb b minus_sign

unfoldable pub body : List ℕ → List ℕ
body [] = []
body (b ∷ bs) = cond (eqb b minus_sign) bs (b ∷ bs)

-- ---- the number that digits make
-- one digit more, to the right of those that make n
abbrev pub and_digit : ℕ → ℕ → ℕ
and_digit n b = 10 * n + (b - digit_zero)

-- of any size
unfoldable pub natural : List ℕ → ℕ
natural bs = foldl and_digit 0 bs
