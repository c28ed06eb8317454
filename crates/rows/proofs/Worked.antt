-- Worked lines, computed from the definitions alone: two rows of document 01, a row that is open, a refusal, and a year with a missing month,
-- each as its bytes. Assumes nothing.
use mathlib.Core.Path.{◌≡◌, refl}
use mathlib.Core.List.{[], ◌∷◌}
use Prim.Native.Nat.{ℕ}
use lib.IntN.{ℤ, pos, negsuc}
use Rattle.rows.specs.Text.{digits_within, numeral, integer, letter, row_text, refused_text, month_text, months_text, year_text}
use Rattle.rows.specs.declared.Row.{Row}

abbrev row : ℕ → ℤ → ℤ → ℤ → ℕ → ℤ → ℕ → Row
row m a b c p i k = record { month = m; x1 = a; x2 = b; x3 = c; percent = p; index = i; mark = k }

-- "2 347 0 -550 99 347 S" and a line feed
pub outlined : row_text (row 2 (pos 347) (pos 0) (negsuc 549) 99 (pos 347) 2) ≡ (50 ∷ 32 ∷ 51 ∷ 52 ∷ 55 ∷ 32 ∷ 48 ∷ 32 ∷ 45 ∷ 53 ∷ 53 ∷ 48 ∷ 32 ∷ 57 ∷ 57 ∷ 32 ∷ 51 ∷ 52 ∷ 55 ∷ 32 ∷ 83 ∷ 10 ∷ [])
unfolding digits_within numeral integer letter row_text
outlined = refl

-- "1 0 0 -1000 0 -1000 S" and a line feed
pub first_month : row_text (row 1 (pos 0) (pos 0) (negsuc 999) 0 (negsuc 999) 2) ≡ (49 ∷ 32 ∷ 48 ∷ 32 ∷ 48 ∷ 32 ∷ 45 ∷ 49 ∷ 48 ∷ 48 ∷ 48 ∷ 32 ∷ 48 ∷ 32 ∷ 45 ∷ 49 ∷ 48 ∷ 48 ∷ 48 ∷ 32 ∷ 83 ∷ 10 ∷ [])
unfolding digits_within numeral integer letter row_text
first_month = refl

-- "12 0 0 0 100 -9 O" and a line feed
pub open-month : row_text (row 12 (pos 0) (pos 0) (pos 0) 100 (negsuc 8) 1) ≡ (49 ∷ 50 ∷ 32 ∷ 48 ∷ 32 ∷ 48 ∷ 32 ∷ 48 ∷ 32 ∷ 49 ∷ 48 ∷ 48 ∷ 32 ∷ 45 ∷ 57 ∷ 32 ∷ 79 ∷ 10 ∷ [])
unfolding digits_within numeral integer letter row_text
open-month = refl

-- "refused 2 13" and a line feed
pub refused-line : refused_text 2 13 ≡ (114 ∷ 101 ∷ 102 ∷ 117 ∷ 115 ∷ 101 ∷ 100 ∷ 32 ∷ 50 ∷ 32 ∷ 49 ∷ 51 ∷ 10 ∷ [])
unfolding digits_within numeral refused_text
refused-line = refl

-- "1895 1200 350 - 0 4110 10 20 30 40 50 60 70 11" and a line feed: March is missing, and in April no rain fell
pub march-missing : year_text 1895 (1200 ∷ 350 ∷ 0 ∷ 0 ∷ 4110 ∷ 10 ∷ 20 ∷ 30 ∷ 40 ∷ 50 ∷ 60 ∷ 70 ∷ []) 4091 11 ≡ (49 ∷ 56 ∷ 57 ∷ 53 ∷ 32 ∷ 49 ∷ 50 ∷ 48 ∷ 48 ∷ 32 ∷ 51 ∷ 53 ∷ 48 ∷ 32 ∷ 45 ∷ 32 ∷ 48 ∷ 32 ∷ 52 ∷ 49 ∷ 49 ∷ 48 ∷ 32 ∷ 49 ∷ 48 ∷ 32 ∷ 50 ∷ 48 ∷ 32 ∷ 51 ∷ 48 ∷ 32 ∷ 52 ∷ 48 ∷ 32 ∷ 53 ∷ 48 ∷ 32 ∷ 54 ∷ 48 ∷ 32 ∷ 55 ∷ 48 ∷ 32 ∷ 49 ∷ 49 ∷ 10 ∷ [])
unfolding digits_within numeral month_text months_text year_text
march-missing = refl
