-- Document 01, "Quantities": the ranges of the sixty constants and of the calendar, as tests. Assumes nothing.
use Rattle.std.specs.Prelude.{ℕ, zero, suc, ◌%◌, Bool, true, ◌&&◌, List, ℤ, pos, leb, get_or}
use Rattle.std.specs.Int.Signed.{le_z}
use Rattle.outline.specs.Numbers.{many_constants, many_of_a_month, last_month}
use Rattle.water.specs.Constants.{most_share, most_gamma, most_k}

-- the most of a month's five constants in turn
unfoldable pub limit_of : ℕ → ℕ
limit_of zero = most_share
limit_of (suc zero) = most_share
limit_of (suc (suc zero)) = most_gamma
limit_of (suc (suc (suc zero))) = most_share
limit_of (suc (suc (suc (suc n)))) = most_k

-- the constant at place i is in its range
unfoldable pub constant_fits : List ℤ → ℕ → Bool
constant_fits l i = le_z (pos 0) (get_or l i (pos 0)) && le_z (get_or l i (pos 0)) (pos (limit_of (i % many_of_a_month)))

-- so are all below place k
unfoldable pub constants_fit_to : List ℤ → ℕ → Bool
constants_fit_to l zero = true
constants_fit_to l (suc k) = constants_fit_to l k && constant_fits l k

abbrev pub constants_fit : List ℤ → Bool
constants_fit l = constants_fit_to l many_constants

-- "calendar month not 1 to 12": not so
unfoldable pub calendar_fits : ℕ → Bool
calendar_fits m = leb 1 m && leb m last_month
