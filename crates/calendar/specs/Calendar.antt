-- Document 01, "Quantities": what a month's work takes from the calendar; and document 02, E11: a calendar month that counts for nothing.
-- Assumes nothing.
use Rattle.std.specs.Prelude.{ℕ, zero, suc, ◌+◌, ◌-◌, ◌*◌, ◌%◌, ◌≡◌, Bool, true, false, ◌||◌, List, ℤ, pos, nat_abs, eqb, get_or}
use Rattle.outline.specs.Numbers.{many_of_a_month, last_month}
use Rattle.water.specs.declared.Constants.{Constants}
use Rattle.ranges.specs.Ranges.{calendar_fits}

-- a calendar month's five
abbrev pub place_of : ℕ → ℕ
place_of month = many_of_a_month * (month - 1)

unfoldable pub constants_at : List ℤ → ℕ → Constants
constants_at l month =
    record {
      alpha = nat_abs (get_or l (place_of month) (pos 0));
      beta = nat_abs (get_or l (place_of month + 1) (pos 0));
      gamma = nat_abs (get_or l (place_of month + 2) (pos 0));
      delta = nat_abs (get_or l (place_of month + 3) (pos 0));
      k = nat_abs (get_or l (place_of month + 4) (pos 0));
    }

-- "A month that counts for nothing": its Z is 0 whatever falls, since its K is 0. Here of one of the first so many calendar months
unfoldable pub zero_k_within : List ℤ → ℕ → Bool
zero_k_within l zero = false
zero_k_within l (suc m) = zero_k_within l m || eqb (constants_at l (suc m)).k 0

-- and of one of the twelve: what 21 refuses at a start, and 7 in a run
abbrev pub some_zero_k : List ℤ → Bool
some_zero_k l = zero_k_within l last_month

-- the same as a fact: the calendar month, and that its K is 0
pub record ZeroK (l : List ℤ) : Type 0 where
  pub month : ℕ
  pub one_of_twelve : calendar_fits month ≡ true
  pub nothing : (constants_at l month).k ≡ 0

-- the calendar moves on
unfoldable pub next_calendar : ℕ → ℕ
next_calendar m = m % last_month + 1
