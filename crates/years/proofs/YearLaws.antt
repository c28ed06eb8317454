-- The laws of the years: the first January is among the first twelve rows, and the first that is one; and the years lie inside the months. Assumes
-- nothing.
use mathlib.Core.Path.{◌≡◌}
use mathlib.Core.Bool.{true}
use Prim.Native.Nat.{ℕ, ◌+◌, ◌-◌, ◌*◌, ◌%◌, ◌≤◌, ◌<◌}
use native.Mathlib.Omega.{arith}
use Rattle.outline.specs.Numbers.{most_months, last_month}
use Rattle.ranges.specs.Ranges.{calendar_fits}
use Rattle.ranges.proofs.RangeLaws.{calendar-is}
use Rattle.years.specs.Years.{first_january, years_from}

-- ---- the first January, where row 0 is calendar month c
module _ (c : ℕ) (h : calendar_fits c ≡ true) where
  pub first-low : first_january c < last_month
  unfolding first_january
  first-low = omega arith

  pub january : (c - 1 + first_january c) % last_month ≡ 0
  unfolding first_january
  january = let k = calendar-is c h in omega arith

  -- and no row before it is one
  pub none_before : (i : ℕ) → i < first_january c → (c - 1 + i) % last_month ≡ 0 → ⊥
  unfolding first_january
  none_before i l e = let k = calendar-is c h in omega arith

-- ---- the years
module _ (start months : ℕ) where
  pub years-inside : start ≤ months → start + last_month * years_from start months ≤ months
  unfolding years_from
  years-inside h = omega arith

  pub years-none : months < start → years_from start months ≡ 0
  unfolding years_from
  years-none h = omega arith

  -- where there is one, there is a first January
  pub years-some : 1 ≤ years_from start months → start ≤ months
  unfolding years_from
  years-some h = omega arith

  pub years-most : months ≤ most_months → years_from start months ≤ 1000
  unfolding years_from
  years-most h = omega arith
