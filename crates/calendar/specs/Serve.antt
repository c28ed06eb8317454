-- A proof's vocabulary, which contracts cite: constants that serve are each in range, with no month's K 0. Assumes nothing.
use Rattle.std.specs.Prelude.{ℕ, ◌+◌, ◌/◌, Bool, not, ◌&&◌, List, ℤ, pos, nat_abs, eqb, get_or}
use Rattle.outline.specs.Numbers.{many_of_a_month}
use Rattle.ranges.specs.Ranges.{constants_fit_to}
use Rattle.ranges.specs.Five.{five_fit}
use Rattle.calendar.specs.Calendar.{zero_k_within}

-- those of the months before a place do
abbrev pub serve_to : List ℤ → ℕ → Bool
serve_to l i = constants_fit_to l i && not (zero_k_within l (i / many_of_a_month))

-- a month's five, from a place on, do
abbrev pub five_serve : List ℤ → ℕ → Bool
five_serve l i = five_fit l i && not (eqb (nat_abs (get_or l (i + 4) (pos 0))) 0)
