-- Document 01: the numbers that more than one rule uses, each once and under its own sentence. Assumes nothing.
use Rattle.std.specs.Prelude.{ℕ, Bool, ◌&&◌, ℤ, nat_abs, leb}

-- ---- "Quantities"

-- the longest that lent lists may be: "A run holds 0 to 2,400 months", and document 02, E9: "Raise the limit of lent lists to 12,000 months."
abbrev pub most_months : ℕ
most_months = 12000

-- a length that lent lists may have: not "length 0" and not "above 12,000"
unfoldable pub length_fits : ℕ → Bool
length_fits n = leb 1 n && leb n most_months

-- "Sixty constants, January first, each month in the order alpha, beta, gamma, delta, K."
abbrev pub many_constants : ℕ
many_constants = 60

abbrev pub many_of_a_month : ℕ
many_of_a_month = 5

-- "calendar month not 1 to 12": not so
abbrev pub last_month : ℕ
last_month = 12

-- "Z given directly: -4,000,000 to 4,000,000."
abbrev pub most_z : ℕ
most_z = 4000000

unfoldable pub z_fits : ℤ → Bool
z_fits z = leb (nat_abs z) most_z

-- "any X beyond 13,000,000 in size" is no run's
abbrev pub most_x : ℕ
most_x = 13000000

-- "V beyond 4,000,150 x months in size": what one month can add to V, |Z| + 150
abbrev pub most_u : ℕ
most_u = 4000150

-- ---- "One month of spells"

-- "next(x) = nearest to (2691 x + 1000 Z) / 3000"; U, E and Q have the same two weights
abbrev pub weight : ℕ
weight = 2691

abbrev pub weight_of_z : ℕ
weight_of_z = 1000

abbrev pub next_divisor : ℕ
next_divisor = 3000

-- "A drought is in force if last month's X3 is below -500, a wet spell if above 500."
abbrev pub in_force_beyond : ℕ
in_force_beyond = 500

-- "X1 at least 1,000", "X2 at most -1,000"
abbrev pub founds_from : ℕ
founds_from = 1000

-- "U = Z + 150"
abbrev pub u_offset : ℕ
u_offset = 150

-- "E = -2691 X3 - 1,500,000"
abbrev pub e_offset : ℕ
e_offset = 1500000
