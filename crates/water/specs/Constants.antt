-- Document 01, "Quantities": the unit and the range of each of a month's five constants. "Zero is a value, never missing." Assumes nothing.
use Rattle.std.specs.Prelude.{ℕ}

-- "Constants and K: ten-thousandths": one, in these
abbrev pub one : ℕ
one = 10000

-- "Alpha, beta, delta 0 to 10,000;
abbrev pub most_share : ℕ
most_share = 10000

-- gamma 0 to 50,000;
abbrev pub most_gamma : ℕ
most_gamma = 50000

-- K 0 to 100,000."
abbrev pub most_k : ℕ
most_k = 100000
