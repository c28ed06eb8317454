-- Document 01, the table of refusals: 0 is done; and document 02's that its calls give. And the two ways in which a refusal is used: the
-- first of several is the call's, and it stands in for what the call would have done. Assumes nothing.
use Rattle.std.specs.Prelude.{ℕ, zero, suc}

-- 1: the five columns and, E6, the lists beside them, or the three lists of a whole series, not all of one length, or length 0 or, E9, "above 12,000"
abbrev pub bad_lists : ℕ
bad_lists = 1

-- 2: constants not sixty numbers
abbrev pub not_sixty : ℕ
not_sixty = 2

-- 3: a constant outside its range
abbrev pub bad_constant : ℕ
bad_constant = 3

-- 4: capacity outside its range
abbrev pub bad_capacity : ℕ
bad_capacity = 4

-- 5: a start storage negative or above its layer
abbrev pub bad_storage : ℕ
bad_storage = 5

-- 6: start month not 1 to 12
abbrev pub bad_month : ℕ
bad_month = 6

-- 7: not a run
abbrev pub not_a_run : ℕ
not_a_run = 7

-- 8: reading missing
abbrev pub missing : ℕ
missing = 8

-- 9: reading not acceptable
abbrev pub not_acceptable : ℕ
not_acceptable = 9

-- 10: months already equal the column length
abbrev pub full : ℕ
full = 10

-- 11: row number not below the months added
abbrev pub no_such_row : ℕ
no_such_row = 11

-- 12: Z outside its range
abbrev pub bad_z : ℕ
bad_z = 12

-- 13: program only: a line is not a whole number
abbrev pub not_a_number : ℕ
not_a_number = 13

-- 17: document 02, E8, "no water in that month"
abbrev pub waterless : ℕ
waterless = 17

-- 18: document 02, E10, "fewer than ten such years or one with a Z-only month"
abbrev pub few_years : ℕ
few_years = 18

-- 19: E10, "gamma out of range"
abbrev pub bad_gamma : ℕ
bad_gamma = 19

-- 20: E10, "the sum of D K' is 0 or a K out of range"
abbrev pub bad_k : ℕ
bad_k = 20

-- 21: document 02, E11, "zero K, at a start right after 3"
abbrev pub zero_k : ℕ
zero_k = 21

-- the first refusal of two
abbrev pub or_else : ℕ → ℕ → ℕ
or_else zero n = n
or_else (suc k) n = suc k

-- 0, or else the refusal: what is done where the number is 0, and otherwise what is refused
abbrev pub unless_refused : {A : Type 0} → ℕ → A → A → A
unless_refused zero done refused = done
unless_refused (suc k) done refused = refused
