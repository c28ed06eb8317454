-- A proof's vocabulary, which contracts cite: bytes laid into a list, and the most that a row can have. Assumes nothing.
use Rattle.std.specs.Prelude.{ℕ, ◌+◌, List, ◌++◌, length, take, drop}

-- a list in which the bytes from a place on are these, and all others as they were
abbrev pub laid : List ℕ → ℕ → List ℕ → List ℕ
laid text at out = take at out ++ text ++ drop (at + length text) out

-- the bytes that a row can have: ten digits of a u32, and a sign with ten digits of an i32, so 10 + 12 + 12 + 12 + 11 + 12 + 3
abbrev pub most_row : ℕ
most_row = 72

-- the bytes that a year's row can have: 10 + 12 * 11 + 11 + 1
abbrev pub most_year : ℕ
most_year = 154
