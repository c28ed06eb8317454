-- A proof's vocabulary, which `requires` cite. Assumes nothing.
use Rattle.std.specs.Prelude.{ℕ}

-- the room of a number that is to be divided and rounded: 2^62 - 1, to which half of any divisor is added within an `i64`
abbrev pub most_rounded : ℕ
most_rounded = 4611686018427387903
