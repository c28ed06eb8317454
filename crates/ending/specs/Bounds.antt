-- A proof's vocabulary, which `requires` cite. Assumes nothing.
use Rattle.std.specs.Prelude.{ℕ}

-- V's room in the arithmetic: a million months of it, far more than a run holds
abbrev pub most_v : ℕ
most_v = 4000150000000
