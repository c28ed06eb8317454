-- A proof's vocabulary, which a `requires` cites. Assumes nothing.
use Rattle.std.specs.Prelude.{ℕ, ◌<◌, List, ℤ, pos, get_or}
use Rattle.spells.specs.ValuesFit.{SidesFit}

-- X1 and X2 of the first m rows are in range
abbrev pub Sided : List ℤ → List ℤ → ℕ → Type 0
Sided x1 x2 m = (i : ℕ) → i < m → SidesFit (get_or x1 i (pos 0)) (get_or x2 i (pos 0))
