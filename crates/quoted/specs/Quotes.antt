-- What it means that the start of a line is kept: its first forty bytes, and whether it has more. The lines of an input are those of
-- `lines_of`. Assumes nothing.
use Rattle.std.specs.Prelude.{ℕ, ◌+◌, ◌≡◌, cond, List, [], ◌∷◌, length, take, ltb, eqb}
use Rattle.text.specs.Bytes.{line_feed}
use Rattle.quoted.specs.declared.Start.{Start}

-- how many bytes of a line are kept
abbrev pub room : ℕ
room = 40

pub record Quotes (s : Start) (line : List ℕ) : Type 0 where
  pub text : take s.kept s.bytes ≡ take room line
  pub more : s.more ≡ ltb room (length line)

-- how many lines end within some bytes
unfoldable pub feeds : List ℕ → ℕ
feeds [] = 0
feeds (b ∷ bs) = cond (eqb b line_feed) (1 + feeds bs) (feeds bs)
