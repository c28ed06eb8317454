-- "A line is .. closed by a line feed or the end of input" (document 01, the program): an input cut into its lines, each without its line
-- feed. Assumes nothing.
use Rattle.std.specs.Prelude.{ℕ, cond, List, [], ◌∷◌, ◌++◌, eqb}
use Rattle.text.specs.Bytes.{line_feed}

-- what the end of input closes: a line, if any of it has come
unfoldable pub last_line : List ℕ → List (List ℕ)
last_line [] = []
last_line (b ∷ bs) = (b ∷ bs) ∷ []

-- the lines of what has come of a line and of what is still to come
unfoldable pub cut : List ℕ → List ℕ → List (List ℕ)
cut come [] = last_line come
cut come (b ∷ bs) = cond (eqb b line_feed) (come ∷ cut [] bs) (cut (come ++ b ∷ []) bs)

unfoldable pub lines_of : List ℕ → List (List ℕ)
lines_of input = cut [] input
