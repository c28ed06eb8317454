-- "state, division, element and year in the first ten columns" (document 02, E1), as they are written: digits, with zeros in front. Assumes
-- nothing.
use Rattle.std.specs.Prelude.{ℕ, ◌/◌, List, [], ◌∷◌, ◌++◌}
use Rattle.fields.specs.Written.{last_digit}

abbrev pub two_digits : ℕ → List ℕ
two_digits n = last_digit (n / 10) ∷ last_digit n ∷ []

abbrev pub four_digits : ℕ → List ℕ
four_digits n = last_digit (n / 1000) ∷ last_digit (n / 100) ∷ last_digit (n / 10) ∷ last_digit n ∷ []

unfoldable pub heading_text : ℕ → ℕ → ℕ → ℕ → List ℕ
heading_text s d e y = two_digits s ++ two_digits d ++ two_digits e ++ four_digits y
