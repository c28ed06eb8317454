-- A proof's vocabulary, here since contracts cite it; no promise leans on it. Of a line the bytes of the layout's columns are kept, and after
-- them the first that is no space: that is enough to tell what the whole line says (`Kept-same`, of the crate `division_laws`). Assumes nothing.
use Rattle.std.specs.Prelude.{ℕ, ◌+◌, Bool, cond, not, ◌&&◌, ◌||◌, ltb, eqb, set}
use mathlib.Core.List.{List, [], ◌∷◌, foldl}
use Rattle.text.specs.Bytes.{line_feed, space}
use Rattle.fields.specs.Columns.{last_column}
use Rattle.kept_line.specs.declared.Kept.{Kept}

-- ---- what a piece of the input has of one line: the bytes before its first line feed
unfoldable pub until_feed : List ℕ → List ℕ
until_feed [] = []
until_feed (b ∷ bs) = cond (eqb b line_feed) [] (b ∷ until_feed bs)

-- ---- the bytes that a line is told by
abbrev pub most_kept : ℕ
most_kept = last_column + 1

-- ---- one byte of a line, of which so many are kept
unfoldable pub is_kept : ℕ → ℕ → Bool
is_kept kept b = ltb kept last_column || (eqb kept last_column && not (eqb b space))

unfoldable pub kept_count : ℕ → ℕ → ℕ
kept_count kept b = cond (is_kept kept b) (kept + 1) kept

unfoldable pub kept_line : ℕ → ℕ → List ℕ → List ℕ
kept_line kept b line = cond (is_kept kept b) (set line kept b) line

-- ---- a part of a line, byte by byte: how many bytes are kept, and where
abbrev pub kept_of : ℕ → List ℕ → Kept
kept_of count line = record { count = count; line = line }

abbrev pub byte_into : Kept → ℕ → Kept
byte_into k b = kept_of (kept_count k.count b) (kept_line k.count b k.line)

unfoldable pub part_kept : Kept → List ℕ → Kept
part_kept k part = foldl byte_into k part
