-- The arguments of the program `division`. Assumes nothing.
use Rattle.std.specs.Prelude.{ℕ, cond, ◌&&◌, List, Option, None, leb, length}
use Rattle.fields.specs.Field.{digits_of}

-- a state or a division as a person writes it, "1" or "01"
unfoldable pub named_of : List ℕ → Option ℕ
named_of bs = cond (leb 1 (length bs) && leb (length bs) 2) (digits_of bs) None
