-- A table of worked months: each row has what the rules give and what the outline says, and the table's one claim is that every row agrees.
-- Assumes nothing.
use Rattle.std.specs.Prelude.{ℕ, Bool, true, ◌&&◌, List, [], ◌∷◌, ℤ, pos, neg_ℤ}
use Rattle.std.specs.Int.Signed.{le_z}

pub record Row : Type 0 where
  pub given : ℤ
  pub said : ℤ

infix 4 ◌gives◌
abbrev pub ◌gives◌ : ℤ → ℤ → Row
given gives said = record { given = given; said = said }

-- a number below 0, as the outline writes it
abbrev pub minus : ℕ → ℤ
minus n = neg_ℤ (pos n)

abbrev pub agree : List Row → Bool
agree [] = true
agree (r ∷ rows) = le_z r.given r.said && le_z r.said r.given && agree rows
