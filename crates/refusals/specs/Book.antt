-- All that is lent to a call on a run: the five columns of document 01, and document 02's "further lent columns" (E6), the months' records
-- and V. A record is a place of one lent list, and its figures are the columns of that table; a further figure of a month is a
-- field of the record (crates/records), and nothing here changes. Assumes nothing.
use Rattle.std.specs.Prelude.{ℕ, Bool, ◌&&◌, List, ℤ, pos, eqb, length, get_or}
use Rattle.outline.specs.Numbers.{length_fits}
use Rattle.spells.specs.declared.Running.{Running}
use Rattle.refusals.specs.Columns.{Columns, columns}

pub record Book : Type 0 where
  pub x1 : List ℤ
  pub x2 : List ℤ
  pub x3 : List ℤ
  pub index : List ℤ
  pub mark : List ℕ
  pub records : List (List ℤ)
  pub v : List ℤ

abbrev pub book : List ℤ → List ℤ → List ℤ → List ℤ → List ℕ → List (List ℤ) → List ℤ → Book
book x1 x2 x3 index mark records v = record { x1 = x1; x2 = x2; x3 = x3; index = index; mark = mark; records = records; v = v }

-- the five columns of it
abbrev pub columns_of : Book → Columns
columns_of b = columns b.x1 b.x2 b.x3 b.index b.mark

-- the five columns, with records and V beside them
abbrev pub book_of : Columns → List (List ℤ) → List ℤ → Book
book_of cs records v = book cs.x1 cs.x2 cs.x3 cs.index cs.mark records v

-- X1, X2, X3 and V that it holds of the month at place i
abbrev pub values_at : Book → ℕ → Running
values_at b i = record { x1 = get_or b.x1 i (pos 0); x2 = get_or b.x2 i (pos 0); x3 = get_or b.x3 i (pos 0); v = get_or b.v i (pos 0) }

-- the length of lent lists, where they have one
abbrev pub long : Book → ℕ
long b = length b.x1

-- not "the five columns .. not all of one length, or length 0" or above the limit; and E6, "1 covers the new columns"
unfoldable pub lengths_fit : ℕ → ℕ → ℕ → ℕ → ℕ → ℕ → ℕ → Bool
lengths_fit x1 x2 x3 index mark records v =
    eqb x2 x1 && eqb x3 x1 && eqb index x1 && eqb mark x1 && eqb records x1 && eqb v x1 && length_fits x1

abbrev pub columns_fit : Book → Bool
columns_fit b = lengths_fit (long b) (length b.x2) (length b.x3) (length b.index) (length b.mark) (length b.records) (length b.v)
