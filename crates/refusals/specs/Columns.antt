-- Document 01: "Five lent columns hold X1, X2, X3, index and mark (1 open, 2 settled)." They settle: hindsight reads and writes these five and
-- nothing else. What a call is lent beside them stands in Book.antt. Assumes nothing.
use Rattle.std.specs.Prelude.{ℕ, List, ℤ, length}

pub record Columns : Type 0 where
  pub x1 : List ℤ
  pub x2 : List ℤ
  pub x3 : List ℤ
  pub index : List ℤ
  pub mark : List ℕ

abbrev pub columns : List ℤ → List ℤ → List ℤ → List ℤ → List ℕ → Columns
columns x1 x2 x3 index mark = record { x1 = x1; x2 = x2; x3 = x3; index = index; mark = mark }

-- the length of lent lists, where they have one
abbrev pub long : Columns → ℕ
long cs = length cs.x1
