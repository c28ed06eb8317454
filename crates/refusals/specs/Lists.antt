-- The lists that are lent to a call on a run, as the code hands them on: in one value, for writing or for reading. What they hold is a book. Assumes nothing.
use Rattle.std.specs.Prelude.{◌≡◌}
use Rattle.refusals.specs.Book.{Book, book}
use Rattle.refusals.specs.declared.Lists.{Lists}
use Rattle.refusals.specs.declared.Rows.{Rows}

-- what lists that are lent for writing hold
abbrev pub held : Lists → Book
held l = book l.x1.now l.x2.now l.x3.now l.index.now l.mark.now l.records.now l.v.now

-- what lists that are lent for reading hold
abbrev pub read : Rows → Book
read l = book l.x1.now l.x2.now l.x3.now l.index.now l.mark.now l.records.now l.v.now

-- the very lists that were lent, whatever they hold
pub record SameLists (old new : Lists) : Type 0 where
  pub x1 : new.x1.ghost_name ≡ old.x1.ghost_name
  pub x2 : new.x2.ghost_name ≡ old.x2.ghost_name
  pub x3 : new.x3.ghost_name ≡ old.x3.ghost_name
  pub index : new.index.ghost_name ≡ old.index.ghost_name
  pub mark : new.mark.ghost_name ≡ old.mark.ghost_name
  pub records : new.records.ghost_name ≡ old.records.ghost_name
  pub v : new.v.ghost_name ≡ old.v.ghost_name
