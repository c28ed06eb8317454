-- Neither 1 nor 7, as facts: what holds of a run and its columns where `run_refusal` is 0. Assumes nothing.
use Rattle.std.specs.Prelude.{◌≡◌, true}
use Rattle.runs.specs.declared.Run.{Run}
use Rattle.refusals.specs.Book.{Book, columns_fit}
use Rattle.refusals.specs.Refusals.{is_run_of}

-- columns that fit, and a run that is theirs
pub record Good (r : Run) (cs : Book) : Type 0 where
  pub fit : columns_fit cs ≡ true
  pub run : is_run_of cs r ≡ true
