-- A proof's vocabulary, which a contract cites: what Sending.antt says, by the length of what is lent, 0 where it cannot be. Assumes nothing.
use Rattle.std.specs.Prelude.{ℕ, ◌+◌, cond, ◌&&◌, List, ◌++◌, leb, length, drop}
use Rattle.outline.specs.Refusals.{or_else, unless_refused}
use Rattle.fields.specs.Columns.{last_column}
use Rattle.fields.specs.Refusals.{unfit, no_room}
use Rattle.runs.specs.declared.Run.{Run}
use Rattle.refusals.specs.Book.{Book}
use Rattle.refusals.specs.Lent.{run_refusal_for}
use Rattle.figures.specs.Figures.{number_of}
use Rattle.figures.specs.declared.Element.{Element}
use Rattle.sending.specs.Sending.{line_text, year_of, heading_fits, all_fit, Written, written}

-- a line written or refused, by the number of 1 and 7
unfoldable pub written_by : ℕ → Run → Element → ℕ → ℕ → ℕ → ℕ → Book → List ℕ → Written
written_by k r e s d y which cs line =
    let n = or_else k (or_else (cond (heading_fits s d (y + which) && all_fit (year_of r e which cs)) 0 unfit) (cond (leb last_column (length line)) 0 no_room)) in
    unless_refused n (written 0 (line_text s d (number_of e) (y + which) (year_of r e which cs) ++ drop last_column line)) (written n line)

unfoldable pub write_line_for : ℕ → Run → Element → ℕ → ℕ → ℕ → ℕ → Book → List ℕ → Written
write_line_for n r e s d y which cs line = written_by (run_refusal_for n r cs.records) r e s d y which cs line
