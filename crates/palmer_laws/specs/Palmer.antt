-- Document 01: "A program reads one Z a line from standard input into a fresh run and prints, at the end, month number, X1, X2, X3, percent,
-- index, S or O. .. Its columns are 2,400 long. .. Empty input prints nothing .. The first refused line (10, 12, 13) ends it, and it prints only
-- one line: the word "refused", the line number counted from 1 and the refusal number". Here is that: the bytes that the program prints for an
-- input, by the lines that the input is cut into (`lines_of`, crates/text), each heard as a whole (`heard`, crates/palmer_input). Assumes nothing.
use Rattle.std.specs.Prelude.{ℕ, suc, List, [], ◌∷◌, pos, replicate}
use Rattle.outline.specs.Refusals.{unless_refused}
use Rattle.text.specs.Lines.{lines_of}
use Rattle.rows.specs.Text.{refused_text}
use Rattle.records.specs.Record.{no_record, numbers_of}
use Rattle.refusals.specs.Book.{Book, book}
use Rattle.palmer_input.specs.ByLines.{State, state, fresh, heard}
use Rattle.palmer_output.specs.Printed.{most_lines, rows_text}

-- "Its columns are 2,400 long", and so are the records, V, and the list of the percents: zeros, before the first line
abbrev pub blank : Book
blank =
    book (replicate most_lines (pos 0)) (replicate most_lines (pos 0)) (replicate most_lines (pos 0)) (replicate most_lines (pos 0)) (replicate most_lines 0) (replicate most_lines (numbers_of no_record)) (replicate most_lines (pos 0))

abbrev pub start : State
start = state fresh blank (replicate most_lines 0)

-- the rows of all months of the run, in order
abbrev pub rows_of : State → List ℕ
rows_of t = rows_text t.session.run t.session.run.months t.columns t.percents

-- where n lines have been heard, which left t, and these are still to come: at the first that is refused only its number, counted from 1, and
-- the refusal's; with none the rows
unfoldable pub printed_from : ℕ → State → List (List ℕ) → List ℕ
printed_from n t [] = rows_of t
printed_from n t (line ∷ rest) =
    unless_refused (heard t line).session.refused (printed_from (suc n) (heard t line) rest) (refused_text (suc n) (heard t line).session.refused)

-- a whole input
unfoldable pub palmer_of : List ℕ → List ℕ
palmer_of input = printed_from 0 start (lines_of input)
