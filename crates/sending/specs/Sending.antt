-- Document 02, E14, "Sending the record out": "State, division, the year of row 0 and which of the run's years (from 0) are given; a line is 94
-- characters. .. A value that doesn't fit its seven characters, or that would itself print as the missing mark, refuses the line." What a month sends
-- is Sent, of the crate `sent_months`. Assumes nothing.
use Rattle.std.specs.Prelude.{ℕ, ◌+◌, Bool, true, cond, ◌&&◌, List, [], ◌∷◌, ◌++◌, leb, length, drop}
use Rattle.outline.specs.Refusals.{or_else, unless_refused}
use Rattle.fields.specs.Columns.{last_column}
use Rattle.fields.specs.Refusals.{unfit, no_room}
use Rattle.layout_heading.specs.Written.{heading_text}
use Rattle.runs.specs.declared.Run.{Run}
use Rattle.refusals.specs.Book.{Book}
use Rattle.refusals.specs.Refusals.{run_refusal}
use Rattle.years.specs.Years.{calendar_first}
use Rattle.figures.specs.Figures.{number_of, figures_text, figure_fits}
use Rattle.figures.specs.declared.Element.{Element}
use Rattle.figures.specs.declared.Figure.{Figure}
use Rattle.sent_months.specs.Sent.{year_sent}

-- ---- a line of a state, a division, an element's number and a year
unfoldable pub line_text : ℕ → ℕ → ℕ → ℕ → List Figure → List ℕ
line_text s d e y fs = heading_text s d e y ++ figures_text fs

-- what the run's year `which` sends, January to December
abbrev pub year_of : Run → Element → ℕ → Book → List Figure
year_of r e which cs = year_sent e cs (calendar_first r) r.months which

-- ---- the refusals
-- "a state, division or year that doesn't fit its digits": two, two and four
unfoldable pub heading_fits : ℕ → ℕ → ℕ → Bool
heading_fits s d y = leb s 99 && leb d 99 && leb y 9999

unfoldable pub all_fit : List Figure → Bool
all_fit [] = true
all_fit (f ∷ fs) = figure_fits f && all_fit fs

-- "after 1 and 7, 24 such a value, or a state, division or year that doesn't fit its digits, 25 output list too short for the line, in that order"
unfoldable pub line_refusal : Run → Element → ℕ → ℕ → ℕ → ℕ → Book → ℕ → ℕ
line_refusal r e s d y which cs room =
    or_else (run_refusal r cs)
    (or_else (cond (heading_fits s d (y + which) && all_fit (year_of r e which cs)) 0 unfit) (cond (leb last_column room) 0 no_room))

-- ---- WRITE A LINE: the number, and the lent list
pub record Written : Type 0 where
  pub number : ℕ
  pub line : List ℕ

abbrev pub written : ℕ → List ℕ → Written
written k line = record { number = k; line = line }

-- the line in the first 94 places, and all after them as it was; "with nothing written" where it is refused
unfoldable pub write_line : Run → Element → ℕ → ℕ → ℕ → ℕ → Book → List ℕ → Written
write_line r e s d y which cs line =
    let k = line_refusal r e s d y which cs (length line) in
    unless_refused k (written 0 (line_text s d (number_of e) (y + which) (year_of r e which cs) ++ drop last_column line)) (written k line)
