-- SENDING THE RECORD OUT (document 02, E14): "Write index, Z and modified index lines in the nClimDiv layout, whole calendar years, values nearest to hundredths.
-- The elements are 05, 07 and 08, and their missing mark is -99.99. State, division, the year of row 0 and which of the run's years (from 0) are given; a line is
-- 94 characters. An open Palmer month and a month outside the run get the mark. Extend E1's reader to these elements: reading back what was written gives the
-- hundredths and the missing months. A value that doesn't fit its seven characters, or that would itself print as the missing mark, refuses the line. Refusals:
-- after 1 and 7, 24 such a value, or a state, division or year that doesn't fit its digits, 25 output list too short for the line, in that order, with nothing
-- written." The definitions of the calls are `write_line` of the crate `sending` and `figures_said` of `layout_figures`. `sending-out` of proofs/SentOut.antt proves
-- it. Assumes nothing.
use Rattle.std.specs.Prelude.{◌≡◌, Bool, true, false, not, ◌&&◌, List, [], ◌++◌, ℕ, ◌+◌, ◌-◌, ◌*◌, ◌/◌, ◌%◌, ◌≤◌, ◌<◌, ℤ, pos, eqb, leb, length, take, drop, get_or, Result}
use Rattle.outline.specs.Numbers.{last_month}
use Rattle.outline.specs.Refusals.{bad_lists, not_a_run}
use Rattle.outline.specs.Refused.{answer_number}
use Rattle.outline.specs.declared.Refusal.{Refusal}
use Rattle.text.specs.Bytes.{all_spaces}
use Rattle.fields.specs.Columns.{width, last_column, months_of_year}
use Rattle.fields.specs.Field.{units, numbered, field_of}
use Rattle.fields.specs.Written.{field_text, value_text, size_fits}
use Rattle.fields.specs.Refusals.{not_the_year, unfit, no_room}
use Rattle.fields.specs.Refusals.{malformed as malformedLine, another as anotherLine}
use Rattle.runs.specs.declared.Run.{Run}
use Rattle.refusals.specs.Book.{Book, book, columns_fit}
use Rattle.refusals.specs.Refusals.{is_run_of}
use Rattle.reopening.specs.Before.{calendar_back}
use Rattle.years.specs.Years.{calendar_first}
use Rattle.figures.specs.Figures.{figure_of, figure_text, figure_fits}
use Rattle.figures.specs.declared.Element.{Element}
use Rattle.figures.specs.declared.Element.TheVariants.{Index}
use Rattle.figures.specs.declared.Figure.{Figure}
use Rattle.figures.specs.declared.Figure.TheVariants.{Value, Missing}
use Rattle.layout.specs.Rainfall.{is_line, rain_fits, is_year}
use Rattle.layout.specs.Fault.{fault_of}
use Rattle.layout_figures.specs.Line.{is_named, told, figures_said}
use Rattle.layout_figures.specs.declared.Figures.{Figures}
use Rattle.sent_months.specs.Sent.{row_sent, month_sent}
use Rattle.sending.specs.Sending.{year_of, heading_fits, all_fit, Written, written, write_line}

-- a run's year, as it is asked for
pub record Asked : Type 0 where
  pub run : Run
  pub element : Element
  pub state : ℕ
  pub division : ℕ
  -- of row 0, and which of the run's years
  pub year : ℕ
  pub which : ℕ
  pub columns : Book
  -- the lent list
  pub line : List ℕ

abbrev pub outcome : Asked → Written
outcome q = write_line q.run q.element q.state q.division q.year q.which q.columns q.line

-- what the year's twelve months send
abbrev pub sent : Asked → List Figure
sent q = year_of q.run q.element q.which q.columns

abbrev pub good : Asked → Bool
good q = columns_fit q.columns && is_run_of q.columns q.run

abbrev pub fits : Asked → Bool
fits q = heading_fits q.state q.division (q.year + q.which) && all_fit (sent q)

abbrev pub room : Asked → Bool
room q = leb last_column (length q.line)

-- ---- the numbers, each exactly when
pub record Exactly (q : Asked) : Type 0 where
  pub lists : eqb (outcome q).number bad_lists ≡ not (columns_fit q.columns)
  pub run : eqb (outcome q).number not_a_run ≡ (columns_fit q.columns && not (is_run_of q.columns q.run))
  pub value : eqb (outcome q).number unfit ≡ (good q && not (fits q))
  pub line : eqb (outcome q).number no_room ≡ (good q && (fits q && not (room q)))
  pub done : eqb (outcome q).number 0 ≡ (good q && (fits q && room q))

-- ---- what is written: the list keeps its length, and all after the 94th place is as it was; with a refusal, all
pub record Lent (q : Asked) : Type 0 where
  pub long : length (outcome q).line ≡ length q.line
  pub after : drop last_column (outcome q).line ≡ drop last_column q.line
  pub refused : ((outcome q).number ≡ 0 → ⊥) → (outcome q).line ≡ q.line

-- ---- "reading back what was written gives the hundredths and the missing months": of every line that is written, with whatever spaces after it
abbrev pub ReadBack : Type 0
ReadBack =
    (q : Asked) (spaces : List ℕ) → (outcome q).number ≡ 0 → all_spaces spaces ≡ true → figures_said (take last_column (outcome q).line ++ spaces) q.element q.state q.division (q.year + q.which) ≡ told (sent q)

-- ---- a value's writer and its reader are inverse to each other over everything that fits seven characters
pub record Inverse : Type 0 where
  pub read_written : (minus : Bool) (n : ℕ) → size_fits minus n ≡ true → field_of (field_text minus n) ≡ numbered minus n
  -- of every field with a digit before the point, as it is always written
  pub written_read : (f : List ℕ) (minus : Bool) (n : ℕ) → length f ≡ width → field_of f ≡ numbered minus n → (units f ≡ [] → ⊥) → field_text minus n ≡ f
  -- and nothing else fits
  pub all_fit : (f : List ℕ) (minus : Bool) (n : ℕ) → length f ≡ width → field_of f ≡ numbered minus n → size_fits minus n ≡ true

-- ---- no value that is written can be read as the mark, the mark is, and a value that would be is 24
pub record Marked : Type 0 where
  pub value : (h : ℤ) → figure_fits (Value h) ≡ true → figure_of (value_text h) ≡ Value h
  pub mark : figure_of (figure_text Missing) ≡ Missing
  pub never : (h : ℤ) → value_text h ≡ figure_text Missing → figure_fits (Value h) ≡ false
  pub refused : (q : Asked) (m : ℕ) (h : ℤ) → good q ≡ true → m < months_of_year → get_or (sent q) m Missing ≡ Value h → figure_fits (Value h) ≡ false → (outcome q).number ≡ unfit

-- ---- nothing unsettled goes out: an index that is not settled gets the mark, and whatever else stood in its place, the outcome would be the same
pub record Settled : Type 0 where
  pub unsettled : (cs : Book) (i : ℕ) → (get_or cs.mark i 0 ≡ 2 → ⊥) → row_sent Index cs i ≡ Missing
  pub nothing :
      (r : Run) (s d y which : ℕ) (cs : Book) (index : List ℤ) (line : List ℕ)
      → length index ≡ length cs.index
      → ((i : ℕ) → get_or cs.mark i 0 ≡ 2 → get_or index i (pos 0) ≡ get_or cs.index i (pos 0))
      → write_line r Index s d y which (book cs.x1 cs.x2 cs.x3 index cs.mark cs.records cs.v) line ≡ write_line r Index s d y which cs line

-- ---- which month stands where: the calendar month m, from 0, of the year `which` is row i, where c - 1 months of year 0 are before row 0
pub record Rows : Type 0 where
  -- every row of the run is sent in its year, at its month, once
  pub every : (e : Element) (cs : Book) (c months i : ℕ) → i < months → month_sent e cs c months ((c - 1 + i) / last_month) ((c - 1 + i) % last_month) ≡ row_sent e cs i
  -- and a month that is no row's gets the mark
  pub outside : (e : Element) (cs : Book) (c months which m : ℕ) → ((i : ℕ) → i < months → c - 1 + i ≡ last_month * which + m → ⊥) → month_sent e cs c months which m ≡ Missing
  -- the calendar month of row i is the run's own, as its calendar has it back from the next month
  pub calendar : (r : Run) (i : ℕ) → i ≤ r.months → (calendar_first r - 1 + i) % last_month + 1 ≡ calendar_back r.calendar (r.months - i)

-- ---- the numbers of the reader, each exactly when: 14 goes by the line alone, and there is a fault to be told exactly where it is given
abbrev pub formed : List ℕ → Bool
formed line = is_line line && rain_fits line

pub record ReadExactly (line : List ℕ) (e : Element) (s d y : ℕ) : Type 0 where
  pub malformed : eqb (figures_said line e s d y).number malformedLine ≡ not (formed line)
  pub fault : eqb (figures_said line e s d y).number malformedLine ≡ not (eqb (fault_of line) 0)
  pub another : eqb (figures_said line e s d y).number anotherLine ≡ (formed line && not (is_named line e s d))
  pub year : eqb (figures_said line e s d y).number not_the_year ≡ (formed line && (is_named line e s d && not (is_year line y)))
  pub done : eqb (figures_said line e s d y).number 0 ≡ (formed line && (is_named line e s d && is_year line y))

-- ---- any two outcomes that the promises allow are the same
pub record OneOutcome : Type 0 where
  pub written_one : (q : Asked) (a b : Written) → a ≡ outcome q → b ≡ outcome q → a ≡ b
  -- what `sending::write_line` answers, and the line that it leaves
  pub answered_one : (q : Asked) (r s : Result (Unit {0}) Refusal) (l m : List ℕ) → written (answer_number r) l ≡ outcome q → written (answer_number s) m ≡ outcome q → (r ≡ s) × (l ≡ m)
  pub read_one : (line : List ℕ) (e : Element) (s d y : ℕ) (a b : Figures) → a ≡ figures_said line e s d y → b ≡ figures_said line e s d y → a ≡ b

pub record SendingOut : Type 0 where
  pub exactly : (q : Asked) → Exactly q
  pub lent : (q : Asked) → Lent q
  pub read_back : ReadBack
  pub inverse : Inverse
  pub marked : Marked
  pub settled : Settled
  pub rows : Rows
  pub reading : (line : List ℕ) (e : Element) (s d y : ℕ) → ReadExactly line e s d y
  pub one_outcome : OneOutcome
