-- Document 02, E1: "Each answer holds the twelve amounts in thousandths (0 where missing), a twelve-bit set of the months present, with the
-- count of months present and the first missing month (0 if none). A missing month is reported and never filled in. Refusals: 14 malformed
-- line or precipitation neither the mark nor 0 to 100 inches, 15 other state, division or element, 16 not the expected year, in that order."
-- What a month says and what months make is Months, of the crate `layout_months`. Assumes nothing.
use Rattle.std.specs.Prelude.{ℕ, zero, suc, Bool, cond, not, ◌&&◌, List, Option, Some, None, map, length, replicate, leb, eqb}
use Rattle.text.specs.Bytes.{all_digits, all_spaces, natural}
use Rattle.fields.specs.Columns.{state, division, element, year, heading_columns, months_of_year, last_column, after}
use Rattle.fields.specs.Refusals.{malformed, another, not_the_year}
use Rattle.layout_months.specs.Months.{months_of, is_malformed, is_outside, is_present, amount_of, some, set_of, count_of, first_missing}
use Rattle.layout_months.specs.declared.Month.{Month}
use Rattle.layout_heading.specs.Heading.{precipitation, headed}

-- ---- the refusals
-- "spaces after the last value are ignored"
unfoldable pub is_line : List ℕ → Bool
is_line line = leb last_column (length line) && headed line && not (some (map is_malformed (months_of line))) && all_spaces (after line)

-- only the values of element 01 are precipitation
unfoldable pub rain_fits : List ℕ → Bool
rain_fits line = not (eqb (natural (element line)) precipitation && some (map is_outside (months_of line)))

unfoldable pub is_named : List ℕ → ℕ → ℕ → Bool
is_named line s d = eqb (natural (state line)) s && eqb (natural (division line)) d && eqb (natural (element line)) precipitation

unfoldable pub is_year : List ℕ → ℕ → Bool
is_year line y = eqb (natural (year line)) y

-- "in that order"
unfoldable pub refusal : List ℕ → ℕ → ℕ → ℕ → ℕ
refusal line s d y = cond (is_line line && rain_fits line) (cond (is_named line s d) (cond (is_year line y) 0 not_the_year) another) malformed

-- ---- the answer
-- the number, 0 or the refusal; thousandths, January first, 0 where the month is missing; the set of months present, January lowest; how many there
-- are; and the first missing month, 1 to 12, or 0 where none is missing
pub record Answer : Type 0 where
  pub number : ℕ
  pub amounts : List ℕ
  pub present : ℕ
  pub count : ℕ
  pub first_missing : ℕ

abbrev pub refused : ℕ → Answer
refused k = record { number = k; amounts = replicate months_of_year 0; present = 0; count = 0; first_missing = 0 }

abbrev pub told : List Month → Answer
told ms =
    record { number = 0; amounts = map amount_of ms; present = set_of (map is_present ms); count = count_of (map is_present ms); first_missing = first_missing 1 (map is_present ms) }

abbrev pub answered : ℕ → List Month → Answer
answered zero ms = told ms
answered (suc k) ms = refused (suc k)

-- what is said of a line, for a named state, division and year
unfoldable pub year_said : List ℕ → ℕ → ℕ → ℕ → Answer
year_said line s d y = answered (refusal line s d y) (months_of line)

-- the year that a line's columns say, or 0 where they hold no four digits
unfoldable pub year_of : List ℕ → ℕ
year_of line = cond (leb heading_columns (length line) && all_digits (year line)) (natural (year line)) 0

-- the same, if they hold four digits
unfoldable pub year_told : List ℕ → Option ℕ
year_told line = cond (leb heading_columns (length line) && all_digits (year line)) (Some (natural (year line))) None
