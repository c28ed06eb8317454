-- Document 02, E14: "Extend E1's reader to these elements: reading back what was written gives the hundredths and the missing months." The set, the
-- count and the first missing month are E1's, and so are its refusals: "14 malformed line or precipitation neither the mark nor 0 to 100 inches, 15
-- other state, division or element, 16 not the expected year, in that order." Which line is 14 goes by the line alone, so it is the same for
-- both readers. Assumes nothing.
use Rattle.std.specs.Prelude.{ℕ, zero, suc, Bool, cond, ◌&&◌, List, map, pos, replicate, eqb}
use Rattle.text.specs.Bytes.{natural}
use Rattle.fields.specs.Columns.{state, division, element, months_of_year}
use Rattle.fields.specs.Refusals.{malformed, another, not_the_year}
use Rattle.layout_months.specs.Months.{set_of, count_of, first_missing}
use Rattle.layout.specs.Rainfall.{is_line, rain_fits, is_year}
use Rattle.figures.specs.Figures.{number_of, figures_of, is_present, hundredths_of}
use Rattle.figures.specs.declared.Element.{Element}
use Rattle.figures.specs.declared.Figure.{Figure}
use Rattle.layout_figures.specs.declared.Figures.{Figures}

-- ---- the refusals
unfoldable pub is_named : List ℕ → Element → ℕ → ℕ → Bool
is_named line e s d = eqb (natural (state line)) s && eqb (natural (division line)) d && eqb (natural (element line)) (number_of e)

-- "in that order"
unfoldable pub refusal : List ℕ → Element → ℕ → ℕ → ℕ → ℕ
refusal line e s d y = cond (is_line line && rain_fits line) (cond (is_named line e s d) (cond (is_year line y) 0 not_the_year) another) malformed

-- ---- the answer
abbrev pub refused : ℕ → Figures
refused k = record { number = k; hundredths = replicate months_of_year (pos 0); present = 0; count = 0; first_missing = 0 }

abbrev pub told : List Figure → Figures
told fs =
    record { number = 0; hundredths = map hundredths_of fs; present = set_of (map is_present fs); count = count_of (map is_present fs); first_missing = first_missing 1 (map is_present fs) }

abbrev pub answered : ℕ → List Figure → Figures
answered zero fs = told fs
answered (suc k) fs = refused (suc k)

-- what is said of a line, for an element and a named state, division and year
unfoldable pub figures_said : List ℕ → Element → ℕ → ℕ → ℕ → Figures
figures_said line e s d y = answered (refusal line e s d y) (figures_of line)
