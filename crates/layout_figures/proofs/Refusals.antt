-- The refusal of a line, by its heading and by what follows it. The idea: a month is malformed for the one reader exactly where it is for the other,
-- and only a line of precipitation has values out of range. Assumes nothing.
use mathlib.Core.Path.{◌≡◌, refl, sym, ◌∙◌}
use mathlib.Core.Bool.{Bool, true, false, cond, not, ◌&&◌, and-false}
use mathlib.Core.List.{List, [], ◌∷◌, map}
use Prim.Native.Nat.{ℕ, ◌≤◌, ◌<◌}
use lib.Dec.{eqb}
use lib.ListN.{length}
use borrow.Author.Tests.{eq-eqb, ne_eqb, le-leb, lt-leb}
use Rattle.text.specs.Bytes.{all_spaces, natural}
use Rattle.fields.specs.Columns.{state, division, element, year, values, last_column, after}
use Rattle.fields.specs.Refusals.{malformed, another}
use Rattle.fields.specs.Field.{field_of}
use Rattle.std.specs.Prelude.{Option, Some, None}
use Rattle.fields.specs.declared.Number.{Number}
use Rattle.layout_months.specs.Months.{is_mark, in_range, rain_of, month_said, month_of, months_of, some}
use Rattle.layout_months.specs.Months.{is_malformed as rain_malformed}
use Rattle.layout_heading.specs.Heading.{precipitation, headed}
use Rattle.layout_heading.specs.Steps.{element_refusal}
use Rattle.layout.specs.Rainfall.{is_line, rain_fits, is_year}
use Rattle.layout.specs.Fault.{fault_of}
use Rattle.layout.proofs.Faults.{fault-tells}
use Rattle.figures.specs.Figures.{number_of, signed_of, figure_said, figure_of, figures_of, is_malformed}
use Rattle.figures.specs.Figures.{is_mark as is_the_mark}
use Rattle.figures.specs.declared.Figure.TheVariants.{Value, Missing}
use Rattle.figures.specs.declared.Element.{Element}
use Rattle.figures.specs.declared.Element.TheVariants.{Index, Z, Modified}
use Rattle.layout_figures.specs.Line.{is_named, refusal}
use Rattle.layout_figures.specs.Steps.{some_malformed, rest_fits, rain_refusal}

-- ---- a month is malformed for both readers, or for none
number_by : (minus : Bool) (n : ℕ) (a b c : Bool) → is_mark minus n ≡ a → in_range minus n ≡ b → is_the_mark minus n ≡ c → rain_malformed (rain_of minus n) ≡ is_malformed (cond (is_the_mark minus n) Missing (Value (signed_of minus n)))
unfolding rain_of
number_by minus n true b true p q r = rw (p, r)
number_by minus n true b false p q r = rw (p, r)
number_by minus n false true true p q r = rw (p, q, r)
number_by minus n false true false p q r = rw (p, q, r)
number_by minus n false false true p q r = rw (p, q, r)
number_by minus n false false false p q r = rw (p, q, r)

same-value : (x : Option Number) → rain_malformed (month_said x) ≡ is_malformed (figure_said x)
same-value (Some said) = number_by said.minus said.hundredths _ _ _ refl refl refl
same-value None = refl

same-values : (vs : List (List ℕ)) → some (map rain_malformed (map month_of vs)) ≡ some (map is_malformed (map figure_of vs))
unfolding some month_of figure_of
same-values [] = refl
same-values (v ∷ vs) = rw (same-value (field_of v), same-values vs) refl

malformed-same : (line : List ℕ) → some (map rain_malformed (months_of line)) ≡ some_malformed line
unfolding months_of figures_of some_malformed
malformed-same line = same-values (values line)

-- ---- a line with no heading, one of precipitation, and any other
pub too_short : (line : List ℕ) (e : Element) (s d y : ℕ) → length line < last_column → refusal line e s d y ≡ malformed
unfolding refusal is_line
too_short line e s d y h = rw (lt-leb last_column (length line) h)

module _ (line : List ℕ) (h : last_column ≤ length line) (e : Element) (s d y : ℕ) where
  pub headless : headed line ≡ false → refusal line e s d y ≡ malformed
  unfolding refusal is_line
  headless p = rw (le-leb last_column (length line) h, p)

  no-rain : (e : Element) → eqb precipitation (number_of e) ≡ false
  no-rain Index = refl
  no-rain Z = refl
  no-rain Modified = refl

  not_named : natural (element line) ≡ precipitation → is_named line e s d ≡ false
  unfolding is_named
  not_named p = rw (p, no-rain e) (and-false (eqb (natural (state line)) s && eqb (natural (division line)) d))

  pub of-rain : natural (element line) ≡ precipitation → refusal line e s d y ≡ rain_refusal line
  unfolding refusal rain_refusal
  of-rain p = rw (not_named p) refl

  formed : headed line ≡ true → (natural (element line) ≡ precipitation → ⊥) → (is_line line && rain_fits line) ≡ rest_fits line
  unfolding is_line rain_fits rest_fits
  formed p q =
      rw (le-leb last_column (length line) h, p, ne_eqb (natural (element line)) precipitation q, malformed-same line)
      (both (not (some_malformed line) && all_spaces (after line)))
    where
      both : (b : Bool) → (b && true) ≡ b
      both true = refl
      both false = refl

  pub of_other : headed line ≡ true → (natural (element line) ≡ precipitation → ⊥) → rest_fits line ≡ false → refusal line e s d y ≡ malformed
  unfolding refusal
  of_other p q r = rw (formed p q ∙ r)

  pub of-heading : headed line ≡ true → (natural (element line) ≡ precipitation → ⊥) → rest_fits line ≡ true → refusal line e s d y ≡ element_refusal (natural (state line)) (natural (division line)) (natural (element line)) (natural (year line)) s d (number_of e) y
  unfolding refusal is_named is_year element_refusal
  of-heading p q r = rw (formed p q ∙ r)

-- ---- a line of precipitation, by its fault
pub rain-at-fault : (line : List ℕ) → (fault_of line ≡ 0 → ⊥) → rain_refusal line ≡ malformed
unfolding rain_refusal
rain-at-fault line h = rw (sym (fault-tells line) ∙ ne_eqb (fault_of line) 0 h)

pub rain-faultless : (line : List ℕ) → fault_of line ≡ 0 → rain_refusal line ≡ another
unfolding rain_refusal
rain-faultless line h = rw (sym (fault-tells line) ∙ eq-eqb (fault_of line) 0 h)
