-- A line that was written is read back, with whatever spaces after it: its heading is as it was written, none of its fields is malformed, and its figures are
-- those that were sent. Assumes nothing.
use mathlib.Core.Path.{◌≡◌, refl, sym, ap, ap₂, ◌∙◌}
use mathlib.Core.Bool.{true, false, ◌&&◌, and-eq-true_iff}
use mathlib.Core.List.{List, [], ◌∷◌, ◌++◌, map}
use Prim.Native.Nat.{ℕ, suc, ◌≤◌, ◌<◌}
use native.Mathlib.Omega.{arith}
use lib.Dec.{leb}
use lib.ListN.{length, length-append}
use borrow.Author.Tests.{eq-eqb, leb-true}
use Rattle.text.specs.Bytes.{all_digits, all_spaces, natural}
use Rattle.fields.specs.Columns.{state, division, element, year, last_column, months_of_year}
use Rattle.layout_months.specs.Months.{some}
use Rattle.layout_heading.specs.Heading.{precipitation, headed}
use Rattle.layout_heading.specs.Steps.{element_refusal}
use Rattle.layout_heading.specs.Written.{two_digits, four_digits, heading_text}
use Rattle.layout_heading.proofs.Inverse.{two-digits, four-digits, two_back, four-back}
use Rattle.figures.specs.Figures.{number_of, is_malformed}
use Rattle.figures.specs.declared.Element.{Element}
use Rattle.figures.specs.declared.Element.TheVariants.{Index, Z, Modified}
use Rattle.figures.specs.declared.Figure.{Figure}
use Rattle.figures.specs.declared.Figure.TheVariants.{Value, Missing, Malformed}
use Rattle.layout_figures.specs.Line.{refusal, told, answered, figures_said}
use Rattle.layout_figures.specs.Steps.{some_malformed, rest_fits}
use Rattle.layout_figures.proofs.Refusals.{of-heading}
use Rattle.sending.specs.Sending.{line_text, heading_fits, all_fit}
use Rattle.sending_laws.proofs.Fields.{AllSent, line-long, after_is, figures-are}

-- ---- no figure that is sent is malformed
none-malformed : (fs : List Figure) → AllSent fs → some (map is_malformed fs) ≡ false
unfolding some
none-malformed [] a = refl
none-malformed (Value h ∷ fs) a = none-malformed fs (λ m h. a (suc m) (omega arith))
none-malformed (Missing ∷ fs) a = none-malformed fs (λ m h. a (suc m) (omega arith))
none-malformed (Malformed ∷ fs) a = absurd (a 0 (omega arith))

number_small : (e : Element) → number_of e < 100
number_small Index = omega arith
number_small Z = omega arith
number_small Modified = omega arith

no-rain : (e : Element) → number_of e ≡ precipitation → ⊥
no-rain Index h = omega arith
no-rain Z h = omega arith
no-rain Modified h = omega arith

-- ---- the numbers of a heading that fits
fits-parts : (s d y : ℕ) → heading_fits s d y ≡ true → (s < 100) × (d < 100) × (y < 10000)
unfolding heading_fits
fits-parts s d y h =
    let t = (and-eq-true_iff (leb s 99 && leb d 99) (leb y 9999)).0 h in
    let u = (and-eq-true_iff (leb s 99) (leb d 99)).0 t.0 in
    (omega (arith, leb-true s 99 u.0), omega (arith, leb-true d 99 u.1), omega (arith, leb-true y 9999 t.1))

same-heading : (s d e y : ℕ) → element_refusal s d e y s d e y ≡ 0
unfolding element_refusal
same-heading s d e y = rw (eq-eqb s s refl, eq-eqb d d refl, eq-eqb e e refl, eq-eqb y y refl) refl

module _ (s d y : ℕ) (e : Element) (fs : List Figure) (a : AllSent fs) (twelve : length fs ≡ months_of_year) (h : heading_fits s d y ≡ true) (f : all_fit fs ≡ true) (spaces : List ℕ) (p : all_spaces spaces ≡ true) where
  abbrev line : List ℕ
  line = line_text s d (number_of e) y fs ++ spaces

  long : last_column ≤ length line
  long = omega (arith, length-append (line_text s d (number_of e) y fs) spaces, line-long s d (number_of e) y fs a twelve)

  state-is : state line ≡ two_digits s
  unfolding line_text heading_text
  state-is = refl

  division-is : division line ≡ two_digits d
  unfolding line_text heading_text
  division-is = refl

  element-is : element line ≡ two_digits (number_of e)
  unfolding line_text heading_text
  element-is = refl

  year-is : year line ≡ four_digits y
  unfolding line_text heading_text
  year-is = refl

  headed-is : headed line ≡ true
  unfolding headed
  headed-is =
      rw (ap all_digits state-is ∙ two-digits s, ap all_digits division-is ∙ two-digits d, ap all_digits element-is ∙ two-digits (number_of e), ap all_digits year-is ∙ four-digits y) refl

  element-back : natural (element line) ≡ number_of e
  element-back = ap natural element-is ∙ two_back (number_of e) (number_small e)

  rest-fits : rest_fits line ≡ true
  unfolding rest_fits some_malformed
  rest-fits =
      rw (figures-are s d (number_of e) y fs a twelve spaces f, none-malformed fs a, after_is s d (number_of e) y fs a twelve spaces, p) refl

  no-refusal : refusal line e s d y ≡ 0
  no-refusal =
      let n = fits-parts s d y h in
      of-heading line long e s d y headed-is (λ z. no-rain e (sym element-back ∙ z)) rest-fits
      ∙ rw (ap natural state-is ∙ two_back s n.0, ap natural division-is ∙ two_back d n.1, element-back, ap natural year-is ∙ four-back y n.2) (same-heading s d (number_of e) y)

  pub line-back : figures_said line e s d y ≡ told fs
  unfolding figures_said
  line-back = ap₂ answered no-refusal (figures-are s d (number_of e) y fs a twelve spaces f)
