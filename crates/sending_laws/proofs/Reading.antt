-- The numbers of the reader, each exactly when. Assumes nothing.
use mathlib.Core.Path.{◌≡◌, refl, sym, ap, ◌∙◌}
use mathlib.Core.Bool.{Bool, true, false, cond, not, ◌&&◌}
use mathlib.Core.List.{List}
use Prim.Native.Nat.{ℕ, zero, suc}
use lib.Dec.{eqb}
use Rattle.fields.specs.Refusals.{not_the_year}
use Rattle.fields.specs.Refusals.{malformed as malformedLine, another as anotherLine}
use Rattle.layout.specs.Rainfall.{is_year}
use Rattle.layout.proofs.Faults.{fault-tells}
use Rattle.figures.specs.Figures.{figures_of}
use Rattle.figures.specs.declared.Element.{Element}
use Rattle.figures.specs.declared.Figure.{Figure}
use Rattle.layout_figures.specs.Line.{is_named, refusal, answered, figures_said}
use Rattle.sending_laws.specs.SentOut.{formed, ReadExactly}

-- ---- by the three questions, in their order
said : Bool → Bool → Bool → ℕ
said f n t = cond f (cond n (cond t 0 not_the_year) anotherLine) malformedLine

said-14 : (f n t : Bool) → eqb (said f n t) malformedLine ≡ not f
unfolding said
said-14 false n t = refl
said-14 true false t = refl
said-14 true true false = refl
said-14 true true true = refl

said-15 : (f n t : Bool) → eqb (said f n t) anotherLine ≡ (f && not n)
unfolding said
said-15 false n t = refl
said-15 true false t = refl
said-15 true true false = refl
said-15 true true true = refl

said-16 : (f n t : Bool) → eqb (said f n t) not_the_year ≡ (f && (n && not t))
unfolding said
said-16 false n t = refl
said-16 true false t = refl
said-16 true true false = refl
said-16 true true true = refl

said-0 : (f n t : Bool) → eqb (said f n t) 0 ≡ (f && (n && t))
unfolding said
said-0 false n t = refl
said-0 true false t = refl
said-0 true true false = refl
said-0 true true true = refl

number_by : (k : ℕ) (fs : List Figure) → (answered k fs).number ≡ k
number_by zero fs = refl
number_by (suc k) fs = refl

module _ (line : List ℕ) (e : Element) (s d y : ℕ) where
  number_is : (figures_said line e s d y).number ≡ said (formed line) (is_named line e s d) (is_year line y)
  unfolding figures_said refusal said
  number_is = number_by (refusal line e s d y) (figures_of line)

  pub each-reading : ReadExactly line e s d y
  each-reading =
      let f = formed line in
      let n = is_named line e s d in
      let t = is_year line y in
      record {
        malformed = ap (λ (k : ℕ). eqb k malformedLine) number_is ∙ said-14 f n t;
        fault = ap (λ (k : ℕ). eqb k malformedLine) number_is ∙ said-14 f n t ∙ ap not (sym (fault-tells line));
        another = ap (λ (k : ℕ). eqb k anotherLine) number_is ∙ said-15 f n t;
        year = ap (λ (k : ℕ). eqb k not_the_year) number_is ∙ said-16 f n t;
        done = ap (λ (k : ℕ). eqb k 0) number_is ∙ said-0 f n t;
      }
