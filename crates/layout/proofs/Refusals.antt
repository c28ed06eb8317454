-- The refusal of a line, by where it is at fault and what its heading says. Assumes nothing.
use mathlib.Core.Path.{◌≡◌, refl, sym, ◌∙◌}
use mathlib.Core.List.{List}
use Prim.Native.Nat.{ℕ, zero, suc}
use borrow.Author.Tests.{eq-eqb, ne_eqb}
use Rattle.text.specs.Bytes.{natural}
use Rattle.fields.specs.Columns.{state, division, element, year}
use Rattle.layout_months.specs.Months.{months_of}
use Rattle.layout_months.specs.declared.Month.{Month}
use Rattle.fields.specs.Refusals.{malformed}
use Rattle.layout_heading.specs.Steps.{heading_refusal}
use Rattle.layout.specs.Rainfall.{is_named, is_year, refusal, answered, year_said}
use Rattle.layout.specs.Fault.{fault_of}
use Rattle.layout.proofs.Faults.{fault-tells}

-- ---- the refusal, and the answer's number
number_by : (k : ℕ) (ms : List Month) → (answered k ms).number ≡ k
number_by zero ms = refl
number_by (suc k) ms = refl

module _ (line : List ℕ) (s d y : ℕ) where
  pub number_is : (year_said line s d y).number ≡ refusal line s d y
  unfolding year_said
  number_is = number_by (refusal line s d y) (months_of line)

  pub at-fault : (fault_of line ≡ 0 → ⊥) → refusal line s d y ≡ malformed
  unfolding refusal
  at-fault h = rw (sym (fault-tells line) ∙ ne_eqb (fault_of line) 0 h)

  pub faultless : fault_of line ≡ 0 → refusal line s d y ≡ heading_refusal (natural (state line)) (natural (division line)) (natural (element line)) (natural (year line)) s d y
  unfolding refusal is_named is_year heading_refusal
  faultless h = rw (sym (fault-tells line) ∙ eq-eqb (fault_of line) 0 h)
