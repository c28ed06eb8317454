-- Where a line is at fault: which field is told first, and last that there is a fault exactly where a line is refused with 14. The idea: no
-- column is told exactly where each field by itself tells none. Assumes nothing.
use mathlib.Core.Path.{◌≡◌, refl, sym, ◌∙◌}
use mathlib.Core.Bool.{Bool, true, false, not, ◌&&◌, and-false}
use mathlib.Core.List.{List, [], ◌∷◌, map}
use Prim.Native.Nat.{ℕ, ◌+◌, ◌≤◌, ◌<◌}
use native.Mathlib.Omega.{arith}
use lib.Dec.{leb, eqb}
use lib.ListN.{length}
use borrow.Author.Tests.{ne_eqb, eqb-true, le-leb, lt-leb}
use Rattle.text.specs.Bytes.{all_spaces, natural}
use Rattle.fields.specs.Columns.{element, first_value, width, last_column, after}
use Rattle.layout_months.specs.Months.{months_of, is_malformed, is_outside, some, first_bad}
use Rattle.layout_months.specs.Steps.{found_in}
use Rattle.layout_months.specs.declared.Found.{Found}
use Rattle.layout_months.specs.declared.Month.{Month}
use Rattle.layout_months.specs.declared.Month.TheVariants.{Amount, Missing, Outside, Malformed}
use Rattle.layout_months.proofs.Months.{first-bad}
use Rattle.layout_heading.specs.Heading.{precipitation, headed, unless, first_told, heading_fault}
use Rattle.layout_heading.proofs.Headings.{told-first, told-on, told_none, unless-none, heading-tells, heading-told}
use Rattle.layout.specs.Rainfall.{is_line, rain_fits}
use Rattle.layout.specs.Fault.{months_fault, fault_of}
use Rattle.layout.specs.Steps.{found_fault, rest_fault}

-- ---- months at fault
months-tell : (rain : Bool) (k : ℕ) (ms : List Month) → 1 ≤ k → eqb (first_bad rain k ms) 0 ≡ (not (some (map is_malformed ms)) && not (rain && some (map is_outside ms)))
unfolding first_bad some
months-tell true k [] h = refl
months-tell false k [] h = refl
months-tell rain k (Amount n ∷ ms) h = months-tell rain (k + width) ms (omega arith)
months-tell rain k (Missing ∷ ms) h = months-tell rain (k + width) ms (omega arith)
months-tell true k (Outside ∷ ms) h = ne_eqb k 0 (λ e. omega arith) ∙ sym (and-false (not (some (map is_malformed ms))))
months-tell false k (Outside ∷ ms) h = months-tell false (k + width) ms (omega arith)
months-tell rain k (Malformed ∷ ms) h = ne_eqb k 0 (λ e. omega arith)

-- ---- what is told of a line
pub at_length : (line : List ℕ) → length line < last_column → fault_of line ≡ length line + 1
unfolding fault_of
at_length line h = rw (lt-leb last_column (length line) h) (told-first (length line + 1) _ (λ e. omega arith))

module _ (line : List ℕ) (h : last_column ≤ length line) where
  pub at-heading : headed line ≡ false → fault_of line ≡ heading_fault line
  unfolding fault_of
  at-heading e = rw (le-leb last_column (length line) h) (told-on _ ∙ told-first (heading_fault line) _ (heading-told line e))

  pub at_rest : headed line ≡ true → fault_of line ≡ rest_fault line
  unfolding fault_of rest_fault
  at_rest e = rw (le-leb last_column (length line) h, eqb-true (heading_fault line) 0 (heading-tells line ∙ e)) (told-on _ ∙ told-on _)

-- ---- what is told of what follows the heading
found-by : (line : List ℕ) (rain : Bool) → eqb (natural (element line)) precipitation ≡ rain → found_fault (found_in (months_of line)) (natural (element line)) ≡ months_fault line
unfolding found_fault found_in months_fault
found-by line true e = rw e (first-bad true line)
found-by line false e = rw e (first-bad false line)

pub found-fault : (line : List ℕ) (f : Found) (e : ℕ) → f ≡ found_in (months_of line) → e ≡ natural (element line) → found_fault f e ≡ months_fault line
found-fault line f e p q = rw (p, q) (found-by line (eqb (natural (element line)) precipitation) refl)

module _ (line : List ℕ) where
  pub at-month : (months_fault line ≡ 0 → ⊥) → rest_fault line ≡ months_fault line
  unfolding rest_fault
  at-month f = told-first (months_fault line) _ f

  pub at-end : months_fault line ≡ 0 → (t : Bool) → all_spaces (after line) ≡ t → rest_fault line ≡ unless t (last_column + 1)
  unfolding rest_fault first_told
  at-end f true g = rw (f, g)
  at-end f false g = rw (f, g)

-- ---- a line has no fault exactly where it is not refused with 14
in_order : (l h m o s : Bool) → (l && (h && ((m && o) && (s && true)))) ≡ (l && h && m && s && o)
in_order false h m o s = refl
in_order true false m o s = refl
in_order true true false o s = refl
in_order true true true true true = refl
in_order true true true true false = refl
in_order true true true false true = refl
in_order true true true false false = refl

pub fault-tells : (line : List ℕ) → eqb (fault_of line) 0 ≡ (is_line line && rain_fits line)
unfolding fault_of months_fault first_told is_line rain_fits
fault-tells line =
    let rain = eqb (natural (element line)) precipitation in
    simp (told_none, unless-none, heading-tells, months-tell rain first_value (months_of line) (omega arith)) (in_order (leb last_column (length line)) (headed line) (not (some (map is_malformed (months_of line)))) (not (rain && some (map is_outside (months_of line)))) (all_spaces (after line)))
