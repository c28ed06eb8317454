-- `layout::read`: a line that is too short is refused, as is one with a refusal, and any other's figures are those of its months. Assumes
-- nothing.
use Rattle.std.proofs.Common.{◌≡◌, refl, sym, ap, ◌∙◌, List, map, ℕ, zero, suc, ◌≤◌, ◌<◌, arith, length, Err}
use lib.Count.{ones}
use lib.ListN.{length-map}
use Rattle.std.specs.Prelude.{Result}
use Rattle.std.proofs.lemmas.Result.{err_from_is_err_and}
use Rattle.outline.specs.Refused.{refusal_number}
use Rattle.outline.specs.declared.Refusal.{Refusal}
use Rattle.outline.proofs.Refused.{number-ne-zero}
use Rattle.fields.specs.Columns.{last_column, months_of_year}
use Rattle.fields.specs.Refusals.{malformed}
use Rattle.fields.specs.Told.{unless_zero, or_zero}
use Rattle.fields.proofs.Told.{told_same}
use Rattle.layout_months.specs.Months.{months_of, is_present, amount_of, set_of}
use Rattle.layout_months.specs.Steps.{found_in, all_months, lowest_missing}
use Rattle.layout_months.specs.declared.Found.{Found}
use Rattle.layout_months.specs.declared.Month.{Month}
use Rattle.layout_months.proofs.Sets.{set_below, ones-count, lowest-first}
use Rattle.layout_months.proofs.Months.{months-twelve, found-present}
use Rattle.layout.specs.Rainfall.{Answer, refusal, refused, told, answered, year_said}
use Rattle.layout.specs.Said.{answer_of}
use Rattle.layout.specs.declared.Year.{Year}
use Rattle.layout.proofs.Faults.{at_length}
use Rattle.layout.proofs.Refusals.{at-fault}
use Rattle.layout.proofs.read.Goals as goal

-- ---- the answer, by the refusal
too_short : (line : List ℕ) (s d y : ℕ) → length line < last_column → refusal line s d y ≡ malformed
too_short line s d y h = at-fault line s d y (λ e. omega (arith, sym (at_length line h) ∙ e))

answer-refused : (k : ℕ) (ms : List Month) → (k ≡ 0 → ⊥) → answered k ms ≡ refused k
answer-refused zero ms h = absurd (h refl)
answer-refused (suc k) ms h = refl

-- the figures that are made from the set of months present
flags-twelve : (line : List ℕ) → length (map is_present (months_of line)) ≡ months_of_year
flags-twelve line = length-map (months_of line) is_present ∙ months-twelve line

flags-below : (line : List ℕ) → set_of (map is_present (months_of line)) ≤ all_months
flags-below line = omega (arith, rw (flags-twelve line) at (set_below (map is_present (months_of line))))

-- and those that are read
told_is : (line am : List ℕ) (f : Found) (gap : ℕ) → am ≡ map amount_of (months_of line) → f ≡ found_in (months_of line) → gap ≡ lowest_missing f.present → record { number = 0; amounts = am; present = f.present; count = ones f.present; first_missing = gap } ≡ told (months_of line)
told_is line am f gap a e g =
    let p = found-present (months_of line) f e in
    rw (g, p, a, ones-count (map is_present (months_of line)), lowest-first (map is_present (months_of line)) (flags-twelve line))

-- a refusal, by its number
answer-err : (r : Result Year Refusal) (e : Refusal) (line : List ℕ) (s d y : ℕ) → r ≡ Err e → refusal_number e ≡ refusal line s d y → answer_of r ≡ year_said line s d y
unfolding year_said
answer-err r e line s d y f g =
    ap answer_of f ∙ sym (answer-refused (refusal_number e) (months_of line) (number-ne-zero e)) ∙ ap (λ (k : ℕ). answered k (months_of line)) g

pub returns-then-line-lt-LAST_COLUMN : goal.returns-then-line-lt-LAST_COLUMN
unfolding year_said
returns-then-line-lt-LAST_COLUMN c =
    let a = c.args in record {
      value = sym (ap (λ (k : ℕ). answered k (months_of a.line.now)) (too_short a.line.now _ _ _ c.if-line-lt-LAST_COLUMN.true));
      missing = tt;
    }

pub returns-in_err-check_line : goal.returns-in_err-check_line
returns-in_err-check_line c =
    let p = err_from_is_err_and c.from_residual.result c.from_residual.ensures.1 in record {
      value = answer-err c.from_residual.result c.in_err-check_line.field-0.0 c.args.line.now _ _ _ (p.1 ∙ ap Err p.2) c.in_err-check_line.ensures;
      missing = rw p.1 tt;
    }

pub first_missing-requires : goal.first_missing-requires
first_missing-requires c =
    let l = c.args.line.now in
    omega (arith, found-present (months_of l) c.read_months-found.result c.read_months-found.ensures.value, flags-below l)

pub returns : goal.returns
unfolding year_said
returns c =
    let l = c.args.line.now in
    let gap = told_same _ _ c.first_missing.ensures in
    let value =
    told_is l _ c.read_months-found.result (or_zero c.first_missing.result) c.read_months-found.ensures.amounts_after c.read_months-found.ensures.value gap
    ∙ ap (λ (k : ℕ). answered k (months_of l)) c.in_ok-check_line.ensures in
    record { value = value; missing = c.first_missing.ensures ∙ ap unless_zero (sym gap ∙ ap (λ (a : Answer). a.first_missing) value) }
