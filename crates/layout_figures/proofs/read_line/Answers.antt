-- `layout_figures::read_line`: a line that is too short is refused, as is one with a refusal, and any other's figures are those of its months. Assumes
-- nothing.
use mathlib.Core.Path.{◌≡◌, refl, sym, ap, ◌∙◌}
use mathlib.Core.List.{List, map}
use Prim.Native.Nat.{ℕ, zero, suc, ◌≤◌}
use native.Mathlib.Omega.{arith}
use lib.Count.{ones}
use lib.IntN.{ℤ}
use lib.ListN.{length, length-map}
use Rattle.std.specs.Prelude.{Result, Err}
use Rattle.std.proofs.lemmas.Result.{err_from_is_err_and}
use Rattle.outline.specs.Refused.{refusal_number}
use Rattle.outline.specs.declared.Refusal.{Refusal}
use Rattle.outline.proofs.Refused.{number-ne-zero}
use Rattle.fields.specs.Columns.{months_of_year}
use Rattle.fields.proofs.Told.{told_same}
use Rattle.layout_months.specs.Months.{set_of}
use Rattle.layout_months.specs.Steps.{all_months, lowest_missing}
use Rattle.layout_months.proofs.Sets.{set_below, ones-count, lowest-first}
use Rattle.figures.specs.Figures.{figures_of, is_present, hundredths_of}
use Rattle.figures.specs.Steps.{seen_in}
use Rattle.figures.specs.declared.Element.{Element}
use Rattle.figures.specs.declared.Figure.{Figure}
use Rattle.figures.specs.declared.Seen.{Seen}
use Rattle.figures.proofs.FigureLaws.{figures-twelve, seen-present, seen-malformed}
use Rattle.layout_figures.specs.Line.{refusal, refused, told, answered, figures_said}
use Rattle.layout_figures.specs.declared.Figures.{Figures}
use Rattle.layout_figures.specs.Said as said
use Rattle.layout_figures.specs.Steps.{some_malformed}
use Rattle.layout_figures.proofs.Refusals.{too_short}
use Rattle.layout_figures.proofs.read_line.Goals as goal

-- ---- the answer, by the refusal
answer-refused : (k : ℕ) (fs : List Figure) → (k ≡ 0 → ⊥) → answered k fs ≡ refused k
answer-refused zero fs h = absurd (h refl)
answer-refused (suc k) fs h = refl

-- the figures that are made from the set of months present
flags-twelve : (line : List ℕ) → length (map is_present (figures_of line)) ≡ months_of_year
flags-twelve line = length-map (figures_of line) is_present ∙ figures-twelve line

flags-below : (line : List ℕ) → set_of (map is_present (figures_of line)) ≤ all_months
flags-below line = omega (arith, rw (flags-twelve line) at (set_below (map is_present (figures_of line))))

-- and those that are read
told_is : (line : List ℕ) (hs : List ℤ) (s : Seen) (gap : ℕ) → hs ≡ map hundredths_of (figures_of line) → s ≡ seen_in (figures_of line) → gap ≡ lowest_missing s.present → record { number = 0; hundredths = hs; present = s.present; count = ones s.present; first_missing = gap } ≡ told (figures_of line)
told_is line hs s gap a e g =
    let p = seen-present (figures_of line) s e in
    rw (g, p, a, ones-count (map is_present (figures_of line)), lowest-first (map is_present (figures_of line)) (flags-twelve line))

-- a refusal, by its number
answer-err : (r : Result Figures Refusal) (e : Refusal) (line : List ℕ) (x : Element) (s d y : ℕ) → r ≡ Err e → refusal_number e ≡ refusal line x s d y → said.figures_of r ≡ figures_said line x s d y
unfolding figures_said
answer-err r e line x s d y f g =
    ap said.figures_of f ∙ sym (answer-refused (refusal_number e) (figures_of line) (number-ne-zero e)) ∙ ap (λ (k : ℕ). answered k (figures_of line)) g

pub returns-then-line-lt-LAST_COLUMN : goal.returns-then-line-lt-LAST_COLUMN
unfolding figures_said
returns-then-line-lt-LAST_COLUMN c =
    let a = c.args in
    sym (ap (λ (k : ℕ). answered k (figures_of a.line.now)) (too_short a.line.now _ _ _ _ c.if-line-lt-LAST_COLUMN.true))

pub check_line-requires : goal.check_line-requires
unfolding some_malformed
check_line-requires c =
    record { last_column_in_bounds = c.if-line-lt-LAST_COLUMN.false; malformed_value = seen-malformed (figures_of c.args.line.now) c.read_figures-seen.result c.read_figures-seen.ensures.value }

pub returns-in_err-check_line : goal.returns-in_err-check_line
returns-in_err-check_line c =
    let p = err_from_is_err_and c.from_residual.result c.from_residual.ensures.1 in
    answer-err c.from_residual.result c.in_err-check_line.field-0.0 c.args.line.now _ _ _ _ (p.1 ∙ ap Err p.2) c.in_err-check_line.ensures

pub first_missing-requires : goal.first_missing-requires
first_missing-requires c =
    let l = c.args.line.now in
    omega (arith, seen-present (figures_of l) c.read_figures-seen.result c.read_figures-seen.ensures.value, flags-below l)

pub returns : goal.returns
unfolding figures_said
returns c =
    let l = c.args.line.now in
    told_is l _ c.read_figures-seen.result c.unwrap_or.result c.read_figures-seen.ensures.hundredths_after c.read_figures-seen.ensures.value (c.unwrap_or.ensures ∙ told_same _ _ c.first_missing.ensures)
    ∙ ap (λ (k : ℕ). answered k (figures_of l)) c.in_ok-check_line.ensures
