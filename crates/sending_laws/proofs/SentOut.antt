-- The statement of specs/SentOut.antt, from its parts. Assumes nothing.
use mathlib.Core.Path.{◌≡◌, refl, sym, ap, ◌∙◌}
use mathlib.Core.Bool.{Bool, true, false, and-false}
use mathlib.Core.List.{List, [], ◌∷◌, ◌++◌}
use Prim.Native.Nat.{ℕ, zero, suc, ◌+◌, ◌<◌}
use native.Mathlib.Omega.{arith}
use lib.IntN.{ℤ}
use lib.ListN.{length, get_or}
use Rattle.std.specs.Prelude.{Result, Ok, Err}
use Rattle.outline.specs.Refused.{answer_number}
use Rattle.outline.specs.declared.Refusal.{Refusal}
use Rattle.outline.proofs.Refused.{number-ne-zero, one-refusal}
use Rattle.fields.specs.Written.{value_text}
use Rattle.fields.proofs.Inverse.{read_written}
use Rattle.fields.proofs.Back.{written_read, read_fits}
use Rattle.figures.specs.Figures.{figure_of, figure_text, figure_fits}
use Rattle.figures.specs.declared.Figure.{Figure}
use Rattle.figures.specs.declared.Figure.TheVariants.{Value, Missing}
use Rattle.figures.proofs.Inverse.{figure-back}
use Rattle.layout_figures.specs.Line.{figures_said}
use Rattle.sending.specs.Sending.{heading_fits, all_fit, Written, written}
use Rattle.sending_laws.specs.SentOut.{Asked, outcome, sent, ReadBack, Inverse, Marked, SendingOut}
use Rattle.sending_laws.proofs.ReadBack.{line-back}
use Rattle.sending_laws.proofs.Outcome.{number_is, each_number, unfit-said, all-passed, sent-all, first-of-line, each-place}
use Rattle.sending_laws.proofs.Months.{nothing-unsettled, every-month}
use Rattle.sending_laws.proofs.Reading.{each-reading}

-- ---- reading back
reading-back : ReadBack
reading-back q spaces z p =
    let n = sym (number_is q) ∙ z in
    let f = all-passed q n in
    ap (λ (l : List ℕ). figures_said (l ++ spaces) q.element q.state q.division (q.year + q.which)) (first-of-line q n)
    ∙ line-back q.state q.division (q.year + q.which) q.element (sent q) (sent-all q) refl f.0 f.1 spaces p

both_ways : Inverse
both_ways = record { read_written = read_written; written_read = written_read; all_fit = λ f minus n l r. read_fits f minus n r }

-- ---- the mark
never-by : (h : ℤ) (t : Bool) → figure_fits (Value h) ≡ t → value_text h ≡ figure_text Missing → figure_fits (Value h) ≡ false
never-by h false e p = e
never-by h true e p =
    let k : Value h ≡ Missing = sym (figure-back (Value h) e) ∙ ap figure_of p ∙ figure-back Missing refl in
    let z : ◌≡◌ {A = ℕ} 0 1 = cc in
    absurd (omega arith)

not-all : (fs : List Figure) (m : ℕ) (h : ℤ) → m < length fs → get_or fs m Missing ≡ Value h → figure_fits (Value h) ≡ false → all_fit fs ≡ false
unfolding all_fit
not-all [] m h l e f = absurd (omega arith)
not-all (g ∷ gs) zero h l e f = rw (e, f) refl
not-all (g ∷ gs) (suc m) h l e f = rw (not-all gs m h (omega arith) e f) (and-false (figure_fits g))

never-marked : Marked
never-marked =
    record {
      value = λ h. figure-back (Value h);
      mark = figure-back Missing refl;
      never = λ h. never-by h _ refl;
      refused = λ q m h g l e f. unfit-said q g (rw (not-all (sent q) m h l e f) (and-false (heading_fits q.state q.division (q.year + q.which))));
    }

-- ---- one outcome: an answer is told by its number
same-answer : (r s : Result (Unit {0}) Refusal) → answer_number r ≡ answer_number s → r ≡ s
same-answer (Ok a) (Ok b) h = refl
same-answer (Ok a) (Err f) h = absurd (number-ne-zero f (sym h))
same-answer (Err e) (Ok b) h = absurd (number-ne-zero e h)
same-answer (Err e) (Err f) h = ap Err (one-refusal e f h)

one-answered : (q : Asked) (r s : Result (Unit {0}) Refusal) (l m : List ℕ) → written (answer_number r) l ≡ outcome q → written (answer_number s) m ≡ outcome q → (r ≡ s) × (l ≡ m)
one-answered q r s l m p t = let e = p ∙ sym t in (same-answer r s (ap (λ (w : Written). w.number) e), ap (λ (w : Written). w.line) e)

pub sending-out : SendingOut
sending-out =
    record {
      exactly = each_number;
      lent = each-place;
      read_back = reading-back;
      inverse = both_ways;
      marked = never-marked;
      settled = nothing-unsettled;
      rows = every-month;
      reading = each-reading;
      one_outcome =
          record {
            written_one = λ q a b p r. p ∙ sym r;
            answered_one = one-answered;
            read_one = λ line e s d y a b p r. p ∙ sym r;
          };
    }
