-- A line written or refused, by the tests of its refusals; and what is known where 1 and 7 are passed. Assumes nothing.
use mathlib.Core.Path.{◌≡◌, refl}
use mathlib.Core.Bool.{Bool, true, false, ◌&&◌, and-eq-true_iff}
use mathlib.Core.List.{List, ◌++◌}
use Prim.Native.Nat.{ℕ, zero, suc, ◌+◌, ◌≤◌, ◌<◌}
use native.Mathlib.Omega.{arith}
use lib.Dec.{leb, eqb}
use lib.IntN.{ℤ}
use lib.ListN.{length, drop}
use borrow.Author.Tests.{le-leb, lt-leb, leb-true}
use Rattle.fields.specs.Columns.{last_column}
use Rattle.fields.specs.Refusals.{unfit, no_room}
use Rattle.outline.proofs.Tests.{first, if-so}
use Rattle.ranges.specs.Ranges.{calendar_fits}
use Rattle.ranges.proofs.RangeLaws.{is-calendar}
use Rattle.runs.specs.Runs.{is_run}
use Rattle.runs.specs.RunFits.{RunFits}
use Rattle.runs.specs.declared.Run.{Run}
use Rattle.runs.proofs.RunLaws.{run_fits}
use Rattle.records.specs.Ends.{ends_meet}
use Rattle.refusals.specs.Book.{Book, columns_fit}
use Rattle.refusals.specs.Refusals.{is_run_for}
use Rattle.refusals.specs.Lent.{lent_long, run_refusal_for}
use Rattle.refusals.proofs.Refused.{columns_are}
use Rattle.refusals.proofs.Lent.{lent-long, not-lent, run_lent}
use Rattle.figures.specs.Figures.{number_of}
use Rattle.figures.specs.declared.Element.{Element}
use Rattle.sending.specs.Sending.{line_text, year_of, heading_fits, all_fit, line_refusal, written, write_line}
use Rattle.sending.specs.Steps.{written_by, write_line_for}

-- ---- by the number of 1 and 7
module _ (r : Run) (e : Element) (s d y which : ℕ) (cs : Book) (line : List ℕ) where
  pub by-run : (k : ℕ) → (k ≡ 0 → ⊥) → written k line ≡ written_by k r e s d y which cs line
  unfolding written_by
  by-run zero h = absurd (h refl)
  by-run (suc k) h = refl

  module _ (k : ℕ) (z : k ≡ 0) where
    pub by-heading : heading_fits s d (y + which) ≡ false → written unfit line ≡ written_by k r e s d y which cs line
    unfolding written_by
    by-heading p = rw (z, p) refl

    module _ (p : heading_fits s d (y + which) ≡ true) where
      pub by-months : all_fit (year_of r e which cs) ≡ false → written unfit line ≡ written_by k r e s d y which cs line
      unfolding written_by
      by-months q = rw (z, p, q) refl

      pub by-room : all_fit (year_of r e which cs) ≡ true → length line < last_column → written no_room line ≡ written_by k r e s d y which cs line
      unfolding written_by
      by-room q h = rw (z, p, q, lt-leb last_column (length line) h) refl

      pub by-line : all_fit (year_of r e which cs) ≡ true → last_column ≤ length line → written 0 (line_text s d (number_of e) (y + which) (year_of r e which cs) ++ drop last_column line) ≡ written_by k r e s d y which cs line
      unfolding written_by
      by-line q h = rw (z, p, q, le-leb last_column (length line) h) refl

-- ---- where 1 and 7 are passed
run_by : (n : ℕ) (r : Run) (records : List (List ℤ)) (a b : Bool) → eqb n 0 ≡ a → is_run_for n r records ≡ b → run_refusal_for n r records ≡ 0 → is_run_for n r records ≡ true
unfolding run_refusal_for
run_by n r records a true p q h = q
run_by n r records true false p q h = absurd (omega (arith, rw p at h))
run_by n r records false false p q h = absurd (omega (arith, rw (p, q) at h))

pub is-theirs : (n : ℕ) (r : Run) (records : List (List ℤ)) → run_refusal_for n r records ≡ 0 → RunFits n r
unfolding is_run_for
is-theirs n r records h = run_fits n r (first (is_run n r) (ends_meet r.months r.soil records) (run_by n r records _ _ refl refl h))

pub calendar-fits : (n : ℕ) (r : Run) → RunFits n r → calendar_fits r.calendar ≡ true
calendar-fits n r f = is-calendar r.calendar f.first_month f.last_month

-- ---- a year that fits its digits
pub year-small : (s d y : ℕ) → heading_fits s d y ≡ true → y ≤ 9999
unfolding heading_fits
year-small s d y h = leb-true y 9999 ((and-eq-true_iff (leb s 99 && leb d 99) (leb y 9999)).0 h).1

-- ---- by what is lent
module _ (cs : Book) where
  pub lent-within : (lent_long cs ≤ length cs.index) × (lent_long cs ≤ length cs.mark) × (lent_long cs ≤ length cs.records)
  lent-within =
      if-so (columns_fit cs)
      (λ f. let l = columns_are cs f in let e = lent-long cs f in (omega (arith, e, l.index_is), omega (arith, e, l.mark_is), omega (arith, e, l.records_is)))
      (λ f. let e = not-lent cs f in (omega (arith, e), omega (arith, e), omega (arith, e)))

  pub by-lent : (r : Run) (e : Element) (s d y which : ℕ) (line : List ℕ) → write_line_for (lent_long cs) r e s d y which cs line ≡ write_line r e s d y which cs line
  unfolding write_line_for written_by write_line line_refusal
  by-lent r e s d y which line = rw (run_lent cs r) refl
