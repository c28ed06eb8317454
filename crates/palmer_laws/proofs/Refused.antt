-- Which line the program refuses: `refused-exactly` says what it prints by what the lines say alone, `one_of` that a refusal is 12 or 13, or 10 at
-- line 2,401, and `a-month-a-line` that there is a row for each line where none is refused. Assumes nothing.
use mathlib.Core.Path.{◌≡◌, refl, sym, ap, ◌∙◌, subst}
use mathlib.Core.Bool.{Bool, true, false}
use mathlib.Core.List.{List, [], ◌∷◌, foldl}
use Prim.Native.Nat.{ℕ, zero, suc, ◌+◌, ◌≤◌}
use native.Mathlib.Omega.{arith}
use lib.IntN.{ℤ}
use lib.Dec.{ltb}
use lib.ListN.{length}
use borrow.Author.Tests.{ltb-false}
use Rattle.outline.specs.Numbers.{z_fits}
use Rattle.outline.specs.Refusals.{or_else}
use Rattle.outline.proofs.Refusals.{is-done, is-refused, or-zero}
use Rattle.text.specs.Lines.{lines_of}
use Rattle.lines.specs.Line.{well_formed, value, ranged, judged}
use Rattle.refusals.specs.Refusals.{room_refusal}
use Rattle.refusals.proofs.Refused.{room-passes}
use Rattle.rows.specs.Text.{refused_text}
use Rattle.palmer_input.specs.ByLines.{State, heard}
use Rattle.palmer_input.proofs.ByLines.{lines_stay}
use Rattle.palmer_output.specs.Printed.{most_lines}
use Rattle.palmer_laws.specs.Palmer.{start, rows_of, printed_from, palmer_of}
use Rattle.palmer_laws.specs.Refused.{line_refusal, told_from, Refuses, says_no_number, out_of_range, no_room, Said, all_rows, one_refusal}
use Rattle.palmer_laws.proofs.Heard.{Sound, Heard, begins, hears}

-- a number that is another's, and not 0
not_zero : {a b k : ℕ} → a ≡ b → b ≡ suc k → a ≡ 0 → ⊥
not_zero e f h = omega arith

-- ---- by what the lines say
abbrev Coming : List (List ℕ) → Type 0
Coming ls = (n : ℕ) (t : State) → Sound n t → printed_from n t ls ≡ told_from n ls (rows_of (foldl heard t ls))

heard-by : (line : List ℕ) (ls : List (List ℕ)) → Coming ls → (n : ℕ) (t : State) → Heard n (line_refusal n line) (heard t line) → (k : ℕ) → line_refusal n line ≡ k → printed_from n t (line ∷ ls) ≡ told_from n (line ∷ ls) (rows_of (foldl heard t (line ∷ ls)))
unfolding printed_from told_from
heard-by line ls coming n t h zero e = is-done _ _ _ (h.number ∙ e) ∙ coming (suc n) (heard t line) (h.taken e) ∙ sym (is-done _ _ _ e)
heard-by line ls coming n t h (suc k) e = is-refused _ _ _ (not_zero h.number e) ∙ ap (refused_text (suc n)) h.number ∙ sym (is-refused _ _ _ (not_zero refl e))

coming : (ls : List (List ℕ)) → Coming ls
unfolding printed_from told_from
coming [] n t s = refl
coming (line ∷ ls) n t s = heard-by line ls (coming ls) n t (hears n t s line) _ refl

pub refused-exactly : (input : List ℕ) → palmer_of input ≡ told_from 0 (lines_of input) (rows_of (foldl heard start (lines_of input)))
unfolding palmer_of
refused-exactly input = coming (lines_of input) 0 start begins

-- ---- which numbers
ranged-number : (n : ℕ) (v : ℤ) (b : Bool) → z_fits v ≡ b → ((ranged v).number ≡ 0 → ⊥) → Refuses n (ranged v).number
unfolding ranged
ranged-number n v true e h = absurd (h (rw e))
ranged-number n v false e h = out_of_range (rw e)

says : (n : ℕ) (line : List ℕ) (b : Bool) → well_formed line ≡ b → ((judged line).number ≡ 0 → ⊥) → Refuses n (judged line).number
unfolding judged
says n line true e h = rw e (ranged-number n (value line) (z_fits (value line)) refl (rw e at h))
says n line false e h = says_no_number (rw e)

no-room-by : (n k : ℕ) (b : Bool) → ltb n most_lines ≡ b → n ≤ most_lines → room_refusal most_lines n ≡ suc k → Refuses (suc n) (suc k)
unfolding room_refusal
no-room-by n k true e m h = absurd (let g : 0 ≡ suc k = rw e at h in omega arith)
no-room-by n k false e m h = no_room (sym (rw e at h)) (omega (arith, ltb-false n most_lines e))

refuses-by : (n : ℕ) (line : List ℕ) (j k : ℕ) → (judged line).number ≡ j → n ≤ most_lines → or_else j (room_refusal most_lines n) ≡ suc k → Refuses (suc n) (suc k)
refuses-by n line zero k p m e = no-room-by n k (ltb n most_lines) refl m e
refuses-by n line (suc j) k p m e = rw (p ∙ e) at (says (suc n) line (well_formed line) refl (not_zero p refl))

abbrev Ends : List (List ℕ) → Type 0
Ends ls = (n : ℕ) (rows : List ℕ) → n ≤ most_lines → Said rows (told_from n ls rows)

ends_by : (line : List ℕ) (ls : List (List ℕ)) → Ends ls → (n : ℕ) (rows : List ℕ) → n ≤ most_lines → (k : ℕ) → line_refusal n line ≡ k → Said rows (told_from n (line ∷ ls) rows)
unfolding told_from line_refusal
ends_by line ls ends n rows m zero e =
    let r = room-passes most_lines n (or-zero (judged line).number (room_refusal most_lines n) e).1 in
    subst (Said rows) (sym (is-done _ _ _ e)) (ends (suc n) rows r)
ends_by line ls ends n rows m (suc k) e =
    one_refusal (suc n) (suc k) (is-refused _ _ _ (not_zero refl e) ∙ ap (refused_text (suc n)) e) (omega arith) (refuses-by n line (judged line).number k refl m e)

ends : (ls : List (List ℕ)) → Ends ls
unfolding told_from
ends [] n rows m = all_rows refl
ends (line ∷ ls) n rows m = ends_by line ls (ends ls) n rows m (line_refusal n line) refl

pub one_of : (input : List ℕ) → Said (rows_of (foldl heard start (lines_of input))) (palmer_of input)
one_of input = subst (Said _) (sym (refused-exactly input)) (ends (lines_of input) 0 _ (omega arith))

-- ---- where no line is refused, each gave a month
abbrev Counts : List (List ℕ) → Type 0
Counts ls = (n : ℕ) (t : State) → Sound n t → (foldl heard t ls).session.refused ≡ 0 → (foldl heard t ls).session.run.months ≡ n + length ls

counts-by : (line : List ℕ) (ls : List (List ℕ)) → Counts ls → (n : ℕ) (t : State) (k : ℕ) → Heard n k (heard t line) → (foldl heard (heard t line) ls).session.refused ≡ 0 → (foldl heard (heard t line) ls).session.run.months ≡ n + length (line ∷ ls)
counts-by line ls counts n t zero h e = let g = counts (suc n) (heard t line) (h.taken refl) e in omega (arith, g)
counts-by line ls counts n t (suc k) h e =
    let w = not_zero h.number refl in
    absurd (w (sym (ap (λ (u : State). u.session.refused) (lines_stay (heard t line) w ls)) ∙ e))

counts : (ls : List (List ℕ)) → Counts ls
counts [] n t s e = omega (arith, s.months)
counts (line ∷ ls) n t s e = counts-by line ls (counts ls) n t (line_refusal n line) (hears n t s line) e

pub a-month-a-line : (input : List ℕ) → let t = foldl heard start (lines_of input) in t.session.refused ≡ 0 → t.session.run.months ≡ length (lines_of input)
a-month-a-line input e = let g = counts (lines_of input) 0 start begins e in omega (arith, g)
