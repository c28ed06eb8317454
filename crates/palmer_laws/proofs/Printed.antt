-- The program prints what it should: `prints`, which stands last. The idea: what is held where each line before gave a month counts them (`hears`),
-- so the number of the line after the months that stand is the number of the line that is refused. Assumes nothing.
use mathlib.Core.Path.{◌≡◌, refl, sym, ap, ◌∙◌}
use mathlib.Core.List.{List, [], ◌∷◌, ◌++◌, foldl, flatten}
use Prim.Native.Nat.{ℕ, zero, suc, ◌≤◌}
use native.Mathlib.Omega.{arith}
use lib.ListN.{length, take}
use lib.Seq.{take_at}
use Rattle.outline.proofs.Refusals.{is-done}
use Rattle.text.specs.Lines.{lines_of}
use Rattle.rows.specs.Text.{refused_text}
use Rattle.rows.specs.Room.{laid}
use Rattle.palmer_input.specs.ByLines.{State, state, fresh, heard}
use Rattle.palmer_input.specs.Input.{byte_fed, input_ended}
use Rattle.palmer_input.specs.declared.Session.{Session}
use Rattle.palmer_input.proofs.ByLines.{by_lines, in_parts, bytes-stay, lines_stay}
use Rattle.palmer_output.specs.Printed.{most_lines}
use Rattle.palmer_output.specs.Output.{shown_months, line_after, output_of, laid_out}
use Rattle.palmer_laws.specs.Palmer.{start, printed_from, palmer_of}
use Rattle.palmer_laws.specs.Refused.{line_refusal}
use Rattle.palmer_laws.specs.Calls.{Takes, none, one_more, Prints}
use Rattle.palmer_laws.proofs.Heard.{Sound, Heard, at_most, begins, hears}

-- ---- what is laid out of what lines make is what is printed of them
-- the claim for the lines still to come
abbrev Coming : List (List ℕ) → Type 0
Coming ls = (n : ℕ) (t : State) → Sound n t → laid_out (foldl heard t ls) ≡ printed_from n t ls

-- none: a row for each month
all-heard : Coming []
unfolding printed_from output_of
all-heard n t s =
    let e : shown_months t.session.run.months ≡ t.session.run.months = omega (arith, at_most n t s, s.months) in
    rw (s.none_refused, e)

-- one that is refused: its number is one more than the months
refused-heard : (n k : ℕ) (u : State) → n ≤ most_lines → u.session.run.months ≡ n → u.session.refused ≡ suc k → laid_out u ≡ refused_text (suc n) (suc k)
unfolding output_of
refused-heard n k u h m e =
    let l : line_after u.session.run.months ≡ suc n = omega arith in
    rw e (ap (λ i. refused_text i (suc k)) l)

heard-by : (ls : List (List ℕ)) → Coming ls → (n : ℕ) (t : State) (line : List ℕ) (k : ℕ) → n ≤ most_lines → Heard n k (heard t line) → laid_out (foldl heard (heard t line) ls) ≡ printed_from n t (line ∷ ls)
unfolding printed_from
heard-by ls coming n t line zero m h = coming (suc n) (heard t line) (h.taken refl) ∙ sym (is-done _ _ _ h.number)
heard-by ls coming n t line (suc k) m h =
    let w : (heard t line).session.refused ≡ 0 → ⊥ = λ g. (let z : suc k ≡ 0 = sym h.number ∙ g in omega arith) in
    ap laid_out (lines_stay (heard t line) w ls) ∙ refused-heard n k (heard t line) m (h.stays (λ g. omega (arith, g))) h.number ∙ rw h.number

coming : (ls : List (List ℕ)) → Coming ls
coming [] n t s = all-heard n t s
coming (line ∷ ls) n t s = heard-by ls (coming ls) n t line (line_refusal n line) (at_most n t s) (hears n t s line)

-- ---- the whole input
-- from the program's own start, with its 2,400 places, the bytes make what the lines make
pub read-by-lines : (bytes : List ℕ) → input_ended (foldl byte_fed start bytes) ≡ foldl heard start (lines_of bytes)
read-by-lines bytes = by_lines start refl bytes

at_once : (bytes : List ℕ) → laid_out (input_ended (foldl byte_fed start bytes)) ≡ palmer_of bytes
unfolding palmer_of
at_once bytes = ap laid_out (read-by-lines bytes) ∙ coming (lines_of bytes) 0 start begins

-- in pieces
in_pieces : (t u : State) (pieces : List (List ℕ)) → Takes t pieces u → u ≡ foldl byte_fed t (flatten pieces)
unfolding flatten
in_pieces t u [] none = refl
in_pieces t u (piece ∷ pieces) (one_more {u = v} e more) = in_pieces v u pieces more ∙ ap (λ (w : State). foldl byte_fed w (flatten pieces)) e ∙ in_parts t piece (flatten pieces)

-- bytes that are not read change nothing
unread : (t : State) (rest : List ℕ) (k : ℕ) → t.session.refused ≡ k → (t.session.refused ≡ 0 → rest ≡ []) → foldl byte_fed t rest ≡ t
unread t rest zero e h = ap (foldl byte_fed t) (h e)
unread t rest (suc k) e h = bytes-stay t (λ g. (let z : suc k ≡ 0 = sym e ∙ g in omega arith)) rest

-- what stands before the end of a text that is laid where a list begins is the text
laid-first : (text o q : List ℕ) (r : ℕ) → r ≡ length text → q ≡ laid text 0 o → take r q ≡ text
laid-first text o q r e f = rw f (take_at text _ r (sym e))

pub prints : (pieces : List (List ℕ)) (rest printed : List ℕ) → Prints pieces rest printed → printed ≡ palmer_of (flatten pieces ++ rest)
prints pieces rest printed p =
    let t : p.read ≡ foldl byte_fed start (flatten pieces) = in_pieces _ _ pieces p.takes ∙ ap (λ (s : Session). foldl byte_fed (state s start.columns start.percents) (flatten pieces)) p.begins in
    let u : p.read ≡ foldl byte_fed start (flatten pieces ++ rest) = sym (unread p.read rest _ refl p.stops) ∙ ap (λ (w : State). foldl byte_fed w rest) t ∙ in_parts start (flatten pieces) rest in
    p.writes ∙ laid-first (laid_out p.ended) p.before p.after p.end p.ends_at p.lays ∙ ap laid_out (p.ends ∙ ap input_ended u) ∙ at_once (flatten pieces ++ rest)

-- and there is such a program: every input is printed of, in whatever pieces it comes
abbrev pub taken-by : State → List (List ℕ) → State
taken-by t [] = t
taken-by t (piece ∷ pieces) = taken-by (foldl byte_fed t piece) pieces

takes_all : (t : State) (pieces : List (List ℕ)) → Takes t pieces (taken-by t pieces)
takes_all t [] = none
takes_all t (piece ∷ pieces) = one_more refl (takes_all (foldl byte_fed t piece) pieces)

pub some-prints : (pieces : List (List ℕ)) → let text = laid_out (input_ended (taken-by start pieces)) in Prints pieces [] (take (length text) (laid text 0 []))
some-prints pieces =
    let ended = input_ended (taken-by start pieces) in
    record {
      begun = fresh;
      begins = refl;
      read = taken-by start pieces;
      takes = takes_all start pieces;
      stops = λ _. refl;
      ended = ended;
      ends = refl;
      before = [];
      after = laid (laid_out ended) 0 [];
      end = length (laid_out ended);
      ends_at = refl;
      lays = refl;
      writes = refl;
    }
