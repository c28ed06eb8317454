-- The program hears its input line by line: `by_lines`, which stands last. The idea: while a line is coming, what is held is what was held
-- where the line began, but for the line itself, which is `begun` fed with what has come. Assumes nothing.
use mathlib.Core.Path.{◌≡◌, refl, sym, ap, ◌∙◌}
use mathlib.Core.Bool.{Bool, true, false, ◌||◌, or-true}
use mathlib.Core.List.{List, [], ◌∷◌, ◌++◌, foldl, foldl-append}
use Prim.Native.Nat.{ℕ, zero, suc}
use native.Mathlib.Omega.{arith}
use lib.Dec.{eqb}
use borrow.Author.Tests.{eqb-true, eqb-false}
use Rattle.outline.proofs.Refusals.{is-done, is-refused}
use Rattle.text.specs.Bytes.{line_feed, is_digit}
use Rattle.text.specs.Lines.{last_line, cut, lines_of}
use Rattle.runs.specs.declared.Run.{Run}
use Rattle.lines.specs.Line.{Judged, judged, begun}
use Rattle.lines.specs.Reading.{opens, fed}
use Rattle.lines.specs.declared.Line.{Line}
use Rattle.lines.proofs.Lines.{streamed}
use Rattle.refusals.specs.Book.{Book}
use Rattle.palmer_input.specs.ByLines.{State, stands, with_z, heard_with, heard_as, heard}
use Rattle.palmer_input.specs.Input.{is_blank, line_closed, byte_fed, input_ended}
use Rattle.palmer_input.proofs.Steps.{byte-closes, byte-within, byte-refused, end-closes, end-blank, end_refused}

-- ---- worked inputs: "", "a" and a line feed, a line feed, and "a", two line feeds, "b"
pub cuts : (lines_of [] ≡ []) × (lines_of (97 ∷ 10 ∷ []) ≡ (97 ∷ []) ∷ []) × (lines_of (10 ∷ []) ≡ [] ∷ []) × (lines_of (97 ∷ 10 ∷ 10 ∷ 98 ∷ []) ≡ (97 ∷ []) ∷ [] ∷ (98 ∷ []) ∷ [])
unfolding lines_of cut last_line
cuts = (refl, refl, refl, refl)

-- ---- a line of which any byte has come is not blank
fed_by : (l : Line) (b : ℕ) (s t : Bool) → is_digit b ≡ s → opens l b ≡ t → is_blank (fed l b) ≡ false
unfolding is_blank fed
fed_by l b true t e f = rw (e, or-true l.minus)
fed_by l b false true e f = rw (e, f)
fed_by l b false false e f = rw (e, f, or-true (l.minus || l.digits))

not-blank : (l : Line) (b : ℕ) (bs : List ℕ) → is_blank (foldl fed l (b ∷ bs)) ≡ false
not-blank l b [] = fed_by l b (is_digit b) (opens l b) refl refl
not-blank l b (b' ∷ bs) = not-blank (fed l b) b' bs

-- ---- after a refusal nothing changes
module _ (t : State) (k : t.session.refused ≡ 0 → ⊥) where
  pub bytes-stay : (bytes : List ℕ) → foldl byte_fed t bytes ≡ t
  bytes-stay [] = refl
  bytes-stay (b ∷ bs) = rw (byte-refused t b k) (bytes-stay bs)

  pub lines_stay : (ls : List (List ℕ)) → foldl heard t ls ≡ t
  unfolding heard
  lines_stay [] = refl
  lines_stay (l ∷ ls) = ap (λ (u : State). foldl heard u ls) (is-refused _ _ t k) ∙ lines_stay ls

-- ---- a line that is closed is heard, and the next begins
closed-heard : (t : State) (line : List ℕ) → t.session.refused ≡ 0 → line_closed (foldl fed begun line) t.session.run t.columns t.percents ≡ heard t line
unfolding line_closed heard
closed-heard t line k = ap (λ (j : Judged). heard_as j t.session.run t.columns t.percents) (streamed line) ∙ sym (is-done _ _ t k)

begins : (j : Judged) (run : Run) (cs : Book) (ps : List ℕ) (n : ℕ) → (heard_with n j.z run cs ps).session.line ≡ begun
unfolding with_z
begins j run cs ps zero = refl
begins j run cs ps (suc n) = refl

heard-begins : (t : State) (line : List ℕ) → t.session.refused ≡ 0 → (heard t line).session.line ≡ begun
unfolding heard
heard-begins t line k = rw k (begins (judged line) t.session.run t.columns t.percents (judged line).number)

-- ---- what is held where a line began in t, and these bytes of it have come
abbrev within : State → List ℕ → State
within t come = stands (record { line = foldl fed begun come; refused = t.session.refused; run = t.session.run }) t.columns t.percents

one_more : (t : State) (come : List ℕ) (b : ℕ) → t.session.refused ≡ 0 → (b ≡ line_feed → ⊥) → byte_fed (within t come) b ≡ within t (come ++ b ∷ [])
one_more t come b k h = byte-within (within t come) b k h ∙ rw (foldl-append fed begun come (b ∷ []))

none-come : (t : State) → t.session.line ≡ begun → within t [] ≡ t
none-come t e = rw (← e)

-- the claim for what is still to come, while a line is coming, and where a line begins
abbrev Coming : List ℕ → Type 0
Coming input = (t : State) (come : List ℕ) → t.session.line ≡ begun → t.session.refused ≡ 0 → input_ended (foldl byte_fed (within t come) input) ≡ foldl heard t (cut come input)

starting : (input : List ℕ) → Coming input → (t : State) → t.session.line ≡ begun → (k : ℕ) → t.session.refused ≡ k → input_ended (foldl byte_fed t input) ≡ foldl heard t (cut [] input)
starting input coming t e zero f = ap (λ (u : State). input_ended (foldl byte_fed u input)) (sym (none-come t e)) ∙ coming t [] e f
starting input coming t e (suc n) f =
    let k : t.session.refused ≡ 0 → ⊥ = λ g. (let z : suc n ≡ 0 = sym f ∙ g in omega arith) in
    ap input_ended (bytes-stay t k input) ∙ end_refused t k ∙ sym (lines_stay t k (cut [] input))

ended : Coming []
unfolding cut last_line is_blank
ended t [] e k = end-blank (within t []) k refl ∙ none-come t e
ended t (b ∷ bs) e k = end-closes (within t (b ∷ bs)) k (not-blank begun b bs) ∙ closed-heard t (b ∷ bs) k

followed : (b : ℕ) (rest : List ℕ) (s : Bool) → eqb b line_feed ≡ s → Coming rest → Coming (b ∷ rest)
unfolding cut
followed b rest true f coming t come e k =
    rw (f, byte-closes (within t come) b k (eqb-true b line_feed f), closed-heard t come k)
    (starting rest coming (heard t come) (heard-begins t come k) (heard t come).session.refused refl)
followed b rest false f coming t come e k = rw (f, one_more t come b k (eqb-false b line_feed f)) (coming t (come ++ b ∷ []) e k)

coming : (input : List ℕ) → Coming input
coming [] = ended
coming (b ∷ rest) = followed b rest (eqb b line_feed) refl (coming rest)

-- bytes that come in parts are bytes that come at once
pub in_parts : (t : State) (first then : List ℕ) → foldl byte_fed (foldl byte_fed t first) then ≡ foldl byte_fed t (first ++ then)
in_parts t first then = sym (foldl-append byte_fed t first then)

-- whatever is held where a line begins, refused or not, the input's bytes make of it what its lines make of it
pub by_lines : (t : State) → t.session.line ≡ begun → (input : List ℕ) → input_ended (foldl byte_fed t input) ≡ foldl heard t (lines_of input)
unfolding lines_of
by_lines t e input = starting input (coming input) t e t.session.refused refl
