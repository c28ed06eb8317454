-- The program makes of its input, byte by byte, what its lines make: `by_lines`, which stands last. The idea: between two lines the session
-- and the rows are those of what was made so far, and while a line is coming they stay so, with the bytes so far kept, which tell what the
-- line tells (`kept_same`, Kept). Assumes nothing.
use mathlib.Core.Path.{◌≡◌, refl, sym, ap, ◌∙◌, subst, subst₂}
use mathlib.Core.Bool.{Bool, true, false}
use mathlib.Core.List.{List, [], ◌∷◌, ◌++◌, foldl, foldl-append}
use Prim.Native.Nat.{ℕ, zero, suc, ◌+◌}
use native.Mathlib.Omega.{arith}
use lib.Dec.{eqb, eqb-suc-zero}
use lib.ListN.{length, take, drop, length-append}
use lib.Seq.{take-append_seam}
use borrow.Author.Tests.{eqb-true, eqb-false}
use Rattle.text.specs.Bytes.{line_feed}
use Rattle.text.specs.Lines.{last_line, cut, lines_of}
use Rattle.fields.specs.Refusals.{another}
use Rattle.layout.specs.Rainfall.{Answer, year_said, year_of}
use Rattle.kept_line.specs.Kept.{most_kept}
use Rattle.division_session.specs.ByLines.{expected, Made, nothing, made_by, made_with, line_made, at_end, division_of}
use Rattle.division_session.specs.Session.{Session, begun, Closed, closed, row_text, closed_by, line_closed, last_closed, none_found}
use Rattle.outline.proofs.Refusals.{is-done, is-refused}
use Rattle.division_input.specs.Input.{State, held, byte_kept, byte_fed, input_ended}
use Rattle.division_input.proofs.Fed.{byte-closes, byte-within}
use Rattle.division_laws.proofs.Kept.{kept_same}
use Rattle.division_input.proofs.Part.{fed-refused}

-- ---- the end
last-closes : (x : Session) (line out : List ℕ) → x.refused ≡ 0 → eqb x.kept 0 ≡ false → last_closed x line out ≡ line_closed x (take x.kept line) out
unfolding last_closed
last-closes x line out h e = is-done _ _ (closed x out) h ∙ rw e

last_none : (x : Session) (line out : List ℕ) → x.refused ≡ 0 → eqb x.kept 0 ≡ true → last_closed x line out ≡ closed x out
unfolding last_closed
last_none x line out h e = is-done _ _ (closed x out) h ∙ rw e

last-refused : (x : Session) (line out : List ℕ) → (x.refused ≡ 0 → ⊥) → last_closed x line out ≡ closed x out
unfolding last_closed
last-refused x line out h = is-refused _ _ (closed x out) h

-- ---- after a refusal nothing changes
lines_stay : (s d : ℕ) (m : Made) (ls : List (List ℕ)) → (m.refused ≡ 0 → ⊥) → foldl (line_made s d) m ls ≡ m
unfolding line_made
lines_stay s d m [] h = refl
lines_stay s d m (l ∷ ls) h = ap (λ (n : Made). foldl (line_made s d) n ls) (is-refused _ _ m h) ∙ lines_stay s d m ls h

-- ---- what is held where m was made so far, and k bytes of the next line are kept
abbrev between : ℕ → ℕ → Made → ℕ → Session
between s d m k = record { state = s; division = d; kept = k; lines = m.lines; refused = m.refused; next = m.next; end = length m.text }

-- and where these bytes of the next line have come
abbrev within : ℕ → ℕ → Made → List ℕ → List ℕ → List ℕ → State
within s d m line out come = foldl byte_kept (held (between s d m 0) line out) come

-- the rows so far stand first
abbrev First : Made → List ℕ → Type 0
First m out = take (length m.text) out ≡ m.text

-- a session and rows that hold what was made so far, with no byte of a next line, unless they were refused
record Agrees (s d : ℕ) (m : Made) (c : Closed) : Type 0 where
  session : c.session ≡ between s d m c.session.kept
  rows : First m c.out
  fresh : m.refused ≡ 0 → c.session.kept ≡ 0

-- what the program says at the end is what was made
abbrev Ends : Made → Closed → Type 0
Ends m c = (c.session.lines ≡ m.lines) × (c.session.refused ≡ m.refused) × (c.session.next ≡ m.next) × (take c.session.end c.out ≡ m.text)

-- ---- a line is closed
year-expected : (n : ℕ) (k line : List ℕ) → year_of k ≡ year_of line → expected n k ≡ expected n line
unfolding expected
year-expected zero k line e = e
year-expected (suc n) k line e = refl

module _ (s d : ℕ) where
  module _ (m : Made) (k : ℕ) (out : List ℕ) (r : First m out) (year : Answer) (y : ℕ) where
    refused-by : (n : ℕ) (t : Bool) → eqb (suc n) another ≡ t → Agrees s d (made_by (suc n) m year y) (closed_by (suc n) (between s d m k) out year y)
    refused-by n true e = rw e (record { session = refl; rows = r; fresh = λ _. refl })
    refused-by n false e = rw e (record { session = refl; rows = r; fresh = λ h. absurd (omega (arith, h)) })

    closed-by : (n : ℕ) → Agrees s d (made_by n m year y) (closed_by n (between s d m k) out year y)
    closed-by zero =
        let row = row_text year y in
        record { session = rw (length-append m.text row); rows = rw r (take-append_seam (m.text ++ row) (drop (length m.text + length row) out)); fresh = λ _. refl }
    closed-by (suc n) = refused-by n (eqb (suc n) another) refl

  -- by what is kept of it, which tells what the line tells
  line-closed : (m : Made) (k : ℕ) (kept line out : List ℕ) → m.refused ≡ 0 → First m out → ((st d y : ℕ) → year_said kept st d y ≡ year_said line st d y) → year_of kept ≡ year_of line → Agrees s d (line_made s d m line) (line_closed (between s d m k) kept out)
  unfolding line_made line_closed
  line-closed m k kept line out z r said year =
      let y = expected m.next line in
      rw (is-done m.refused (made_with m (year_said line s d y) y) m z, year-expected m.next kept line year, said s d y)
      (closed-by m k out r (year_said line s d y) y (year_said line s d y).number)

  -- ---- the end of the input
  ends_by : (m : Made) (k : ℕ) (out : List ℕ) (a b : Bool) → eqb m.refused 0 ≡ a → eqb m.next 0 ≡ b → First m out → Ends (at_end m) (closed (none_found (between s d m k)) out)
  unfolding at_end none_found
  ends_by m k out true true e f r = rw (e, f) (refl, refl, eqb-true m.next 0 f, r)
  ends_by m k out true false e f r = rw (e, f) (refl, refl, refl, r)
  ends_by m k out false b e f r = rw e (refl, refl, refl, r)

  ends : (m : Made) (c : Closed) → Agrees s d m c → Ends (at_end m) (closed (none_found c.session) c.out)
  ends m c a = rw a.session (ends_by m c.session.kept c.out _ _ refl refl a.rows)

  -- ---- a line that is coming, where m was made before it
  module _ (m : Made) (z : m.refused ≡ 0) (line out : List ℕ) (l : length line ≡ most_kept) (r : First m out) where
    within-refused : (come : List ℕ) → (within s d m line out come).session.refused ≡ 0
    within-refused come = ap (λ (x : Session). x.refused) (kept_same (between s d m 0) line out come l).3 ∙ z

    within-closed : (come : List ℕ) → let t = within s d m line out come in Agrees s d (line_made s d m come) (line_closed t.session (take t.session.kept t.line) t.out)
    within-closed come =
        let t = within s d m line out come in
        let k = take t.session.kept t.line in
        let q = kept_same (between s d m 0) line out come l in
        subst₂ (λ x o. Agrees s d (line_made s d m come) (line_closed x k o)) (sym q.3) (sym q.4) (line-closed m t.session.kept k come out z r q.0 q.1)

    within-last : (come : List ℕ) → let t = within s d m line out come in Agrees s d (foldl (line_made s d) m (last_line come)) (last_closed t.session t.line t.out)
    unfolding last_line
    within-last [] = rw (last_none (between s d m 0) line out z refl) (record { session = refl; rows = r; fresh = λ _. refl })
    within-last (b ∷ bs) =
        let t = within s d m line out (b ∷ bs) in
        let q = kept_same (between s d m 0) line out (b ∷ bs) l in
        rw (last-closes t.session t.line t.out (within-refused (b ∷ bs)) (q.2 ∙ eqb-suc-zero (length bs))) (within-closed (b ∷ bs))

    one_more : (come : List ℕ) (b : ℕ) → eqb b line_feed ≡ false → byte_fed (within s d m line out come) b ≡ within s d m line out (come ++ b ∷ [])
    one_more come b e = byte-within (within s d m line out come) b (within-refused come) (eqb-false b line_feed e) ∙ sym (foldl-append byte_kept (held (between s d m 0) line out) come (b ∷ []))

  -- the claim for what is still to come, while a line is coming, and where a line begins
  abbrev Makes : Made → State → List ℕ → List (List ℕ) → Type 0
  Makes m t input ls = let u = foldl byte_fed t input in Ends (at_end (foldl (line_made s d) m ls)) (input_ended u.session u.line u.out)

  fed-first : (m : Made) (t : State) (b : ℕ) (rest : List ℕ) (ls : List (List ℕ)) {u : State} → byte_fed t b ≡ u → Makes m u rest ls → Makes m t (b ∷ rest) ls
  fed-first m t b rest ls e h = subst (λ (v : State). Makes m v rest ls) (sym e) h

  abbrev Coming : List ℕ → Type 0
  Coming input = (m : Made) → m.refused ≡ 0 → (line out : List ℕ) → length line ≡ most_kept → First m out → (come : List ℕ) → Makes m (within s d m line out come) input (cut come input)

  starting : (input : List ℕ) → Coming input → (m : Made) (c : Closed) (line : List ℕ) → Agrees s d m c → length line ≡ most_kept → (k : ℕ) → m.refused ≡ k → Makes m (held c.session line c.out) input (cut [] input)
  unfolding input_ended
  starting input coming m c line a l zero e = rw (a.session ∙ ap (between s d m) (a.fresh e)) (coming m e line c.out l a.rows [])
  starting input coming m c line a l (suc n) e =
      let h : m.refused ≡ 0 → ⊥ = λ g. (let q : suc n ≡ 0 = sym e ∙ g in omega arith) in
      let g : c.session.refused ≡ 0 → ⊥ = λ f. h (sym (ap (λ (x : Session). x.refused) a.session) ∙ f) in
      rw (fed-refused (held c.session line c.out) input g, lines_stay s d m (cut [] input) h, last-refused c.session line c.out g) (ends m c a)

  ended : Coming []
  unfolding cut input_ended
  ended m z line out l r come = ends _ _ (within-last m z line out l r come)

  followed : (b : ℕ) (rest : List ℕ) (t : Bool) → eqb b line_feed ≡ t → Coming rest → Coming (b ∷ rest)
  unfolding cut
  followed b rest true e coming m z line out l r come =
      let t = within s d m line out come in
      rw e
      (fed-first m t b rest (come ∷ cut [] rest) (byte-closes t b (within-refused m z line out l r come) (eqb-true b line_feed e))
      (starting rest coming (line_made s d m come) _ t.line (within-closed m z line out l r come) (kept_same (between s d m 0) line out come l).5 _ refl))
  followed b rest false e coming m z line out l r come =
      rw e (fed-first m (within s d m line out come) b rest (cut (come ++ b ∷ []) rest) (one_more m z line out l r come b e) (coming m z line out l r (come ++ b ∷ [])))

  coming : (input : List ℕ) → Coming input
  coming [] = ended
  coming (b ∷ rest) = followed b rest (eqb b line_feed) refl (coming rest)

-- whatever stands in what the program lends; that no row goes beyond it is Room's to show
pub by_lines : (s d : ℕ) (input line out : List ℕ) → length line ≡ most_kept →
    let t = foldl byte_fed (held (begun s d) line out) input in
    let c = input_ended t.session t.line t.out in
    let m = division_of s d input in
    (c.session.lines ≡ m.lines) × (c.session.refused ≡ m.refused) × (c.session.next ≡ m.next) × (take c.session.end c.out ≡ m.text)
unfolding division_of lines_of
by_lines s d input line out l = coming s d input nothing refl line out l refl []
