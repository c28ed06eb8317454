-- What is kept after an input is the start of its line at fault: `quotes`; and in pieces, as the program has it, which learns the line at
-- fault only with the piece that it ends in: `quotes-in-pieces`, which stands last. The idea: of the line that is being read, as far as it
-- has come, the start is kept after every byte (`Holds`), and at the end of the line at fault the reading stands still. Assumes nothing.
use mathlib.Core.Path.{◌≡◌, refl, sym, ap, ◌∙◌}
use mathlib.Core.Bool.{Bool, true, false}
use mathlib.Core.List.{List, [], ◌∷◌, ◌++◌, foldl, foldl-append}
use Prim.Native.Nat.{ℕ, zero, suc, ◌+◌, ◌-◌, ◌≤◌, ◌<◌, min}
use native.Mathlib.Numerals.{add-one}
use native.Mathlib.Omega.{arith}
use lib.ListN.{length, take, get_or, length-set, length-append, length-replicate}
use lib.Dec.{ltb, eqb}
use lib.Seq.{take_all, take-append-le, take-suc-set}
use borrow.Author.Tests.{ltb-true, ltb-false, lt-ltb, le-ltb, eqb-true, eqb-false}
use Rattle.text.specs.Bytes.{line_feed}
use Rattle.text.specs.Lines.{last_line, cut, lines_of}
use Rattle.quoted.specs.Start.{fresh, in_room, past_room, with_byte, next_line, fault_ended, heeded}
use Rattle.quoted.specs.Quotes.{room, Quotes, feeds}
use Rattle.quoted.specs.declared.Start.{Start}
use Rattle.quoted.proofs.Steps.{step-ended, step-next, step-fault, step-byte}

-- the start of a line is kept, as far as the line has come
record Holds (s : Start) (come : List ℕ) : Type 0 where
  going : s.ended ≡ false
  count : s.kept ≡ min room (length come)
  text : take s.kept s.bytes ≡ take room come
  more : s.more ≡ ltb room (length come)
  wide : length s.bytes ≡ room

-- ---- one byte more of a line
byte-in : (s : Start) (b : ℕ) (come : List ℕ) → s.kept < room → Holds s come → Holds (in_room s b) (come ++ b ∷ [])
byte-in s b come h e =
    let l = length-append come (b ∷ []) in
    let n : length come < room = omega (arith, e.count) in
    record {
      going = e.going;
      count = omega (arith, e.count, l);
      text =
          rw add-one (take-suc-set s.bytes s.kept b (omega (arith, e.wide)))
          ∙ ap (λ (t : List ℕ). t ++ b ∷ []) (e.text ∙ take_all room come (omega arith))
          ∙ sym (take_all room (come ++ b ∷ []) (omega (arith, l)));
      more = e.more ∙ le-ltb room (length come) (omega arith) ∙ sym (le-ltb room (length (come ++ b ∷ [])) (omega (arith, l)));
      wide = length-set s.bytes s.kept b ∙ e.wide;
    }

byte_past : (s : Start) (b : ℕ) (come : List ℕ) → room ≤ s.kept → Holds s come → Holds (past_room s) (come ++ b ∷ [])
byte_past s b come h e =
    let l = length-append come (b ∷ []) in
    let n : room ≤ length come = omega (arith, e.count) in
    record {
      going = e.going;
      count = omega (arith, e.count, l);
      text = e.text ∙ sym (take-append-le room come (b ∷ []) n);
      more = sym (lt-ltb room (length (come ++ b ∷ [])) (omega (arith, l)));
      wide = e.wide;
    }

byte-by : (s : Start) (b : ℕ) (come : List ℕ) (t : Bool) → ltb s.kept room ≡ t → Holds s come → Holds (with_byte s b) (come ++ b ∷ [])
unfolding with_byte
byte-by s b come true f e = rw f (byte-in s b come (ltb-true _ _ f) e)
byte-by s b come false f e = rw f (byte_past s b come (ltb-false _ _ f) e)

same_line : (s : Start) (b : ℕ) (t : Bool) → ltb s.kept room ≡ t → (with_byte s b).line ≡ s.line
unfolding with_byte
same_line s b true f = rw f
same_line s b false f = rw f

-- ---- a line that begins
next-holds : (s : Start) (come : List ℕ) → Holds s come → Holds (next_line s) []
next-holds s come e = record { going = e.going; count = refl; text = refl; more = refl; wide = e.wide }

-- ---- the line at fault has ended
stays : (fault : ℕ) (s : Start) (bs : List ℕ) → s.ended ≡ true → foldl (heeded fault) s bs ≡ s
stays fault s [] e = refl
stays fault s (b ∷ bs) e = rw (step-ended fault s b e) (stays fault s bs e)

ended-quotes : (s : Start) (come : List ℕ) → Holds s come → Quotes (fault_ended s) come
ended-quotes s come e = record { text = e.text; more = e.more }

-- ---- the input: n lines end before the one at fault
last-quotes : (s : Start) (come : List ℕ) (n : ℕ) → Holds s come → n < length (last_line come) → Quotes s (get_or (last_line come) n [])
unfolding last_line
last-quotes s [] n e h = absurd (omega arith)
last-quotes s (c ∷ cs) zero e h = record { text = e.text; more = e.more }
last-quotes s (c ∷ cs) (suc n) e h = absurd (omega arith)

-- what is shown of some bytes that follow, whatever has come before them
AllQuoted : ℕ → List ℕ → Type 0
AllQuoted fault bs =
    (come : List ℕ) (s : Start) (n : ℕ) → Holds s come → fault ≡ s.line + n → n < length (cut come bs) → Quotes (foldl (heeded fault) s bs) (get_or (cut come bs) n [])

-- a line feed
quotes-feed : (fault : ℕ) (b : ℕ) (bs come : List ℕ) (s : Start) (n : ℕ) → b ≡ line_feed → AllQuoted fault bs → Holds s come → fault ≡ s.line + n → n < length (come ∷ cut [] bs) → Quotes (foldl (heeded fault) s (b ∷ bs)) (get_or (come ∷ cut [] bs) n [])
unfolding AllQuoted
quotes-feed fault b bs come s zero f next e k h =
    rw (step-fault fault s b e.going f (omega arith), stays fault (fault_ended s) bs refl) (ended-quotes s come e)
quotes-feed fault b bs come s (suc n) f next e k h =
    rw (step-next fault s b e.going f (omega arith)) (next [] (next_line s) n (next-holds s come e) (omega arith) (omega arith))

quotes-by : (fault : ℕ) (b : ℕ) (bs : List ℕ) (t : Bool) → eqb b line_feed ≡ t → AllQuoted fault bs → AllQuoted fault (b ∷ bs)
unfolding AllQuoted cut
quotes-by fault b bs true f next come s n e k = rw f (quotes-feed fault b bs come s n (eqb-true _ _ f) next e k)
quotes-by fault b bs false f next come s n e k =
    rw (f, step-byte fault s b e.going (eqb-false _ _ f)) (next (come ++ b ∷ []) (with_byte s b) n (byte-by s b come (ltb s.kept room) refl e) (k ∙ ap (λ (l : ℕ). l + n) (sym (same_line s b (ltb s.kept room) refl))))

quotes-all : (fault : ℕ) (bs : List ℕ) → AllQuoted fault bs
unfolding AllQuoted cut
quotes-all fault [] come s n e k h = last-quotes s come n e h
quotes-all fault (b ∷ bs) come s n e k h = quotes-by fault b bs (eqb b line_feed) refl (quotes-all fault bs) come s n e k h

-- of any input, and any of its lines, counted from 1: what is kept where that line is at fault is its start
pub quotes : (input : List ℕ) (fault : ℕ) → 0 < fault → fault ≤ length (lines_of input) → Quotes (foldl (heeded fault) fresh input) (get_or (lines_of input) (fault - 1) [])
unfolding AllQuoted lines_of
quotes input fault p h = quotes-all fault input [] fresh (fault - 1) (record { going = refl; count = refl; text = refl; more = refl; wide = length-replicate {A = ℕ} room 0 }) (omega arith) (omega arith)

-- ---- in pieces
same_end : (s : Start) (b : ℕ) (t : Bool) → ltb s.kept room ≡ t → (with_byte s b).ended ≡ s.ended
unfolding with_byte
same_end s b true f = rw f
same_end s b false f = rw f

-- as long as the line at fault has not ended, it does not matter which later one is taken for it
SameBefore : ℕ → ℕ → List ℕ → Type 0
SameBefore fault later bs =
    (s : Start) → s.ended ≡ false → s.line + feeds bs ≤ fault → foldl (heeded later) s bs ≡ foldl (heeded fault) s bs

same_by : (fault later b : ℕ) (bs : List ℕ) (t : Bool) → eqb b line_feed ≡ t → fault ≤ later → SameBefore fault later bs → SameBefore fault later (b ∷ bs)
unfolding SameBefore feeds
same_by fault later b bs true f l next s e h =
    let k : s.line + (1 + feeds bs) ≤ fault = rw f at h in
    rw (step-next later s b e (eqb-true _ _ f) (omega arith), step-next fault s b e (eqb-true _ _ f) (omega arith)) (next (next_line s) e (omega arith))
same_by fault later b bs false f l next s e h =
    let k : s.line + feeds bs ≤ fault = rw f at h in
    let q = same_line s b (ltb s.kept room) refl in
    rw (step-byte later s b e (eqb-false _ _ f), step-byte fault s b e (eqb-false _ _ f)) (next (with_byte s b) (same_end s b (ltb s.kept room) refl ∙ e) (omega (arith, q)))

same-before : (fault later : ℕ) (bs : List ℕ) → fault ≤ later → SameBefore fault later bs
unfolding SameBefore
same-before fault later [] l s e h = refl
same-before fault later (b ∷ bs) l s e h = same_by fault later b bs (eqb b line_feed) refl l (same-before fault later bs l) s e h

-- the pieces before were gone over for a later line, and the line at fault ends in this one or after it
pub quotes-in-pieces : (earlier piece : List ℕ) (fault later : ℕ) → 1 + feeds earlier ≤ fault → fault ≤ later → fault ≤ length (lines_of (earlier ++ piece)) → Quotes (foldl (heeded fault) (foldl (heeded later) fresh earlier) piece) (get_or (lines_of (earlier ++ piece)) (fault - 1) [])
unfolding SameBefore
quotes-in-pieces earlier piece fault later b l h =
    rw (same-before fault later earlier l fresh refl b, ← foldl-append (heeded fault) fresh earlier piece) (quotes (earlier ++ piece) fault (omega arith) h)
