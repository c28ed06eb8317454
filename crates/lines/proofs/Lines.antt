-- A line that is read byte by byte is judged as the whole line is: `streamed`, which stands last. The idea: after the sign, whatever digits
-- have come are held in the size, and from there on `rest` says what the bytes still to come make of it. Assumes nothing.
use mathlib.Core.Path.{◌≡◌, refl}
use mathlib.Core.Bool.{Bool, true, false, cond, ◌&&◌, ◌||◌}
use mathlib.Core.List.{List, [], ◌∷◌, foldl}
use Prim.Native.Nat.{ℕ}
use native.Mathlib.Omega.{arith}
use lib.Dec.{leb, eqb}
use borrow.Author.Tests.{leb-true, leb-false, eqb-true}
use Rattle.outline.specs.Numbers.{most_z}
use Rattle.text.specs.Bytes.{minus_sign, is_digit, all_digits, and_digit, negative, body, natural}
use Rattle.text.proofs.Digits.{digit-range}
use Rattle.lines.specs.Line.{Judged, refused, one_or_more, well_formed, signed, value, ranged, judged, begun}
use Rattle.outline.specs.Refusals.{not_a_number}
use Rattle.lines.specs.Reading.{held, opens, with_digit, with_minus, spoilt, fed, finished}
use Rattle.lines.specs.declared.Line.{Line}
use Rattle.lines.proofs.Sizes.{held_in, held_out, held-digit, ranged-in, ranged-out}

-- ---- one byte
fed-digit : (l : Line) (b : ℕ) → is_digit b ≡ true → fed l b ≡ with_digit l b
unfolding fed
fed-digit l b e = rw e

fed-minus : (l : Line) (b : ℕ) → is_digit b ≡ false → opens l b ≡ true → fed l b ≡ with_minus l
unfolding fed
fed-minus l b e f = rw (e, f)

fed-other : (l : Line) (b : ℕ) → is_digit b ≡ false → opens l b ≡ false → fed l b ≡ spoilt l
unfolding fed
fed-other l b e f = rw (e, f)

-- ---- a spoiled line stays so, whatever follows
still-by : (l : Line) (b : ℕ) (s t : Bool) → is_digit b ≡ s → opens l b ≡ t → l.spoiled ≡ true → (fed l b).spoiled ≡ true
still-by l b true t e f h = rw (fed-digit l b e) h
still-by l b false true e f h = rw (fed-minus l b e f) h
still-by l b false false e f h = rw (fed-other l b e f)

spoiled-stays : (l : Line) (bs : List ℕ) → l.spoiled ≡ true → finished (foldl fed l bs) ≡ refused not_a_number
unfolding finished
spoiled-stays l [] h = rw h
spoiled-stays l (b ∷ bs) h = spoiled-stays (fed l b) bs (still-by l b (is_digit b) (opens l b) refl refl h)

-- ---- after the sign: m tells a minus, d whether a digit has come, n what the digits say
abbrev going : Bool → Bool → ℕ → Line
going m d n = record { minus = m; digits = d; spoiled = false; size = held n }

rest : Bool → Bool → ℕ → List ℕ → Judged
rest m d n bs = cond ((d || one_or_more bs) && all_digits bs) (ranged (signed m (foldl and_digit n bs))) (refused not_a_number)

ended_by : (m : Bool) (n : ℕ) (t : Bool) → leb n most_z ≡ t → finished (going m true n) ≡ ranged (signed m n)
unfolding finished
ended_by m n true e = let h = leb-true n most_z e in rw (held_in n h, e, ranged-in m n h)
ended_by m n false e = let h = leb-false n most_z e in rw (held_out n h, ranged-out m n h)

no-opening : (m d : Bool) (n b : ℕ) → (m || d) ≡ true → opens (going m d n) b ≡ false
unfolding opens
no-opening m d n b h = rw h

or-true : (d : Bool) → (d || true) ≡ true
or-true true = refl
or-true false = refl

and-false : (d : Bool) → (d && false) ≡ false
and-false true = refl
and-false false = refl

followed-by : (m d : Bool) (n b : ℕ) (bs : List ℕ) (t : Bool) → is_digit b ≡ t → (m || d) ≡ true → finished (foldl fed (going m true (and_digit n b)) bs) ≡ rest m true (and_digit n b) bs → finished (foldl fed (fed (going m d n) b) bs) ≡ rest m d n (b ∷ bs)
unfolding rest one_or_more all_digits
followed-by m d n b bs true e h next = rw (fed-digit (going m d n) b e, held-digit n b, next, e, or-true d)
followed-by m d n b bs false e h next =
    rw (fed-other (going m d n) b e (no-opening m d n b h), spoiled-stays (spoilt (going m d n)) bs refl, e, and-false (d || true))

followed : (m d : Bool) (n : ℕ) (bs : List ℕ) → (m || d) ≡ true → finished (foldl fed (going m d n) bs) ≡ rest m d n bs
unfolding finished rest one_or_more all_digits
followed m true n [] h = ended_by m n (leb n most_z) refl
followed m false n [] h = refl
followed m d n (b ∷ bs) h = followed-by m d n b bs (is_digit b) refl h (followed m true (and_digit n b) bs (or-true m))

-- ---- the first byte
first_by : (b : ℕ) (bs : List ℕ) (s t : Bool) → is_digit b ≡ s → eqb b minus_sign ≡ t → finished (foldl fed (fed begun b) bs) ≡ judged (b ∷ bs)
unfolding judged well_formed value negative body natural one_or_more all_digits opens rest held
first_by b bs true true e f = let r = digit-range b e in let q = eqb-true b minus_sign f in absurd (omega arith)
first_by b bs true false e f = rw (f, fed-digit begun b e, e) (followed false true (and_digit 0 b) bs refl)
first_by b bs false true e f = rw (f, fed-minus begun b e f) (followed true false 0 bs refl)
first_by b bs false false e f = rw (f, fed-other begun b e f, spoiled-stays (spoilt begun) bs refl, e)

pub streamed : (bytes : List ℕ) → finished (foldl fed begun bytes) ≡ judged bytes
unfolding finished judged well_formed body one_or_more
streamed [] = refl
streamed (b ∷ bs) = first_by b bs (is_digit b) (eqb b minus_sign) refl refl
