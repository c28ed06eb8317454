-- The bytes that are kept of a line tell all that the whole line tells: `kept_same`, which stands last. The idea: of a line only the bytes of
-- the layout's columns are looked at one by one, and of the rest only whether it is spaces; that rest is kept as its first byte that is no space. Assumes
-- nothing.
use mathlib.Core.Path.{◌≡◌, refl, sym, ap, ◌∙◌}
use mathlib.Core.Bool.{Bool, true, false, cond}
use mathlib.Core.List.{List, [], ◌∷◌, ◌++◌, foldl, append-nil}
use Prim.Native.Nat.{ℕ, zero, suc, ◌+◌, ◌*◌, ◌≤◌, ◌<◌}
use native.Mathlib.Numerals.{add-one}
use native.Mathlib.Omega.{arith}
use lib.Dec.{leb, eqb, eqb-suc-zero}
use lib.ListN.{length, take, drop, set, length-append, length-take, length-set}
use lib.Seq.{take-take, take-suc-set, append_snoc, ext_get_or}
use borrow.Author.Tests.{leb-true, leb-false, le-leb, lt-leb, lt-ltb}
use Rattle.text.specs.Bytes.{space, all_spaces}
use Rattle.fields.specs.Columns.{heading_columns, months_of_year, width, last_column}
use Rattle.layout_months.specs.Months.{month_of, months_of}
use Rattle.layout_months.specs.declared.Month.TheVariants.{Malformed}
use Rattle.layout_months.proofs.Months.{months-twelve, month-at}
use Rattle.layout_heading.specs.Heading.{headed}
use Rattle.layout.specs.Rainfall.{is_line, rain_fits, is_named, is_year, refusal, year_said, year_of}
use Rattle.kept_line.specs.Kept.{most_kept, is_kept, kept_count, kept_line}
use Rattle.kept_line.proofs.Parts.{kept-within}
use Rattle.division_input.specs.Input.{State, held, with_kept, byte_kept}
use Rattle.division_session.specs.Session.{Session}

-- ---- what is kept of bytes, where n of their line are kept already
kept_of : ℕ → List ℕ → List ℕ
kept_of n [] = []
kept_of n (b ∷ bs) = cond (is_kept n b) (b ∷ kept_of (n + 1) bs) (kept_of n bs)

-- two lists of bytes that no reader of their first m bytes, and of whether the others are spaces, can tell apart
abbrev Same : ℕ → List ℕ → List ℕ → Type 0
Same m k l = (take m k ≡ take m l) × (all_spaces (drop m k) ≡ all_spaces (drop m l))

first-kept : (n b : ℕ) (bs : List ℕ) → n < last_column → kept_of n (b ∷ bs) ≡ b ∷ kept_of (n + 1) bs
unfolding kept_of is_kept
first-kept n b bs h = rw (lt-ltb n last_column h)

after-by : (b : ℕ) (bs : List ℕ) (t : Bool) → eqb b space ≡ t → all_spaces (kept_of last_column bs) ≡ all_spaces bs → all_spaces (kept_of last_column (b ∷ bs)) ≡ all_spaces (b ∷ bs)
unfolding kept_of is_kept all_spaces
after-by b bs true e h = rw (e, h)
after-by b bs false e h = rw (e, e)

after_kept : (bs : List ℕ) → all_spaces (kept_of last_column bs) ≡ all_spaces bs
unfolding kept_of
after_kept [] = refl
after_kept (b ∷ bs) = after-by b bs (eqb b space) refl (after_kept bs)

same : (m n : ℕ) (bs : List ℕ) → n + m ≡ last_column → Same m (kept_of n bs) bs
unfolding kept_of
same zero n bs h = let e : n ≡ last_column = omega arith in (refl, rw e (after_kept bs))
same (suc m) n [] h = (refl, refl)
same (suc m) n (b ∷ bs) h =
    let e = first-kept n b bs (omega arith) in
    let r = same m (n + 1) bs (omega arith) in
    (ap (take (suc m)) e ∙ ap (λ s. b ∷ s) r.0, ap (λ s. all_spaces (drop (suc m) s)) e ∙ r.1)

-- ---- such lists say the same as lines
window : (i n m : ℕ) (l : List ℕ) → i + n ≤ m → take n (drop i (take m l)) ≡ take n (drop i l)
window zero n m l h = take-take n m l (omega arith)
window (suc i) n zero l h = absurd (omega arith)
window (suc i) n (suc m) [] h = refl
window (suc i) n (suc m) (x ∷ xs) h = window i n m xs (omega arith)

module _ (k l : List ℕ) (e : Same last_column k l) where
  part : (i n : ℕ) → i + n ≤ last_column → take n (drop i k) ≡ take n (drop i l)
  part i n h = sym (window i n last_column k h) ∙ ap (λ s. take n (drop i s)) e.0 ∙ window i n last_column l h

  long-by : (n : ℕ) (t : Bool) → leb n (length k) ≡ t → n ≤ last_column → leb n (length l) ≡ t
  long-by n true h g = le-leb n (length l) (omega (arith, leb-true n (length k) h, length-take last_column k, length-take last_column l, ap length e.0))
  long-by n false h g = lt-leb n (length l) (omega (arith, leb-false n (length k) h, length-take last_column k, length-take last_column l, ap length e.0))

  long : (n : ℕ) → n ≤ last_column → leb n (length k) ≡ leb n (length l)
  long n h = sym (long-by n _ refl h)

  months : months_of k ≡ months_of l
  months =
      ext_get_or Malformed (months_of k) (months_of l) (months-twelve k ∙ sym (months-twelve l))
      (λ i h. let g : i < months_of_year = omega (arith, months-twelve k) in month-at k i g ∙ ap month_of (part (heading_columns + width * i) width (omega arith)) ∙ sym (month-at l i g))

  refusals : (s d y : ℕ) → refusal k s d y ≡ refusal l s d y
  unfolding refusal is_line headed rain_fits is_named is_year
  refusals s d y =
      rw (long last_column (omega arith), part 0 2 (omega arith), part 2 2 (omega arith), part 4 2 (omega arith), part 6 4 (omega arith), months, e.1)

  said_same : (s d y : ℕ) → year_said k s d y ≡ year_said l s d y
  unfolding year_said
  said_same s d y = rw (refusals s d y, months)

  year-same : year_of k ≡ year_of l
  unfolding year_of
  year-same = rw (long heading_columns (omega arith), part 6 4 (omega arith))

-- ---- byte by byte: of the line that began in s, these bytes are held
record Holds (s : Session) (out k : List ℕ) (t : State) : Type 0 where
  session : t.session ≡ with_kept s (length k)
  read : take (length k) t.line ≡ k
  long : length t.line ≡ most_kept
  rows : t.out ≡ out

one-read : (k line : List ℕ) (b : ℕ) → length k < length line → take (length k) line ≡ k → take (length (k ++ b ∷ [])) (set line (length k) b) ≡ k ++ b ∷ []
one-read k line b h r = rw (length-append k (b ∷ []), add-one (length k), take-suc-set line (length k) b h, r)

-- the bytes still to come, wherever in a line
abbrev Coming : Session → List ℕ → List ℕ → Type 0
Coming s out bs = (k line : List ℕ) → length line ≡ most_kept → take (length k) line ≡ k → Holds s out (k ++ kept_of (length k) bs) (foldl byte_kept (held (with_kept s (length k)) line out) bs)

module _ (s : Session) (out : List ℕ) where
  coming-by : (b : ℕ) (bs k line : List ℕ) (t : Bool) → is_kept (length k) b ≡ t → Coming s out bs → length line ≡ most_kept → take (length k) line ≡ k → Holds s out (k ++ kept_of (length k) (b ∷ bs)) (foldl byte_kept (held (with_kept s (length k)) line out) (b ∷ bs))
  unfolding kept_of kept_count kept_line
  coming-by b bs k line true e rest l r =
      let h : length k < length line = omega (arith, kept-within (length k) b e) in
      rw e (rw (length-append k (b ∷ []), append_snoc k b) at (rest (k ++ b ∷ []) (set line (length k) b) (length-set line (length k) b ∙ l) (one-read k line b h r)))
  coming-by b bs k line false e rest l r = rw e (rest k line l r)

  coming : (bs : List ℕ) → Coming s out bs
  unfolding kept_of
  coming [] k line l r = rw (append-nil k) (record { session = refl; read = r; long = l; rows = refl })
  coming (b ∷ bs) k line l r = coming-by b bs k line _ refl (coming bs) l r

none_kept : (bs : List ℕ) → eqb (length (kept_of 0 bs)) 0 ≡ eqb (length bs) 0
unfolding kept_of is_kept
none_kept [] = refl
none_kept (b ∷ bs) = eqb-suc-zero (length (kept_of 1 bs)) ∙ sym (eqb-suc-zero (length bs))

-- t is what is held after the bytes bs of a line that began in s, and k what is kept of them
pub kept_same : (s : Session) (buf out bs : List ℕ) → length buf ≡ most_kept →
    let t = foldl byte_kept (held (with_kept s 0) buf out) bs in
    let k = take t.session.kept t.line in
    ((st d y : ℕ) → year_said k st d y ≡ year_said bs st d y) × (year_of k ≡ year_of bs) × (eqb t.session.kept 0 ≡ eqb (length bs) 0) ×
    (t.session ≡ with_kept s t.session.kept) × (t.out ≡ out) × (length t.line ≡ most_kept)
kept_same s buf out bs l =
    let t = foldl byte_kept (held (with_kept s 0) buf out) bs in
    let h = coming s out bs [] buf l refl in
    let n : t.session.kept ≡ length (kept_of 0 bs) = ap (λ (u : Session). u.kept) h.session in
    let e : take t.session.kept t.line ≡ kept_of 0 bs = rw n h.read in
    let g = same last_column 0 bs refl in (
      λ st d y. rw e (said_same (kept_of 0 bs) bs g st d y),
      rw e (year-same (kept_of 0 bs) bs g),
      rw n (none_kept bs),
      h.session ∙ ap (with_kept s) (sym n),
      h.rows,
      h.long,
    )
