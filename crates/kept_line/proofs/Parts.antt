-- What is left of a part at a place: its first byte and those after it, or nothing; where a line ends that goes on there; and that a byte is
-- kept within the line lent. Assumes nothing.
use mathlib.Core.Path.{◌≡◌, refl, ap, ◌∙◌}
use mathlib.Core.Bool.{Bool, true, false}
use mathlib.Core.List.{List, [], ◌∷◌, ◌++◌, append_assoc, foldl-append}
use Prim.Native.Nat.{ℕ, zero, suc, ◌+◌, ◌≤◌, ◌<◌}
use native.Mathlib.Omega.{arith}
use lib.Dec.{leb, eqb}
use lib.ListN.{length, take, drop, set, get_or, length-set, drop_of_length-le, take-append-drop}
use lib.Seq.{drop-drop, take-suc-set, drop-set-lt}
use native.Mathlib.Numerals.{add-one}
use borrow.Author.Tests.{leb-true, leb-false, lt-ltb, le-ltb, ne_eqb}
use Rattle.memchr.specs.Find.{Nowhere, NoneBefore, Passes, is_byte}
use Rattle.text.specs.Bytes.{line_feed}
use Rattle.text.proofs.Digits.{apart}
use Rattle.fields.specs.Columns.{last_column}
use Rattle.fields.proofs.Parts.{left}
use Rattle.kept_line.specs.declared.Kept.{Kept}
use Rattle.kept_line.specs.Kept.{until_feed, most_kept, is_kept, kept_count, kept_line, kept_of, byte_into, part_kept}

-- ---- a part's first byte and those after it, or nothing
module _ (s : List ℕ) (i : ℕ) (h : i < length s) where
  pub part-on : (k : Kept) → part_kept k (drop i s) ≡ part_kept (byte_into k (get_or s i 0)) (drop (i + 1) s)
  unfolding part_kept
  part-on k = rw (left s i h)

module _ (s : List ℕ) (i : ℕ) (h : length s ≤ i) where
  pub part_end : (k : Kept) → part_kept k (drop i s) ≡ k
  unfolding part_kept
  part_end k = rw (drop_of_length-le s h)

-- ---- a line ends at the first line feed, or where no more comes
abbrev Feed : List ℕ → ℕ → Type 0
Feed = Passes (is_byte line_feed)

first-by : (b : ℕ) (bs : List ℕ) (t : Bool) → eqb b line_feed ≡ t → (t ≡ true → ⊥) → length (until_feed (b ∷ bs)) ≡ suc (length (until_feed bs))
unfolding until_feed
first-by b bs true e n = absurd (n refl)
first-by b bs false e n = rw e

pub feed-first : (bs : List ℕ) (k : ℕ) → NoneBefore (Feed bs) 0 (length bs) k → Feed bs k → length (until_feed bs) ≡ k
unfolding until_feed
feed-first [] k n f = absurd (omega (arith, n.high))
feed-first (b ∷ bs) zero n f = rw f
feed-first (b ∷ bs) (suc k) n f =
    first-by b bs _ refl (n.before 0 (omega arith) (omega arith))
    ∙ ap suc (feed-first bs k (record { low = omega arith; high = omega (arith, n.high); before = λ i l h. n.before (suc i) (omega arith) (omega arith) }) f)

pub feed-none : (bs : List ℕ) → Nowhere (Feed bs) 0 (length bs) → length (until_feed bs) ≡ length bs
unfolding until_feed
feed-none [] n = refl
feed-none (b ∷ bs) n = first-by b bs _ refl (n 0 (omega arith) (omega arith)) ∙ ap suc (feed-none bs (λ i l h. n (suc i) (omega arith) (omega arith)))

-- ---- a byte is kept within the line
within_by : (kept b : ℕ) (t : Bool) → leb kept last_column ≡ t → is_kept kept b ≡ true → kept < most_kept
unfolding is_kept
within_by kept b true e h = omega (arith, leb-true kept last_column e)
within_by kept b false e h =
    let l = leb-false kept last_column e in
    absurd (apart (rw (le-ltb kept last_column (omega arith), ne_eqb kept last_column (λ f. omega arith)) at h))

pub kept-within : (kept b : ℕ) → is_kept kept b ≡ true → kept < most_kept
kept-within kept b = within_by kept b _ refl

-- ---- a part in two
pub in_two : (k : Kept) (part : List ℕ) (n : ℕ) → part_kept (part_kept k (take n part)) (drop n part) ≡ part_kept k part
unfolding part_kept
in_two k part n = rw (← foldl-append byte_into k (take n part) (drop n part), take-append-drop)

pub joined : (self k : Kept) (part front back : List ℕ) (n : ℕ) → front ≡ take n part → back ≡ drop n part → k ≡ part_kept self front → part_kept k back ≡ part_kept self part
joined self k part front back n e f g = rw (g, e, f) (in_two self part n)

pub none-kept : (k : Kept) (part : List ℕ) → length part ≡ 0 → k ≡ part_kept k part
unfolding part_kept
none-kept k [] e = refl
none-kept k (b ∷ bs) e = absurd (omega arith)

-- ---- a part that stands in the layout's columns is kept as it is
column : (k b : ℕ) (line : List ℕ) → k < last_column → byte_into (kept_of k line) b ≡ kept_of (k + 1) (set line k b)
unfolding is_kept kept_count kept_line
column k b line h = rw (lt-ltb k last_column h)

abbrev copied : List ℕ → ℕ → List ℕ → List ℕ
copied line k part = take k line ++ (part ++ drop (length part) (drop k line))

copied-on : (line bs : List ℕ) (k b : ℕ) → k < length line → copied line k (b ∷ bs) ≡ copied (set line k b) (k + 1) bs
copied-on line bs k b h =
    let n : k + suc (length bs) ≡ k + 1 + length bs = omega arith in
    rw (drop-drop, drop-drop, add-one k, take-suc-set line k b h, drop-set-lt (suc k + length bs) line k b (omega arith), append_assoc, ← add-one k, ← n) refl

pub columns-kept : (part line : List ℕ) (k : ℕ) → k + length part ≤ last_column → last_column ≤ length line → part_kept (kept_of k line) part ≡ kept_of (k + length part) (copied line k part)
unfolding part_kept
columns-kept [] line k h l = let z : k + 0 ≡ k = omega arith in rw (z, take-append-drop)
columns-kept (b ∷ bs) line k h l =
    let n : k + suc (length bs) ≡ k + 1 + length bs = omega arith in
    rw (column k b line (omega arith), copied-on line bs k b (omega arith), n) (columns-kept bs (set line k b) (k + 1) (omega arith) (rw length-set l))
