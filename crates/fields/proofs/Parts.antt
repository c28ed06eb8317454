-- A part of a line is looked through byte by byte: what a definition says of the bytes that are left, it says of the first of them and of
-- those after it. Assumes nothing.
use mathlib.Core.Path.{◌≡◌, refl}
use mathlib.Core.Bool.{Bool, true, false, not}
use mathlib.Core.List.{List, [], ◌∷◌, foldl}
use Prim.Native.Nat.{ℕ, ◌+◌, ◌-◌, ◌≤◌, ◌<◌}
use native.Mathlib.Numerals.{add-one}
use native.Mathlib.Omega.{arith}
use lib.Dec.{eqb}
use lib.ListN.{length, take, drop, get_or, length-drop, drop_of_length-le}
use lib.Seq.{drop-cons, take_all}
use borrow.Author.Tests.{eq-eqb, ne_eqb}
use Rattle.std.specs.List.{list_all}
use Rattle.text.specs.Bytes.{space, minus_sign, digit_zero, is_digit, all_digits, all_spaces, negative, body, and_digit}
use Rattle.fields.specs.Field.{unpadded, plain}

-- the part from a place to its end is what is left there
pub to_end : (s : List ℕ) (i : ℕ) → take (length s - i) (drop i s) ≡ drop i s
to_end s i = take_all (length s - i) (drop i s) (omega (arith, length-drop i s))

module _ (s : List ℕ) (i : ℕ) (h : i < length s) where
  pub left : drop i s ≡ get_or s i 0 ∷ drop (i + 1) s
  left = rw (add-one i) (drop-cons s i 0 h)

  pub digit-on : is_digit (get_or s i 0) ≡ true → all_digits (drop i s) ≡ all_digits (drop (i + 1) s)
  unfolding all_digits
  digit-on e = rw (left, e)

  pub digit-off : is_digit (get_or s i 0) ≡ false → all_digits (drop i s) ≡ false
  unfolding all_digits
  digit-off e = rw (left, e)

  pub number-on : (n : ℕ) → foldl and_digit n (drop i s) ≡ foldl and_digit (and_digit n (get_or s i 0)) (drop (i + 1) s)
  number-on n = rw left

  pub padding-on : get_or s i 0 ≡ space → unpadded (drop i s) ≡ unpadded (drop (i + 1) s)
  unfolding unpadded
  padding-on e = rw (left, eq-eqb (get_or s i 0) space e)

  pub padding-off : (get_or s i 0 ≡ space → ⊥) → unpadded (drop i s) ≡ drop i s
  unfolding unpadded
  padding-off e = rw (left, ne_eqb (get_or s i 0) space e)

-- ---- whether all are spaces
pub spaces-all : (s : List ℕ) → list_all (λ (b : ℕ). eqb b space) s ≡ all_spaces s
unfolding all_spaces
spaces-all [] = refl
spaces-all (b ∷ bs) = rw (spaces-all bs) refl

-- ---- where nothing is left
module _ (s : List ℕ) (i : ℕ) (h : length s ≤ i) where
  pub digits-end : all_digits (drop i s) ≡ true
  unfolding all_digits
  digits-end = rw (drop_of_length-le s h)

  pub number-end : (n : ℕ) → foldl and_digit n (drop i s) ≡ n
  number-end n = rw (drop_of_length-le s h)

  pub padding-end : [] ≡ unpadded (drop i s)
  unfolding unpadded
  padding-end = rw (drop_of_length-le s h)

-- ---- the first byte
pub minus-none : (s : List ℕ) → length s ≡ 0 → negative s ≡ false
unfolding negative
minus-none [] h = refl
minus-none (b ∷ bs) h = absurd (omega arith)

pub minus-some : (s : List ℕ) → (length s ≡ 0 → ⊥) → negative s ≡ eqb (get_or s 0 0) minus_sign
unfolding negative
minus-some [] h = absurd (h refl)
minus-some (b ∷ bs) h = refl

pub minus-long : (s : List ℕ) → negative s ≡ true → 1 ≤ length s
unfolding negative
minus-long [] e = let z : ◌≡◌ {A = ℕ} 0 1 = cc in omega arith
minus-long (b ∷ bs) e = omega arith

pub body-minus : (s : List ℕ) → negative s ≡ true → body s ≡ drop 1 s
unfolding negative body
body-minus [] e = refl
body-minus (b ∷ bs) e = rw e

pub body-plain : (s : List ℕ) → negative s ≡ false → body s ≡ s
unfolding negative body
body-plain [] e = refl
body-plain (b ∷ bs) e = rw e

pub plain-short : (s : List ℕ) → length s < 2 → plain s ≡ true
unfolding plain
plain-short [] h = refl
plain-short (b ∷ []) h = refl
plain-short (b ∷ b' ∷ bs) h = absurd (omega arith)

pub plain-long : (s : List ℕ) → 2 ≤ length s → plain s ≡ not (eqb (get_or s 0 0) digit_zero)
unfolding plain
plain-long [] h = absurd (omega arith)
plain-long (b ∷ []) h = absurd (omega arith)
plain-long (b ∷ b' ∷ bs) h = refl

-- ---- what is left out leaves no more
body-shorter : (s : List ℕ) (t : Bool) → negative s ≡ t → length (body s) ≤ length s
body-shorter s true e = rw (body-minus s e, length-drop 1 s) (omega arith)
body-shorter s false e = rw (body-plain s e) (omega arith)

unpadded-by : (b : ℕ) (bs : List ℕ) (t : Bool) → eqb b space ≡ t → length (unpadded bs) ≤ length bs → length (unpadded (b ∷ bs)) ≤ length (b ∷ bs)
unfolding unpadded
unpadded-by b bs true e h = rw e (omega arith)
unpadded-by b bs false e h = rw e (omega arith)

pub unpadded-shorter : (s : List ℕ) → length (unpadded s) ≤ length s
unfolding unpadded
unpadded-shorter [] = omega arith
unpadded-shorter (b ∷ bs) = unpadded-by b bs (eqb b space) refl (unpadded-shorter bs)

pub body-unpadded : (s : List ℕ) → length (body (unpadded s)) ≤ length s
body-unpadded s = omega (arith, body-shorter (unpadded s) (negative (unpadded s)) refl, unpadded-shorter s)
