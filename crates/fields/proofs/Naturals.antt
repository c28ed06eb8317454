-- The number that digits make is below the power of ten of their count, and what it means that bytes make one. Assumes nothing.
use mathlib.Core.Path.{◌≡◌, refl, sym, ap}
use mathlib.Core.Bool.{Bool, true, false}
use mathlib.Core.List.{List, [], ◌∷◌, foldl}
use Prim.Native.Nat.{ℕ, zero, suc, ◌+◌, ◌^◌, ◌≤◌, ◌<◌}
use native.Mathlib.Nat.{pow-suc}
use native.Mathlib.Omega.{arith}
use lib.ListN.{length}
use Rattle.text.specs.Bytes.{is_digit, all_digits, and_digit, natural}
use Rattle.text.proofs.Digits.{apart, digit-range}
use Rattle.fields.specs.Field.{digits_of}
use Rattle.std.specs.Prelude.{Option, Some, None}

pub one_more : (n k b : ℕ) → n < 10 ^ k → is_digit b ≡ true → and_digit n b < 10 ^ suc k
one_more n k b h e = omega (arith, pow-suc 10 k, digit-range b e)

-- below the power of ten of at most four places
pub places : (n k : ℕ) → n < 10 ^ k → k ≤ 4 → n < 10000
places n zero h e = omega arith
places n (suc zero) h e = omega arith
places n (suc (suc zero)) h e = omega arith
places n (suc (suc (suc zero))) h e = omega arith
places n (suc (suc (suc (suc zero)))) h e = omega arith
places n (suc (suc (suc (suc (suc k))))) h e = absurd (omega arith)

folded-by : (n b : ℕ) (bs : List ℕ) (k : ℕ) (t : Bool) → is_digit b ≡ t → ((m : ℕ) → m < 10 ^ suc k → all_digits bs ≡ true → foldl and_digit m bs < 10 ^ (suc k + length bs)) → n < 10 ^ k → all_digits (b ∷ bs) ≡ true → foldl and_digit (and_digit n b) bs < 10 ^ (suc k + length bs)
unfolding all_digits
folded-by n b bs k true e rest h d = rest (and_digit n b) (one_more n k b h e) (rw e at d)
folded-by n b bs k false e rest h d = absurd (apart (rw e at d))

folded : (bs : List ℕ) (n k : ℕ) → n < 10 ^ k → all_digits bs ≡ true → foldl and_digit n bs < 10 ^ (k + length bs)
folded [] n k h d = rw (zero_right k) h
  where
    zero_right : (k : ℕ) → k + 0 ≡ k
    zero_right k = omega arith
folded (b ∷ bs) n k h d = rw (moved k (length bs)) (folded-by n b bs k (is_digit b) refl (λ m. folded bs m (suc k)) h d)
  where
    moved : (k l : ℕ) → k + suc l ≡ suc k + l
    moved k l = omega arith

pub bounded : (bs : List ℕ) → all_digits bs ≡ true → natural bs < 10 ^ length bs
unfolding natural
bounded bs d = rw (zero_left (length bs)) at (folded bs 0 0 (omega arith) d)
  where
    zero_left : (k : ℕ) → 0 + k ≡ k
    zero_left k = omega arith

-- at most four digits make a number below 10,000
pub natural-small : (bs : List ℕ) → length bs ≤ 4 → all_digits bs ≡ true → natural bs < 10000
natural-small bs l d = places (natural bs) (length bs) (bounded bs d) l

-- ---- what `digits_of` tells
abbrev is_made : Option ℕ → Bool
is_made (Some n) = true
is_made None = false

abbrev made_of : Option ℕ → ℕ
made_of (Some n) = n
made_of None = 0

made_by : (bs : List ℕ) (n : ℕ) (t : Bool) → all_digits bs ≡ t → digits_of bs ≡ Some n → (all_digits bs ≡ true) × (natural bs ≡ n)
unfolding digits_of
made_by bs n true e h = (e, ap made_of (rw e at h))
made_by bs n false e h = absurd (apart (ap is_made (rw e at h)))

pub made-digits : (bs : List ℕ) (n : ℕ) → digits_of bs ≡ Some n → (all_digits bs ≡ true) × (natural bs ≡ n)
made-digits bs n h = made_by bs n (all_digits bs) refl h

other-by : (bs : List ℕ) (t : Bool) → all_digits bs ≡ t → digits_of bs ≡ None → all_digits bs ≡ false
unfolding digits_of
other-by bs true e h = absurd (apart (sym (ap is_made (rw e at h))))
other-by bs false e h = e

pub other-digits : (bs : List ℕ) → digits_of bs ≡ None → all_digits bs ≡ false
other-digits bs h = other-by bs (all_digits bs) refl h
