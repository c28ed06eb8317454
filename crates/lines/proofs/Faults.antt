-- Where a line is at fault: the place that is told is the first byte that spoils it, so a line that is no whole number is told a byte, or it
-- has no digit to tell of (`told`, which stands last). The idea: the digits in front are all of a list exactly where all of it are digits.
-- Assumes nothing.
use mathlib.Core.Path.{◌≡◌, refl}
use mathlib.Core.Bool.{Bool, true, false}
use mathlib.Core.List.{List, [], ◌∷◌}
use Prim.Native.Nat.{ℕ, ◌+◌, ◌<◌}
use native.Mathlib.Numerals.{add-one}
use native.Mathlib.Omega.{arith}
use lib.ListN.{length, drop, get_or}
use lib.Dec.{eqb}
use lib.Seq.{drop-cons}
use Rattle.text.specs.Bytes.{minus_sign, is_digit, all_digits, negative, body}
use Rattle.lines.specs.Line.{one_or_more, well_formed}
use Rattle.lines.specs.Fault.{sign_length, digits_in, spoiled_at}

-- ---- the sign
-- what is left without the sign
body-by : (b : ℕ) (bs : List ℕ) (t : Bool) → eqb b minus_sign ≡ t → drop (sign_length (b ∷ bs)) (b ∷ bs) ≡ body (b ∷ bs)
unfolding sign_length negative body
body-by b bs true e = rw e
body-by b bs false e = rw e

pub after-sign : (line : List ℕ) → drop (sign_length line) line ≡ body line
unfolding sign_length negative body
after-sign [] = refl
after-sign (b ∷ bs) = body-by b bs (eqb b minus_sign) refl

sign-by : (b : ℕ) (bs : List ℕ) (t : Bool) → eqb b minus_sign ≡ t → sign_length (b ∷ bs) + length (body (b ∷ bs)) ≡ length (b ∷ bs)
unfolding sign_length negative body
sign-by b bs true e = rw e (omega arith)
sign-by b bs false e = rw e (omega arith)

pub sign-and-body : (line : List ℕ) → sign_length line + length (body line) ≡ length line
unfolding sign_length negative body
sign-and-body [] = refl
sign-and-body (b ∷ bs) = sign-by b bs (eqb b minus_sign) refl

-- ---- the digits in front
pub one-digit : (bs : List ℕ) (i : ℕ) → i < length bs → is_digit (get_or bs i 0) ≡ true → digits_in (drop i bs) ≡ 1 + digits_in (drop (i + 1) bs)
unfolding digits_in
one-digit bs i h e = rw (add-one, drop-cons bs i 0 h, e)

pub no_digit : (bs : List ℕ) (i : ℕ) → i < length bs → is_digit (get_or bs i 0) ≡ false → digits_in (drop i bs) ≡ 0
unfolding digits_in
no_digit bs i h e = rw (drop-cons bs i 0 h, e)

some-other : (b : ℕ) (bs : List ℕ) (t : Bool) → is_digit b ≡ t → (all_digits bs ≡ false → digits_in bs < length bs) → all_digits (b ∷ bs) ≡ false → digits_in (b ∷ bs) < length (b ∷ bs)
unfolding digits_in all_digits
some-other b bs true e next h = let n = next (rw e at h) in rw e (omega arith)
some-other b bs false e next h = rw e (omega arith)

stops : (bs : List ℕ) → all_digits bs ≡ false → digits_in bs < length bs
unfolding all_digits
stops [] h = let z : ◌≡◌ {A = ℕ} 0 1 = cc in absurd (omega arith)
stops (b ∷ bs) h = some-other b bs (is_digit b) refl (stops bs) h

-- a line that is no whole number, and has something after its sign, has a byte at the place that is told
pub told : (line : List ℕ) → well_formed line ≡ false → one_or_more (body line) ≡ true → spoiled_at line < length line
unfolding well_formed spoiled_at
told line h e = let s = stops (body line) (rw e at h) in omega (arith, sign-and-body line)
