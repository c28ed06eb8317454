-- What is known of a digit's byte. Assumes nothing.
use mathlib.Core.Path.{◌≡◌, refl}
use mathlib.Core.Bool.{Bool, true, false}
use Prim.Native.Nat.{ℕ, ◌≤◌}
use native.Mathlib.Omega.{arith}
use lib.Dec.{leb}
use borrow.Author.Tests.{leb-true}
use Rattle.text.specs.Bytes.{is_digit}

pub apart : ◌≡◌ {A = Bool} false true → ⊥
apart h = let z : ◌≡◌ {A = ℕ} 0 1 = cc in omega arith

digit-by : (b : ℕ) (s t : Bool) → leb 48 b ≡ s → leb b 57 ≡ t → is_digit b ≡ true → (48 ≤ b) × (b ≤ 57)
unfolding is_digit
digit-by b true true e f h = (leb-true _ _ e, leb-true _ _ f)
digit-by b true false e f h = absurd (apart (rw (e, f) at h))
digit-by b false t e f h = absurd (apart (rw e at h))

pub digit-range : (b : ℕ) → is_digit b ≡ true → (48 ≤ b) × (b ≤ 57)
digit-range b = digit-by b (leb 48 b) (leb b 57) refl refl
