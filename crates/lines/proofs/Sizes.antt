-- What is known of a size as it is kept, and of the number that a sign and a size make. The idea: a size above the range stays above it
-- whatever digit follows, so holding it loses nothing. Assumes nothing.
use mathlib.Core.Path.{◌≡◌, refl}
use mathlib.Core.Bool.{Bool, true, false}
use Prim.Native.Nat.{ℕ, ◌+◌, ◌≤◌, ◌<◌}
use native.Mathlib.Omega.{arith}
use lib.IntN.{nat_abs}
use lib.Dec.{leb}
use borrow.Author.Tests.{leb-true, leb-false, le-leb, lt-leb}
use Rattle.outline.specs.Numbers.{most_z, z_fits}
use Rattle.exact.proofs.Z.{abs-minus}
use Rattle.text.specs.Bytes.{and_digit}
use Rattle.lines.specs.Line.{signed, ranged, accepted, refused}
use Rattle.outline.specs.Refusals.{bad_z}
use Rattle.lines.specs.Reading.{held}

-- ---- a size as it is kept
pub held_in : (n : ℕ) → n ≤ most_z → held n ≡ n
unfolding held
held_in n h = rw (le-leb n most_z h)

pub held_out : (n : ℕ) → most_z < n → held n ≡ most_z + 1
unfolding held
held_out n h = rw (lt-leb n most_z h)

held_by : (n b : ℕ) (t : Bool) → leb n most_z ≡ t → held (and_digit (held n) b) ≡ held (and_digit n b)
held_by n b true e = rw (held_in n (leb-true _ _ e))
held_by n b false e =
    let h = leb-false n most_z e in
    rw (held_out n h, held_out (and_digit (most_z + 1) b) (omega arith), held_out (and_digit n b) (omega arith))

-- one digit more after a size that is held is one digit more after the size itself
pub held-digit : (n b : ℕ) → held (and_digit (held n) b) ≡ held (and_digit n b)
held-digit n b = held_by n b (leb n most_z) refl

-- ---- a sign and a size
pub signed-size : (m : Bool) (n : ℕ) → nat_abs (signed m n) ≡ n
unfolding signed
signed-size true n = abs-minus n
signed-size false n = refl

pub ranged-in : (m : Bool) (n : ℕ) → n ≤ most_z → ranged (signed m n) ≡ accepted (signed m n)
unfolding ranged z_fits
ranged-in m n h = rw (signed-size m n, le-leb n most_z h)

pub ranged-out : (m : Bool) (n : ℕ) → most_z < n → ranged (signed m n) ≡ refused bad_z
unfolding ranged z_fits
ranged-out m n h = rw (signed-size m n, lt-leb n most_z h)
