-- The orders of signed numbers: what a test comes out as, from the fact that it tests. Assumes nothing.
use mathlib.Core.Path.{◌≡◌}
use mathlib.Core.Bool.{true, false}
use Prim.Native.Nat.{ℕ}
use native.Mathlib.Omega.{arith}
use lib.Dec.{le→leb}
use lib.IntN.{ℤ, pos}
use lib.Signed.{le_z, lt_z, ◌≤ℤ◌, ◌<ℤ◌}
use Rattle.exact.proofs.Z.{zs, is-Z}

pub le_is : (a b : ℤ) → a ≤ℤ b → le_z a b ≡ true
le_is a b = rw (is-Z a, is-Z b) (simp zs (omega arith))

pub le_not : (a b : ℤ) → b <ℤ a → le_z a b ≡ false
le_not a b = rw (is-Z a, is-Z b) (simp zs (omega arith))

pub lt-is : (a b : ℤ) → a <ℤ b → lt_z a b ≡ true
lt-is a b = rw (is-Z a, is-Z b) (simp zs (omega arith))

pub lt_not : (a b : ℤ) → b ≤ℤ a → lt_z a b ≡ false
lt_not a b = rw (is-Z a, is-Z b) (simp zs (omega arith))

-- what is below is at most
pub lt-le : (a b : ℤ) → a <ℤ b → le_z a b ≡ true
lt-le a b = rw (is-Z a, is-Z b) (simp zs (omega arith))

pub natural : (n : ℕ) → pos 0 ≤ℤ pos n
natural n = record { le = le→leb 0 n (omega arith) }
