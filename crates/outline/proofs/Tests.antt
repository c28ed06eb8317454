-- The outcomes of tests: what a passed or failed call says, and a chain of tests joined by "and". Assumes nothing.
use mathlib.Core.Path.{◌≡◌, refl, sym, ◌∙◌}
use mathlib.Core.Bool.{Bool, true, false, not, ◌&&◌, cond, false≢true}
use Prim.Native.Nat.{ℕ, suc, ◌≤◌}
use native.Mathlib.Omega.{arith}
use lib.IntN.{ℤ, nat_abs}
use borrow.Author.Tests.{not-true, not-false, leb-true, le-leb}
use Rattle.outline.specs.Numbers.{most_z, z_fits}

-- `if !f(..)`, taken and left: what f answers with is false, and true
pub fails : {t u : Bool} → t ≡ u → not t ≡ true → u ≡ false
fails {t} e h = sym e ∙ not-true t h

pub passes : {t u : Bool} → t ≡ u → not t ≡ false → u ≡ true
passes {t} e h = sym e ∙ not-false t h

-- two tests that come out alike
pub alike : (a b : Bool) → (a ≡ true → b ≡ true) → (a ≡ false → b ≡ false) → a ≡ b
alike true b p q = sym (p refl)
alike false b p q = sym (q refl)

-- a test comes out one way or the other
pub if-so : {A : Type 0} (t : Bool) → (t ≡ true → A) → (t ≡ false → A) → A
if-so true p q = p refl
if-so false p q = q refl

-- both of two, and each
pub both : {a b : Bool} → a ≡ true → b ≡ true → (a && b) ≡ true
both p q = rw (p, q)

pub each : (a b : Bool) → (a && b) ≡ true → (a ≡ true) × (b ≡ true)
each true b h = (refl, h)
each false b h = absurd (false≢true h)

pub first : (a b : Bool) → (a && b) ≡ true → a ≡ true
first a b h = (each a b h).0

pub second : (a b : Bool) → (a && b) ≡ true → b ≡ true
second a b h = (each a b h).1

-- a test that refuses with some number, and has not
pub cond-zero : (t : Bool) (k : ℕ) → cond t 0 (suc k) ≡ 0 → t ≡ true
cond-zero true k h = refl
cond-zero false k h = absurd (omega arith)

-- a Z in its range
pub z-within : (z : ℤ) → z_fits z ≡ true → nat_abs z ≤ most_z
unfolding z_fits
z-within z e = leb-true (nat_abs z) most_z e

pub within-z : (z : ℤ) → nat_abs z ≤ most_z → z_fits z ≡ true
unfolding z_fits
within-z z h = le-leb (nat_abs z) most_z h
