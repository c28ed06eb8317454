-- n moved away from zero by half of d, and divided toward zero, is the nearest to n / d. Assumes nothing.
use mathlib.Core.Path.{◌≡◌, sym, ap, subst}
use mathlib.Core.Bool.{true, false}
use Prim.Native.Nat.{ℕ, suc, ◌+◌, ◌/◌, ◌≤◌, ◌<◌}
use native.Mathlib.Omega.{arith}
use lib.Dec.{T, ltb}
use borrow.Author.Tests.{ltb-true}
use lib.IntN.{ℤ, pos, negsuc, neg_ℤ, nat_abs, ◌+ℤ◌, ◌-ℤ◌}
use lib.Signed.{lt_z, quot_z}
use mir.Syntax.{w64}
use mir.Val.{SFits}
use Rattle.exact.specs.Bounds.{most_rounded}
use Rattle.exact.specs.Nearest.{nearest, clip}
use Rattle.exact.proofs.Nearest.{near-half-added}
use Rattle.exact.proofs.Z.{zs}

-- m is n moved by half of d
abbrev pub Moved : ℤ → ℤ → ℤ → Type 0
Moved n d m = SFits w64 m × (quot_z m d ≡ nearest n (clip d))

pub moved_up : (n : ℤ) (b : ℕ) → 0 < b → SFits w64 (pos b) → nat_abs n ≤ most_rounded → lt_z n (pos 0) ≡ false → Moved n (pos b) (n +ℤ quot_z (pos b) (pos 2))
unfolding nearest
moved_up (pos a) b p f k h = (record { sfits = let g = f.sfits in omega arith }, ap pos (sym (near-half-added a b p)))
moved_up (negsuc a) b p f k h = absurd (subst T h tt)

minus-more : (a h : ℕ) → negsuc a -ℤ pos h ≡ negsuc (a + h)
minus-more a h = simp zs (omega arith)

pub moved_down : (n : ℤ) (b : ℕ) → 0 < b → SFits w64 (pos b) → nat_abs n ≤ most_rounded → lt_z n (pos 0) ≡ true → Moved n (pos b) (n -ℤ quot_z (pos b) (pos 2))
unfolding nearest
moved_down (pos a) b p f k h = absurd (no h)
  where
    no : ltb a 0 ≡ true → ⊥
    no h = omega (arith, ltb-true)
moved_down (negsuc a) b p f k h =
    let e : suc a + b / 2 ≡ suc (a + b / 2) = omega arith in
    rw minus-more (record { sfits = let g = f.sfits in omega arith }, ap (λ (m : ℕ). neg_ℤ (pos m)) (sym (rw e at (near-half-added (suc a) b p))))
