-- `exact::nearest_signed` meets its contract: n moved away from zero by half of d, and divided toward zero.
-- Assumes nothing.
use borrow.Author.Rules.{rules}
use mathlib.Core.Path.{◌≡◌, sym, ◌∙◌, subst}
use mathlib.Core.Bool.{true, false}
use Prim.Native.Nat.{ℕ, ◌≤◌, ◌<◌}
use native.Mathlib.Omega.{arith}
use lib.Dec.{T}
use borrow.Author.Tests.{leb-true, leb-false}
use lib.IntN.{ℤ, pos, negsuc, ◌+ℤ◌, ◌-ℤ◌}
use lib.Signed.{le_z, lt_z, quot_z}
use mir.Syntax.{w64}
use mir.Val.{SFits, to_z, of_z}
use mir.Facts.{to_z-of_z}
use Rattle.exact.specs.Nearest.{nearest, clip}
use Rattle.exact.proofs.Nearest.{nearest-none}
use Rattle.exact.proofs.Held.{quot_fits, held}
use Rattle.exact.proofs.Moved.{Moved, moved_up, moved_down}
use Rattle.exact.proofs.nearest_signed.Goals as goal
use Rattle.exact.proofs.nearest_signed.Goals.{then-n-lt0, else-n-lt0}

-- d is not above 0
none : (n d : ℤ) → le_z d (pos 0) ≡ true → pos 0 ≡ nearest n (clip d)
none n (pos b) h = rw (zero (leb-true b 0 h)) (sym (nearest-none n))
  where
    zero : b ≤ 0 → b ≡ 0
    zero g = omega arith
none n (negsuc b) h = sym (nearest-none n)

-- d is above 0
by-d : (P : ℤ → Type 0) → ((b : ℕ) → 0 < b → P (pos b)) → (d : ℤ) → le_z d (pos 0) ≡ false → P d
by-d P f (pos b) h = f b (leb-false b 0 h)
by-d P f (negsuc b) h = absurd (subst T h tt)

pub returns-then-d-le0 : goal.returns-then-d-le0
returns-then-d-le0 c =
    let fd = c.ranges.d in
    none c.args.n c.args.d (simp to_z-of_z at c.if-d-le0.true)

-- d is above 0
above : (c : goal.Else-d-le0) → (P : ℤ → Type 0) → ((b : ℕ) → 0 < b → P (pos b)) → P c.args.d
above c P f = let fd = c.ranges.d in by-d P f c.args.d (simp to_z-of_z at c.if-d-le0.false)

half : (c : goal.Else-d-le0) → SFits w64 (quot_z c.args.d (pos 2))
half c = quot_fits w64 c.args.d 2 c.ranges.d

pub nonzero_div-half : goal.nonzero_div-half
nonzero_div-half c = search held

down : (c : goal.Else-d-le0) → lt_z (to_z w64 (of_z w64 c.args.n)) (pos 0) ≡ true → Moved c.args.n c.args.d (c.args.n -ℤ quot_z c.args.d (pos 2))
down c h =
    let fn = c.ranges.n in
    above c (λ d. SFits w64 d → Moved c.args.n d (c.args.n -ℤ quot_z d (pos 2)))
    (λ b p f. moved_down c.args.n b p f c.requires (simp to_z-of_z at h)) c.ranges.d

up : (c : goal.Else-d-le0) → lt_z (to_z w64 (of_z w64 c.args.n)) (pos 0) ≡ false → Moved c.args.n c.args.d (c.args.n +ℤ quot_z c.args.d (pos 2))
up c h =
    let fn = c.ranges.n in
    above c (λ d. SFits w64 d → Moved c.args.n d (c.args.n +ℤ quot_z d (pos 2)))
    (λ b p f. moved_up c.args.n b p f c.requires (simp to_z-of_z at h)) c.ranges.d

pub overflow_sub-m : goal.overflow_sub-m
overflow_sub-m c = let h = half c.before in let m = (down c.before c.if-n-lt0.true).0 in search rules

pub overflow_add-m : goal.overflow_add-m
overflow_add-m c = let h = half c.before in let m = (up c.before c.if-n-lt0.false).0 in search rules

moved : (c : goal.Joined-n-lt0) → Moved c.args.n c.args.d (to_z w64 c.if-n-lt0.m-bits)
moved c =
    let h = half c.before in
    elim c.if-n-lt0.branch [
      | then-n-lt0 w ↦ (
          let m = down c.before w.if-n-lt0.true in
          let f = m.0 in
          let e : to_z w64 c.if-n-lt0.m-bits ≡ c.args.n -ℤ quot_z c.args.d (pos 2) = w.m-is ∙ (search rules) in
          rw e m
          )
      | else-n-lt0 w ↦ (
          let m = up c.before w.if-n-lt0.false in
          let f = m.0 in
          let e : to_z w64 c.if-n-lt0.m-bits ≡ c.args.n +ℤ quot_z c.args.d (pos 2) = w.m-is ∙ (search rules) in
          rw e m
          )
    ]

-- the quotient fits, since m does
fit : (c : goal.Joined-n-lt0) → (0 < of_z w64 c.args.d) × SFits w64 (quot_z (to_z w64 c.if-n-lt0.m-bits) c.args.d)
fit c =
    let m = to_z w64 c.if-n-lt0.m-bits in
    above c.before (λ d. (0 < of_z w64 d) × SFits w64 (quot_z m d)) (λ b p. (p, quot_fits w64 m b (moved c).0))

pub nonzero_div-result : goal.nonzero_div-result
nonzero_div-result c = let f = fit c in search rules

pub returns : goal.returns
returns c = let f = (fit c).1 in let fd = c.ranges.d in simp to_z-of_z (moved c).1
