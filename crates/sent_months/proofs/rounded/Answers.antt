-- `sent_months::rounded`: the size is rounded, and its minus kept unless that leaves 0. Assumes nothing.
use Rattle.std.proofs.Common.{◌≡◌, refl, ap, ◌∙◌, Bool, true, false, ℕ, ◌+◌, ◌/◌, suc, nat_eq, arith}
use mathlib.Core.Bool.{not}
use lib.IntN.{ℤ, pos, negsuc}
use lib.Signed.{lt_z}
use mir.Facts.{to_z-of_z}
use borrow.Author.Tests.{eqb-true, eqb-false}
use Rattle.std.specs.Prelude.{unsigned_abs}
use Rattle.exact.proofs.Z.{Z, zs, Z-pos, Z-negsuc}
use Rattle.fields.specs.Field.{numbered}
use Rattle.sent_months.specs.Sent.{nearest_hundredths}
use Rattle.sent_months.specs.Signed.{sent_of}
use Rattle.sent_months.proofs.Sizes.{sent-above, sent-below, sent-none}
use Rattle.sent_months.proofs.rounded.Goals as goal

-- ---- below 0, and not
below-by : (n : ℕ) (t : Bool) → nat_eq ((suc n + 5) / 10) 0 ≡ t → numbered (not t) ((suc n + 5) / 10) ≡ sent_of (nearest_hundredths (negsuc n))
below-by n true e = sent-none n (eqb-true _ _ e)
below-by n false e = sent-below n (eqb-false _ _ e)

below : (x : ℤ) (u : ℕ) → u ≡ unsigned_abs x → lt_z x (pos 0) ≡ true → numbered (not (nat_eq ((u + 5) / 10) 0)) ((u + 5) / 10) ≡ sent_of (nearest_hundredths x)
below (pos n) u e h = absurd (not-below (pos n) n (Z-pos n) h)
  where
    not-below : (x : ℤ) (n : ℕ) → x ≡ Z n 0 → lt_z x (pos 0) ≡ true → ⊥
    not-below x n p = rw p (simp zs (λ h. omega arith))
below (negsuc n) u e h = rw e (below-by n (nat_eq ((suc n + 5) / 10) 0) refl)

above : (x : ℤ) (u : ℕ) → u ≡ unsigned_abs x → lt_z x (pos 0) ≡ false → numbered false ((u + 5) / 10) ≡ sent_of (nearest_hundredths x)
above (pos n) u e h = rw e (sent-above n)
above (negsuc n) u e h = absurd (not-above (negsuc n) n (Z-negsuc n) h)
  where
    not-above : (x : ℤ) (n : ℕ) → x ≡ Z 0 (suc n) → lt_z x (pos 0) ≡ false → ⊥
    not-above x n p = rw p (simp zs (λ h. omega arith))

pub returns-then-thousandths-lt0 : goal.returns-then-thousandths-lt0
returns-then-thousandths-lt0 c =
    below c.args.thousandths c.unsigned_abs.result (c.unsigned_abs.ensures.value ∙ ap unsigned_abs (to_z-of_z c.ranges.thousandths)) (rw (to_z-of_z c.ranges.thousandths) at c.if-thousandths-lt0.true)

pub returns-else-thousandths-lt0 : goal.returns-else-thousandths-lt0
returns-else-thousandths-lt0 c =
    rw c.if-thousandths-lt0.false
    (above c.args.thousandths c.unsigned_abs.result (c.unsigned_abs.ensures.value ∙ ap unsigned_abs (to_z-of_z c.ranges.thousandths)) (rw (to_z-of_z c.ranges.thousandths) at c.if-thousandths-lt0.false))
