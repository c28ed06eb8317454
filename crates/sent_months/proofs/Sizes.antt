-- A size rounded to hundredths, with its minus unless that leaves 0, is what is sent. Assumes nothing.
use Rattle.std.proofs.Common.{◌≡◌, refl, ◌∙◌, true, false, ℕ, zero, suc, ◌+◌, ◌/◌, arith}
use lib.IntN.{pos, negsuc}
use Rattle.fields.specs.Field.{numbered}
use Rattle.exact.specs.Nearest.{nearest_ℕ, nearest}
use Rattle.sent_months.specs.Sent.{nearest_hundredths}
use Rattle.sent_months.specs.Signed.{sent_of}

near-ten : (n : ℕ) → nearest_ℕ n 10 ≡ (n + 5) / 10
unfolding nearest_ℕ
near-ten n = omega arith

pub sent-above : (n : ℕ) → numbered false ((n + 5) / 10) ≡ sent_of (nearest_hundredths (pos n))
unfolding nearest
sent-above n = rw (near-ten n) refl

below-by : (n k : ℕ) → nearest_ℕ (suc n) 10 ≡ suc k → numbered true (suc k) ≡ sent_of (nearest_hundredths (negsuc n))
unfolding nearest
below-by n k e = rw e refl

pub sent-below : (n : ℕ) → ((suc n + 5) / 10 ≡ 0 → ⊥) → numbered true ((suc n + 5) / 10) ≡ sent_of (nearest_hundredths (negsuc n))
sent-below n h = by ((suc n + 5) / 10) refl
  where
    by : (k : ℕ) → (suc n + 5) / 10 ≡ k → numbered true ((suc n + 5) / 10) ≡ sent_of (nearest_hundredths (negsuc n))
    by zero e = absurd (h e)
    by (suc k) e = rw e (below-by n k (near-ten (suc n) ∙ e))

pub sent-none : (n : ℕ) → (suc n + 5) / 10 ≡ 0 → numbered false ((suc n + 5) / 10) ≡ sent_of (nearest_hundredths (negsuc n))
unfolding nearest
sent-none n e = rw (near-ten (suc n), e) refl
