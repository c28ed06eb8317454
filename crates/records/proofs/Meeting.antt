-- The last record ends where the run stands: after no month, after some, and what it comes to as facts. Assumes nothing.
use mathlib.Core.Path.{◌≡◌, refl, ap}
use mathlib.Core.Bool.{true, ◌&&◌, false≢true}
use mathlib.Core.List.{List}
use Prim.Native.Nat.{ℕ, zero, suc, ◌-◌}
use native.Mathlib.Numerals.{unary_clauses}
use lib.IntN.{ℤ, pos, negsuc}
use borrow.Author.Tests.{eqb-true, eq-eqb}
use Rattle.outline.proofs.Tests.{both, each}
use Rattle.water.specs.declared.Soil.{Soil}
use Rattle.records.specs.Record.{record_at}
use Rattle.records.specs.Ends.{amounts, ends_meet}

module _ (s : Soil) (records : List (List ℤ)) where
  pub after_none : (n : ℕ) → n ≡ 0 → ends_meet n s records ≡ true
  unfolding ends_meet
  after_none n e = rw e

  pub after-some : (n : ℕ) → (n ≡ 0 → ⊥)
      → ends_meet n s records ≡ (amounts (record_at records (n - 1)).surface s.surface && amounts (record_at records (n - 1)).underlying s.underlying)
  unfolding ends_meet
  after-some zero h = absurd (h refl)
  after-some (suc n) h = simp unary_clauses refl

-- a number that is an amount, and back
pub amounts-to : (n : ℤ) (k : ℕ) → amounts n k ≡ true → n ≡ pos k
unfolding amounts
amounts-to (pos m) k h = ap pos (eqb-true m k h)
amounts-to (negsuc m) k h = absurd (false≢true h)

pub amounts-of : (n : ℤ) (k : ℕ) → n ≡ pos k → amounts n k ≡ true
unfolding amounts
amounts-of n k e = rw e (eq-eqb k k refl)

module _ (n : ℕ) (s : Soil) (records : List (List ℤ)) where
  -- after a month
  pub ends-are : ends_meet (suc n) s records ≡ true → ((record_at records n).surface ≡ pos s.surface) × ((record_at records n).underlying ≡ pos s.underlying)
  unfolding ends_meet
  ends-are h =
      let a = each (amounts (record_at records n).surface s.surface) (amounts (record_at records n).underlying s.underlying) h in
      (amounts-to _ _ a.0, amounts-to _ _ a.1)

  pub are-ends : (record_at records n).surface ≡ pos s.surface → (record_at records n).underlying ≡ pos s.underlying → ends_meet (suc n) s records ≡ true
  unfolding ends_meet
  are-ends p q = both (amounts-of _ _ p) (amounts-of _ _ q)
