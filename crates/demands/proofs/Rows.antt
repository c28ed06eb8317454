-- Months that columns hold. Assumes nothing.
use mathlib.Core.Path.{◌≡◌, ap, ◌∙◌}
use Prim.Native.Nat.{ℕ, zero, suc, ◌+◌, ◌<◌}
use native.Mathlib.Nat.{not-suc-le-zero, le_of_suc-le-suc}
use native.Mathlib.Omega.{arith}
use lib.ListN.{get_or}
use Rattle.hindsight.specs.Rule.{X}
use Rattle.hindsight.specs.Columns.{xs_from}

-- the month at a place of those that columns hold
pub get_d-xs : (f : ℕ → X) (i n j : ℕ) (d : X) → j < n → get_or (xs_from f i n) j d ≡ f (i + j)
get_d-xs f i zero j d h = absurd (not-suc-le-zero h)
get_d-xs f i (suc n) zero d h = ap f (add i)
  where
    add : (i : ℕ) → i ≡ i + 0
    add i = omega arith
get_d-xs f i (suc n) (suc j) d h = get_d-xs f (suc i) n j d (le_of_suc-le-suc h) ∙ ap f (add i j)
  where
    add : (i j : ℕ) → suc i + j ≡ i + suc j
    add i j = omega arith
