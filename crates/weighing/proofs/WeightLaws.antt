-- The laws of the twelve first weights: each is in its range, and so neither it nor what is reckoned with it passes 64 bits. Assumes nothing.
use mathlib.Core.Path.{◌≡◌, refl}
use mathlib.Core.Bool.{true}
use mathlib.Core.List.{List}
use Prim.Native.Nat.{ℕ, ◌+◌, ◌*◌, ◌≤◌, ◌<◌}
use native.Mathlib.Numerals.{add-one}
use native.Mathlib.Omega.{arith}
use lib.Dec.{T}
use lib.IntN.{ℤ, pos}
use lib.ListN.{get_or}
use lib.Signed.{◌≤ℤ◌, non_neg}
use mir.Syntax.{w64}
use mir.Val.{Fits}
use Rattle.outline.specs.Numbers.{last_month}
use Rattle.outline.proofs.Every.{all-at}
use Rattle.exact.proofs.Z.{zs, is-Z}
use Rattle.water.specs.Constants.{most_k}
use Rattle.kept_rows.specs.KeptRows.{amount_fits}
use Rattle.kept_rows.proofs.Ranges.{Amount, amount-is}
use Rattle.weighing.specs.Weighing.{weight_at, weights_fit, products}

-- each weight is in its range
pub weight_is : (weights : List ℤ) (m : ℕ) → weights_fit weights last_month ≡ true → m < last_month → Amount most_k (get_or weights m (pos 0))
weight_is weights m h b = amount-is most_k (get_or weights m (pos 0)) (all-at (λ i. amount_fits most_k (get_or weights i (pos 0))) last_month m h b)

pub weight-most : (weights : List ℤ) (m : ℕ) → weights_fit weights last_month ≡ true → m < last_month → weight_at weights m ≤ most_k
weight-most weights m h b = (weight_is weights m h b).1

-- and is read as it stands
pub weight-wide : (weights : List ℤ) (m : ℕ) → weights_fit weights last_month ≡ true → m < last_month → T (non_neg (get_or weights m (pos 0))) × Fits w64 (weight_at weights m)
weight-wide weights m h b = let a = weight_is weights m h b in (above (get_or weights m (pos 0)) a.0, omega (arith, a.1))
  where
    above : (x : ℤ) → pos 0 ≤ℤ x → T (non_neg x)
    above x = rw (is-Z x) (simp zs (omega arith))

-- ---- the sum of D K'
module _ (means : List ℕ) (weights : List ℤ) where
  pub products-none : products means weights 0 ≡ 0
  unfolding products
  products-none = refl

  pub products-more : (m : ℕ) → products means weights (m + 1) ≡ products means weights m + get_or means m 0 * weight_at weights m
  unfolding products
  products-more m = rw (add-one m) refl
