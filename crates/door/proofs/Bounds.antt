-- No reading gives more than 100 inches: what is in range, times per / of, is rounded to at most the range's end times per / of.
-- Assumes nothing.
use mathlib.Core.Path.{◌≡◌, refl, ap, ◌∙◌}
use mathlib.Core.Bool.{Bool, true, false, cond, not, ◌&&◌, ◌||◌}
use Prim.Native.Nat.{ℕ, ◌*◌, ◌≤◌, ◌<◌, zero-le}
use native.Mathlib.Nat.{le_trans, le_of_eq, mul-pos, mul-le-mul_right, mul_comm, mul_assoc, mul_right_comm}
use native.Mathlib.Omega.{arith}
use lib.IntN.{ℤ, pos, negsuc}
use lib.Dec.{T, leb, eqb, leb→le, lit<}
use lib.Ieee.{Float, nan, inf, fin, up, down}
use lib.Ieee.Fits.{and_r, down_pos}
use borrow.Author.Tests.{leb-true}
use Rattle.exact.specs.Nearest.{nearest_ℕ}
use Rattle.exact.proofs.Nearest.{near_within}
use Rattle.door.specs.Exact.{within, above_zero, nearest_to}
use Rattle.door.specs.Outcome.{accepted, traced, refused}
use Rattle.outline.specs.Refusals.{not_acceptable}
use Rattle.door.specs.Readings.{most_reading, fallen, whole, converted, inches, millimetres, reading}
use Rattle.door.specs.declared.Reading.{Reading}
use Rattle.door.specs.declared.Reading.TheVariants.{Whole, Inches, Millimetres, Missing}

-- n / d of at most k is rounded to at most k
near-most : (n d k : ℕ) → 0 < d → n ≤ k * d → nearest_ℕ n d ≤ k
near-most n d k D h = near_within n d k D (omega arith)

module _ (most per of k : ℕ) (O : 0 < of) (e : most * per ≡ k * of) where
  sized : (m u d : ℕ) → m * u ≤ most * d → m * u * per ≤ k * (d * of)
  sized m u d h =
      let a : most * d * per ≡ most * per * d = mul_right_comm most d per in
      let b : k * of * d ≡ k * (d * of) = mul_assoc k of d ∙ ap (λ (t : ℕ). k * t) (mul_comm of d) in
      le_trans (mul-le-mul_right per h) (le_of_eq (a ∙ ap (λ (t : ℕ). t * d) e ∙ b))

  nearest-most : (x : Float) → T (within most x) → nearest_to per of x ≤ k
  unfolding within nearest_to
  nearest-most nan h = absurd h
  nearest-most (inf s) h = absurd h
  nearest-most (fin s m x) h =
      near-most (m * up x * per) (down x * of) k (mul-pos (down_pos x) O)
      (sized m (up x) (down x) (leb→le (m * up x) (most * down x) (and_r (not s || eqb m 0) (leb (m * up x) (most * down x)) h)))

  picked : (t : Bool) (x : Float) → (T t → nearest_to per of x ≤ k) → (cond t (fallen (above_zero x) (nearest_to per of x)) (refused not_acceptable)).water ≤ k
  picked true x f = go (above_zero x && eqb (nearest_to per of x) 0) (f tt)
    where
      go : (b : Bool) {n : ℕ} → n ≤ k → (cond b traced (accepted n)).water ≤ k
      go true h = zero-le
      go false h = h
  picked false x f = zero-le

  pub converted-most : (x : Float) → (converted most per of x).water ≤ k
  unfolding converted
  converted-most x = picked (within most x) x (nearest-most x)

pub inches-most : (x : Float) → (inches x).water ≤ most_reading
unfolding inches
inches-most x = converted-most 100 1000 1 most_reading (lit< tt) refl x

millimetres-most : (x : Float) → (millimetres x).water ≤ most_reading
unfolding millimetres
millimetres-most x = converted-most 2540 5000 127 most_reading (lit< tt) refl x

whole-most : (n : ℤ) → (whole n).water ≤ most_reading
unfolding whole
whole-most (pos n) = go (leb n most_reading) refl
  where
    go : (t : Bool) → leb n most_reading ≡ t → (cond t (accepted n) (refused not_acceptable)).water ≤ most_reading
    go true h = leb-true n most_reading h
    go false h = zero-le
whole-most (negsuc n) = zero-le

-- "whole thousandths (0 to 100,000)", "0 to 100", "0 to 2,540": no answer is above 100,000 thousandths
pub reading-most : (r : Reading) → (reading r).water ≤ most_reading
unfolding reading
reading-most (Whole n) = whole-most n
reading-most (Inches x) = inches-most x
reading-most (Millimetres x) = millimetres-most x
reading-most Missing = zero-le
