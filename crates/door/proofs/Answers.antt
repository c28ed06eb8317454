-- What the code's branches have to show: a trace and what is none, `converted` where its range test passes and where it fails, and `whole`.
-- Assumes nothing.
use mathlib.Core.Path.{◌≡◌, refl, sym, ap, ap₂, ◌∙◌, subst}
use mathlib.Core.Bool.{Bool, true, false, cond, ◌&&◌, true≢false, false≢true}
use Prim.Native.Nat.{ℕ, zero-le, ◌*◌, ◌^◌, ◌<◌, ◌≤◌}
use native.Mathlib.Nat.{lt_of_le_of_lt}
use lib.IntN.{ℤ, pos, negsuc, nat_abs}
use lib.Signed.{le_z, non_neg}
use lib.Dec.{T, eqb, lit<}
use lib.Ieee.{Float, binary32, le, of_bits}
use mir.Syntax.{w32}
use mir.Val.{Fits}
use borrow.Author.Tests.{leb-true, le-leb, eq-eqb, ne_eqb}
use Rattle.door.specs.Exact.{within, above_zero, nearest_to}
use Rattle.door.specs.Outcome.{Outcome, accepted, traced, refused}
use Rattle.outline.specs.Refusals.{not_acceptable}
use Rattle.door.proofs.Range.{at, inside, over, under, widened}
use Rattle.door.specs.Readings.{fallen, converted, whole, most_reading}

-- the two tests `n != 0` and `above_zero(x)`: the first passes, only the second, or neither
module _ (x : Float) (n : ℕ) where
  abbrev told : Bool → Bool → Outcome
  told above dry = cond (above && dry) traced (accepted n)

  pub is-trace : n ≡ 0 → above_zero x ≡ true → traced ≡ fallen (above_zero x) n
  is-trace e p = sym (ap₂ told p (eq-eqb n 0 e))

  pub not-above : above_zero x ≡ false → accepted n ≡ fallen (above_zero x) n
  not-above p = sym (ap (λ (b : Bool). told b (eqb n 0)) p)

  pub not-dry : (n ≡ 0 → ⊥) → accepted n ≡ fallen (above_zero x) n
  not-dry h = sym (ap (told (above_zero x)) (ne_eqb n 0 h) ∙ neither (above_zero x))
    where
      neither : (b : Bool) → told b false ≡ accepted n
      neither true = refl
      neither false = refl

-- the two tests `x >= 0.0` and `x <= MOST`, of which MOST is n * 2 ^ d and has the pattern b
module _ (n d b : ℕ) (N : 0 < n * 2 ^ d) (is : of_bits binary32 b ≡ at n d) (per of : ℕ) (x : Float) where
  abbrev picked : Bool → Outcome
  picked t = cond t (fallen (above_zero x) (nearest_to per of x)) (refused not_acceptable)

  pub taken_in : (o : Outcome) (r : ℕ) → le (of_bits binary32 0) x ≡ true → le x (of_bits binary32 b) ≡ true → r ≡ nearest_to per of x → o ≡ fallen (above_zero x) r → o ≡ converted (n * 2 ^ d) per of x
  unfolding converted
  taken_in o r p q e f = f ∙ ap (fallen (above_zero x)) e ∙ sym (ap picked (inside n d b N is x p q))

  pub too_much : le (of_bits binary32 0) x ≡ true → le x (of_bits binary32 b) ≡ false → refused not_acceptable ≡ converted (n * 2 ^ d) per of x
  unfolding converted
  too_much p q = sym (ap picked (over n d b N is x p q))

  pub no_water : le (of_bits binary32 0) x ≡ false → refused not_acceptable ≡ converted (n * 2 ^ d) per of x
  unfolding converted
  no_water p = sym (ap picked (under n d b N is x p))

  -- what `nearest_to` asks
  pub let-in : n * 2 ^ d ≤ 2540 → le (of_bits binary32 0) x ≡ true → le x (of_bits binary32 b) ≡ true → T (within 2540 x)
  let-in h p q = widened (n * 2 ^ d) 2540 h x (subst T (sym (inside n d b N is x p q)) tt)

-- ---- whole thousandths, where z is the signed number n as the machine reads it back

pub counted : (z : ℤ) → le_z (pos 0) z ≡ true → le_z z (pos most_reading) ≡ true → T (non_neg z) × Fits w32 (nat_abs z)
counted (pos n) h k = (tt, record { fits = lt_of_le_of_lt (leb-true n most_reading k) (lit< tt) })
counted (negsuc n) h k = absurd (false≢true h)

module _ (z n : ℤ) (e : z ≡ n) where
  pub counted_is : le_z (pos 0) z ≡ true → le_z z (pos most_reading) ≡ true → accepted (nat_abs z) ≡ whole n
  unfolding whole
  counted_is h k = go z h k ∙ ap whole e
    where
      go : (z : ℤ) → le_z (pos 0) z ≡ true → le_z z (pos most_reading) ≡ true → accepted (nat_abs z) ≡ whole z
      go (pos n) h k = sym (ap (λ (t : Bool). cond t (accepted n) (refused not_acceptable)) k)
      go (negsuc n) h k = absurd (false≢true h)

  pub too_many : le_z z (pos most_reading) ≡ false → refused not_acceptable ≡ whole n
  unfolding whole
  too_many k = go z k ∙ ap whole e
    where
      go : (z : ℤ) → le_z z (pos most_reading) ≡ false → refused not_acceptable ≡ whole z
      go (pos n) k = sym (ap (λ (t : Bool). cond t (accepted n) (refused not_acceptable)) k)
      go (negsuc n) k = refl

  pub below-zero : le_z (pos 0) z ≡ false → refused not_acceptable ≡ whole n
  unfolding whole
  below-zero k = go z k ∙ ap whole e
    where
      go : (z : ℤ) → le_z (pos 0) z ≡ false → refused not_acceptable ≡ whole z
      go (pos n) k = absurd (true≢false (sym (le-leb 0 n zero-le) ∙ k))
      go (negsuc n) k = refl
