-- A test passed at all of the first places is passed at each, and the other way round (`all-at`, `all-of`). Assumes nothing.
use mathlib.Core.Path.{◌≡◌, refl, sym, ◌∙◌}
use mathlib.Core.Bool.{Bool, true, false, not, ◌&&◌, ◌||◌, and-false}
use mathlib.Core.Logic.{⊎_elim}
use Prim.Native.Nat.{ℕ, zero, suc, ◌+◌, ◌<◌}
use native.Mathlib.Nat.{not-suc-le-zero, le_of_suc-le-suc, eq-or-lt_of_le}
use native.Mathlib.Numerals.{add-one}
use native.Mathlib.Omega.{arith}
use Rattle.outline.specs.Every.{all_of}
use Rattle.outline.proofs.Tests.{first, second, both}

-- not both: the one not, or the other not
pub not-both : (a b : Bool) → not (a && b) ≡ (not a || not b)
not-both true b = refl
not-both false b = refl

module _ (test : ℕ → Bool) where
  pub all_none : all_of test 0 ≡ true
  unfolding all_of
  all_none = refl

  -- the next one
  all-last : (k : ℕ) → all_of test (suc k) ≡ (all_of test k && test k)
  unfolding all_of
  all-last k = refl

  pub all_more : (k : ℕ) → all_of test k ≡ true → test k ≡ true → all_of test (k + 1) ≡ true
  all_more k p q = rw (add-one k) (all-last k ∙ both p q)

  -- what is known to be bad, by one place more
  pub bad-on : (k : ℕ) (bad more : Bool) → bad ≡ not (all_of test k) → more ≡ not (test k) → (bad || more) ≡ not (all_of test (k + 1))
  bad-on k bad more p q = rw (add-one k, all-last k, p, q) (sym (not-both (all_of test k) (test k)))

  -- where it is passed at all, it is at each
  pub all-at : (k i : ℕ) → all_of test k ≡ true → i < k → test i ≡ true
  all-at zero i h b = absurd (not-suc-le-zero b)
  all-at (suc k) i h b =
      let g : (all_of test k && test k) ≡ true = sym (all-last k) ∙ h in
      ⊎_elim
      (λ (e : i ≡ k). rw e (second (all_of test k) (test k) g))
      (λ (l : i < k). all-at k i (first (all_of test k) (test k) g) l)
      (eq-or-lt_of_le (le_of_suc-le-suc b))

  -- and where at each, at all
  pub all-of : (k : ℕ) → ((i : ℕ) → i < k → test i ≡ true) → all_of test k ≡ true
  all-of zero f = all_none
  all-of (suc k) f = all-last k ∙ both (all-of k (λ i h. f i (omega arith))) (f k (omega arith))

  -- one place where it is not spoils all
  pub all-spoilt : (k i : ℕ) → i < k → test i ≡ false → all_of test k ≡ false
  all-spoilt zero i b e = absurd (not-suc-le-zero b)
  all-spoilt (suc k) i b e =
      ⊎_elim
      (λ (s : i ≡ k). all-last k ∙ rw (rw s at e) (and-false (all_of test k)))
      (λ (l : i < k). all-last k ∙ rw (all-spoilt k i l e))
      (eq-or-lt_of_le (le_of_suc-le-suc b))
