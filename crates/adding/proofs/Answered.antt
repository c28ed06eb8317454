-- A call whose refusal is the definition's: it refuses, or does what is done. Assumes nothing.
use mathlib.Core.Path.{◌≡◌, refl, sym, ap, ◌∙◌}
use mathlib.Core.List.{List}
use Prim.Native.Nat.{ℕ, zero, suc}
use native.Mathlib.Omega.{arith}
use lib.IntN.{ℤ}
use Rattle.std.specs.Prelude.{Err}
use Rattle.outline.specs.Refused.{refusal_number}
use Rattle.outline.specs.declared.Refusal.{Refusal}
use Rattle.outline.proofs.Refusals.{is-refused}
use Rattle.outline.proofs.Refused.{unless-refusal}
use Rattle.runs.specs.Progress.{run_of}
use Rattle.runs.specs.declared.Progress.{Progress}
use Rattle.runs.specs.declared.Run.{Run}
use Rattle.refusals.specs.Book.{Book}
use Rattle.adding.specs.Taken.{Result, result_of, answered}
use Rattle.adding.specs.Progress.{answer_of, numbered, not_added}

module _ (k : ℕ) (cs : Book) (done : Result) where
  pub refuses : (at : Progress) (ks : List ℤ) (e : Refusal) → refusal_number e ≡ k → result_of (answer_of (Err e) at ks) cs ≡ answered k (run_of at ks) cs done
  refuses at ks e h = sym (unless-refusal e done (result_of (answer_of (Err e) at ks) cs)) ∙ ap (λ (n : ℕ). answered n (run_of at ks) cs done) h

  pub accepts : (r : Run) (b : Result) → 0 ≡ k → b ≡ done → b ≡ answered k r cs done
  accepts r b z f = f ∙ ap (λ (n : ℕ). answered n r cs done) z

  -- the same by the refusal's number
  pub refused-by : (at : Progress) (ks : List ℤ) (n : ℕ) → (n ≡ 0 → ⊥) → n ≡ k → result_of (numbered n (not_added at) ks) cs ≡ answered k (run_of at ks) cs done
  refused-by at ks n f h = sym (is-refused n done (result_of (numbered n (not_added at) ks) cs) f) ∙ ap (λ (i : ℕ). answered i (run_of at ks) cs done) h

-- a number of 0 lets the result through
pub answered-zero : (k : ℕ) (r : Run) (cs : Book) (done : Result) → (answered k r cs done).answer.number ≡ 0 → (k ≡ 0) × (answered k r cs done ≡ done)
answered-zero zero r cs done h = (refl, refl)
answered-zero (suc k) r cs done h = absurd (omega arith)
