-- What a number that 0 stands for none in tells. Assumes nothing.
use Rattle.std.proofs.Common.{◌≡◌, refl, ℕ, zero, suc, ◌+◌, Some, None, arith, add-one, true, false}
use Rattle.std.specs.Prelude.{Option}
use Rattle.std.specs.Option.{is_some}
use Rattle.fields.specs.Told.{unless_zero, or_zero}

pub told_or_zero : (n : ℕ) → or_zero (unless_zero n) ≡ n
told_or_zero zero = refl
told_or_zero (suc n) = refl

pub told_none : (n : ℕ) → unless_zero n ≡ None → n ≡ 0
told_none zero h = refl
told_none (suc n) h = absurd (cc)

pub told_some : (n m : ℕ) → unless_zero n ≡ Some m → (n ≡ m) × (n ≡ 0 → ⊥)
told_some zero m h = absurd (cc)
told_some (suc n) m h = (cc, λ e. omega arith)

pub told_same : (n : ℕ) (o : Option ℕ) → o ≡ unless_zero n → or_zero o ≡ n
told_same n o e = rw e (told_or_zero n)

pub told_more : (n : ℕ) → unless_zero (n + 1) ≡ Some (n + 1)
told_more n = rw (add-one n) refl

pub told_ne : (n : ℕ) → (n ≡ 0 → ⊥) → Some n ≡ unless_zero n
told_ne zero h = absurd (h refl)
told_ne (suc n) h = refl

pub told_some_is : (n : ℕ) (o : Option ℕ) → o ≡ unless_zero n → is_some o ≡ true → n ≡ 0 → ⊥
told_some_is zero o e h z = absurd (cc (rw e at h))
told_some_is (suc n) o e h z = absurd (omega arith)

pub told_none_is : (n : ℕ) (o : Option ℕ) → o ≡ unless_zero n → is_some o ≡ false → n ≡ 0
told_none_is zero o e h = refl
told_none_is (suc n) o e h = absurd (cc (rw e at h))
