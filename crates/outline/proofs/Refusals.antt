-- What a refusal's number tells: 0 means that every test passed, and any other number is what the call then answers. Assumes nothing.
use mathlib.Core.Path.{◌≡◌, refl, ap}
use Prim.Native.Nat.{ℕ, zero, suc}
use native.Mathlib.Omega.{arith}
use Rattle.outline.specs.Refusals.{or_else, unless_refused}

-- ---- two tests in a row
pub or-zero : (a b : ℕ) → or_else a b ≡ 0 → (a ≡ 0) × (b ≡ 0)
or-zero zero b h = (refl, h)
or-zero (suc a) b h = absurd (omega arith)

pub or-first : (a b : ℕ) → (a ≡ 0 → ⊥) → or_else a b ≡ a
or-first zero b h = absurd (h refl)
or-first (suc a) b h = refl

pub or-second : (a b : ℕ) → a ≡ 0 → or_else a b ≡ b
or-second a b e = ap (λ (n : ℕ). or_else n b) e

-- ---- 0, or else the refusal
pub is-done : {A : Type 0} (k : ℕ) (done refused : A) → k ≡ 0 → unless_refused k done refused ≡ done
is-done zero done refused e = refl
is-done (suc k) done refused e = absurd (omega arith)

pub is-refused : {A : Type 0} (k : ℕ) (done refused : A) → (k ≡ 0 → ⊥) → unless_refused k done refused ≡ refused
is-refused zero done refused h = absurd (h refl)
is-refused (suc k) done refused h = refl

-- what holds of both holds of what is answered
pub holds_of : {A : Type 0} (P : A → Type 0) (k : ℕ) (done refused : A) → P done → P refused → P (unless_refused k done refused)
holds_of P zero done refused d r = d
holds_of P (suc k) done refused d r = r
