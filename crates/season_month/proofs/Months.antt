-- What a list's -1 says, and that no month of a list is a trace. Assumes nothing.
use mathlib.Core.Path.{◌≡◌, refl, ap}
use Prim.Native.Nat.{zero, suc}
use native.Mathlib.Omega.{arith}
use lib.IntN.{ℤ, pos, negsuc}
use Rattle.door.specs.Outcome.{trace}
use Rattle.door.specs.Readings.{reading}
use Rattle.door.specs.declared.Reading.TheVariants.{Whole, Missing}
use Rattle.door.proofs.Traces.{whole-no-trace}
use Rattle.season_month.specs.Listed.{listed}

pub listed-missing : (n : ℤ) → n ≡ negsuc 0 → listed n ≡ Missing
unfolding listed
listed-missing n e = ap listed e

pub listed-whole : (n : ℤ) → (n ≡ negsuc 0 → ⊥) → listed n ≡ Whole n
unfolding listed
listed-whole (pos n) h = refl
listed-whole (negsuc zero) h = absurd (h refl)
listed-whole (negsuc (suc n)) h = refl

-- a month of a list is never a trace
pub listed-no-trace : (n : ℤ) → (reading (listed n)).kind ≡ trace → ⊥
unfolding listed reading
listed-no-trace (pos n) h = whole-no-trace (pos n) h
listed-no-trace (negsuc zero) h = omega arith
listed-no-trace (negsuc (suc n)) h = whole-no-trace (negsuc (suc n)) h
