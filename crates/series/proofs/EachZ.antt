-- The test of a list of Z: it holds exactly when every Z of the list is in its range. Assumes nothing.
use mathlib.Core.Path.{◌≡◌, refl}
use mathlib.Core.Bool.{true}
use mathlib.Core.Logic.{◌↔◌}
use mathlib.Core.List.{List, [], ◌∷◌}
use Prim.Native.Nat.{zero, suc}
use native.Mathlib.Omega.{arith}
use lib.IntN.{ℤ}
use Rattle.outline.specs.Numbers.{z_fits}
use Rattle.outline.proofs.Tests.{each, z-within, within-z}
use Rattle.sides.specs.Sides.{EachFits}
use Rattle.series.specs.Series.{all_z_fit}

-- ---- each Z

pub each_fits : (z : List ℤ) → all_z_fit z ≡ true → EachFits z
each_fits [] e i h = absurd (omega arith)
each_fits (x ∷ z) e zero h = z-within x (each (z_fits x) (all_z_fit z) e).0
each_fits (x ∷ z) e (suc i) h = each_fits z (each (z_fits x) (all_z_fit z) e).1 i (omega arith)

pub all_fit : (z : List ℤ) → EachFits z → all_z_fit z ≡ true
all_fit [] h = refl
all_fit (x ∷ z) h = rw (within-z x (h 0 (omega arith)), all_fit z (λ i l. h (suc i) (omega arith))) refl

-- the test holds exactly when every Z of the list is from -4,000,000 to 4,000,000
pub all-z-fit-exactly : (z : List ℤ) → (all_z_fit z ≡ true) ↔ EachFits z
all-z-fit-exactly z = (each_fits z, all_fit z)
