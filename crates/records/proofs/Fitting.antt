-- Amounts in a record: a soil's storages and a month's water fit, and a number of a record is an amount exactly where their bits are the same.
-- Assumes nothing.
use mathlib.Core.Path.{◌≡◌, refl}
use Prim.Native.Nat.{ℕ, suc, ◌≤◌, ◌-◌, ◌^◌}
use native.Mathlib.Omega.{arith}
use lib.IntN.{ℤ, pos, negsuc}
use lib.Dec.{eqb}
use borrow.Author.Tests.{ne_eqb}
use mir.Syntax.{w32}
use mir.Val.{SFits, of_z}
use Rattle.door.specs.Readings.{most_reading}
use Rattle.water.specs.Layers.{most_capacity, SoilFits}
use Rattle.water.specs.Expected.{month_of}
use Rattle.water.specs.Bounds.{ConstantsFit}
use Rattle.water.specs.declared.Soil.{Soil}
use Rattle.water.specs.declared.Constants.{Constants}
use Rattle.water.proofs.LayerLaws.{soil-sum}
use Rattle.water.proofs.Theorems.{losses-within, water-within, ends-within}
use Rattle.records.specs.Ends.{amounts}
use Rattle.records.specs.Water.{had_water}
use Rattle.records.specs.declared.Record.{Record}
use Rattle.records.specs.Recordable.{Recordable}

-- what the layers store is at most the largest capacity
pub stored-most : (s : Soil) → SoilFits s → (s.surface ≤ most_capacity) × (s.underlying ≤ most_capacity)
stored-most s f = let h = soil-sum s f in (omega (arith, f.most), omega (arith, f.most))

-- a record can hold every month of water
pub recordable : (s : Soil) (p pe : ℕ) (k : Constants) → SoilFits s → p ≤ most_reading → pe ≤ most_reading → ConstantsFit k → Recordable s p pe (month_of s p pe k)
recordable s p pe k f hp hpe hk =
    let l = losses-within s p pe k f hp hpe hk in
    let w = water-within s p pe k f hp hpe hk in
    let e = ends-within s p pe k f hp hpe hk in
    record {
      soil = f;
      precipitation = hp;
      potential = hpe;
      ls = l.0;
      lu = l.1;
      et = w.0;
      r = w.1;
      ro = w.2;
      surface = e.0;
      underlying = e.1;
    }

-- `n == k as i32`
pub amounts-is : (n : ℤ) (k : ℕ) → SFits w32 n → k ≤ most_reading → eqb (of_z w32 n) k ≡ amounts n k
unfolding amounts
amounts-is (pos m) k f g = refl
amounts-is (negsuc m) k f g = ne_eqb (2 ^ 32 - suc m) k (λ e. omega (arith, e, f.sfits))

-- `m.water == 1`
pub water-is : (m : Record) → SFits w32 m.water → eqb (of_z w32 m.water) 1 ≡ had_water m
water-is m f = amounts-is m.water 1 f (omega arith)
