-- What the outline's month of water comes to, proved of its definitions for every soil, reading and constant in range: water is neither made
-- nor lost, no layer is above its own, no month both loses and recharges, and N, CAFEC and Z stay small. `month_of` answers with
-- `month_of`, so each holds of its answer. The laws of each kind of month are in WaterLaws.antt, the sizes in Sizes.antt.
-- Assumes nothing.
use mathlib.Core.Path.{◌≡◌, sym, ◌∙◌}
use mathlib.Core.Logic.{◌⊎◌}
use Prim.Native.Nat.{ℕ, ◌+◌, ◌*◌, ◌≤◌}
use native.Mathlib.Omega.{arith}
use lib.IntN.{pos, neg_ℤ, nat_abs}
use lib.Signed.{◌≤ℤ◌}
use Rattle.outline.specs.Numbers.{most_z}
use Rattle.door.specs.Readings.{most_reading}
use Rattle.water.specs.Layers.{most_capacity, surface_holds, underlying_holds, SoilFits}
use Rattle.water.specs.Bounds.{ConstantsFit}
use Rattle.water.specs.Balance.{balance_of}
use Rattle.water.specs.Expected.{potentials_of, n_of, expected_of, month_of}
use Rattle.water.specs.declared.Soil.{Soil}
use Rattle.water.specs.declared.Constants.{Constants}
use Rattle.water.specs.declared.Month.{Month}
use Rattle.water.proofs.LayerLaws.{soil-sum}
use Rattle.water.proofs.WaterLaws.{kept, emptied, filled, within-potential, potential-shares, potential-loss, potentials-fit}
use Rattle.water.proofs.Sizes.{n-between, n-most, cafec-most, cafec-least, short-by-ends, z-most}

module _ (s : Soil) (p pe : ℕ) (f : SoilFits s) where
  -- P = ET + RO + the gain in storage, exactly: said without a difference, what falls and what was held is what leaves and what is held
  pub water-kept : p + (s.surface + s.underlying) ≡ ((balance_of s p pe).et + (balance_of s p pe).ro) + ((balance_of s p pe).surface + (balance_of s p pe).underlying)
  water-kept = (kept s p pe f).water

  -- "fills the surface layer, then the underlying layer": neither holds more than its own at the month's end
  pub ends_held : ((balance_of s p pe).surface ≤ surface_holds s.capacity) × ((balance_of s p pe).underlying ≤ underlying_holds s.capacity)
  ends_held = ((kept s p pe f).surface, (kept s p pe f).underlying)

  -- so the next month starts from a soil in range
  pub layers-kept : SoilFits (record { capacity = s.capacity; surface = (balance_of s p pe).surface; underlying = (balance_of s p pe).underlying })
  layers-kept =
      record {
        least = f.least;
        most = f.most;
        surface = (kept s p pe f).surface;
        underlying = (kept s p pe f).underlying;
      }

  -- "losses 0", or "Recharge R = 0"
  pub never_both : (((balance_of s p pe).ls ≡ 0) × ((balance_of s p pe).lu ≡ 0)) ⊎ ((balance_of s p pe).r ≡ 0)
  never_both = (kept s p pe f).one

  -- ET is at most PE
  pub et-within : (balance_of s p pe).et ≤ pe
  et-within = (kept s p pe f).et

  -- a layer loses at most what it held
  pub losses-held : ((balance_of s p pe).ls ≤ s.surface) × ((balance_of s p pe).lu ≤ s.underlying)
  losses-held = ((kept s p pe f).ls, (kept s p pe f).lu)

  -- "PR = C - Ss - Su. PRO = Ss + Su.": they share the capacity
  pub potentials-share : (potentials_of s pe).pr + (potentials_of s pe).pro ≡ s.capacity
  potentials-share = potential-shares s pe f

  -- "PL = PLs + PLu": no more can be lost than is held
  pub potential-loss-held : (potentials_of s pe).pl ≤ (potentials_of s pe).pro
  potential-loss-held = potential-loss s pe

  -- a month recharges at most "PR", and loses at most "PL"
  pub within-potentials : ((balance_of s p pe).r ≤ (potentials_of s pe).pr) × ((balance_of s p pe).ls + (balance_of s p pe).lu ≤ (potentials_of s pe).pl)
  within-potentials = within-potential s p pe f

  -- Appendix B of source 000, of a soil of 0.10 inch: "One dry day or one completely dry year will produce the same result, viz, no water in
  -- storage." So it is of any soil whose underlying layer is empty, as a thin one's always is, where PE passes P by the capacity
  pub dry-empties : s.underlying ≡ 0 → p + s.capacity ≤ pe → ((balance_of s p pe).surface ≡ 0) × ((balance_of s p pe).underlying ≡ 0)
  dry-empties u h = emptied s p pe f u h

  -- "Likewise, a wet day or a wet year will produce full storage." So it is of any soil, where P passes PE by the capacity
  pub wet-fills : pe + s.capacity ≤ p → ((balance_of s p pe).surface ≡ surface_holds s.capacity) × ((balance_of s p pe).underlying ≡ underlying_holds s.capacity)
  wet-fills h = filled s p pe f h

-- the same of the month, whole
module _ (s : Soil) (p pe : ℕ) (k : Constants) (f : SoilFits s) where
  -- P = ET + RO + the gain in storage
  pub month-water-kept : p + (s.surface + s.underlying) ≡ ((month_of s p pe k).et + (month_of s p pe k).ro) + ((month_of s p pe k).surface + (month_of s p pe k).underlying)
  unfolding month_of
  month-water-kept = water-kept s p pe f

  -- the soil that the next month starts from
  pub month-layers-kept : SoilFits (record { capacity = s.capacity; surface = (month_of s p pe k).surface; underlying = (month_of s p pe k).underlying })
  unfolding month_of
  month-layers-kept = layers-kept s p pe f

  -- "losses 0", or "Recharge R = 0"
  pub month-never-both : (((month_of s p pe k).ls ≡ 0) × ((month_of s p pe k).lu ≡ 0)) ⊎ ((month_of s p pe k).r ≡ 0)
  unfolding month_of
  month-never-both = never_both s p pe f

-- every figure of a month of accepted readings: no amount is above 100,000, CAFEC is within 250,000 and Z within 2,500,000
module _ (s : Soil) (p pe : ℕ) (k : Constants) (f : SoilFits s) (hp : p ≤ most_reading) (hpe : pe ≤ most_reading) (g : ConstantsFit k) where
  -- "Ls", "Lu": at most 30,000
  pub losses-within : ((month_of s p pe k).ls ≤ most_capacity) × ((month_of s p pe k).lu ≤ most_capacity)
  unfolding month_of
  losses-within = omega (arith, (kept s p pe f).ls, (kept s p pe f).lu, soil-sum s f, f.most)

  -- "ET", "RO": at most 100,000; "R": at most 30,000
  pub water-within : ((month_of s p pe k).et ≤ most_reading) × ((month_of s p pe k).r ≤ most_capacity) × ((month_of s p pe k).ro ≤ most_reading)
  unfolding month_of
  water-within = omega (arith, (kept s p pe f).et, (kept s p pe f).r, (kept s p pe f).ro, f.most)

  -- "PR", "PRO", "PL": at most 30,000
  pub potentials-within : ((month_of s p pe k).pr ≤ most_capacity) × ((month_of s p pe k).pro ≤ most_capacity) × ((month_of s p pe k).pl ≤ most_capacity)
  unfolding month_of
  potentials-within = omega (arith, potential-shares s pe f, potential-loss s pe, f.most)

  -- the end storages: at most 30,000
  pub ends-within : ((month_of s p pe k).surface ≤ most_capacity) × ((month_of s p pe k).underlying ≤ most_capacity)
  unfolding month_of
  ends-within = omega (arith, soil-sum _ (month-layers-kept s p pe k f), f.most)

  -- "CAFEC precipitation" is from -30,000 to 250,000
  pub cafec-within : (neg_ℤ (pos 30000) ≤ℤ (month_of s p pe k).cafec) × (nat_abs (month_of s p pe k).cafec ≤ 250000)
  unfolding month_of expected_of
  cafec-within =
      let q = potentials-fit s pe f in
      let n = n_of k pe (potentials_of s pe) in
      (cafec-least n (n-between k pe (potentials_of s pe) g hpe q).0, cafec-most n (n-most k pe (potentials_of s pe) g hpe q))

  -- "Z" is within 2,500,000: K is at most 10, and 10,000 P - N from -2,500,000,000 to 1,300,000,000, because PR + PRO = C
  pub z-within : nat_abs (month_of s p pe k).z ≤ 2500000
  unfolding month_of expected_of
  z-within =
      let b = n-between k pe (potentials_of s pe) g hpe (potentials-fit s pe f) in
      let n = n_of k pe (potentials_of s pe) in
      z-most k.k p n 2500000 g.weight (short-by-ends (10000 * p) n (omega arith) b.0 b.1)

  -- so every month of water is a Z that may be "given directly: -4,000,000 to 4,000,000"
  pub z-acceptable : nat_abs (month_of s p pe k).z ≤ most_z
  z-acceptable = omega (arith, z-within)

-- any two answers that the promise of `month_of` allows are the same
pub one-month : (s : Soil) (p pe : ℕ) (k : Constants) (a b : Month) → a ≡ month_of s p pe k → b ≡ month_of s p pe k → a ≡ b
one-month s p pe k a b x y = x ∙ sym y
