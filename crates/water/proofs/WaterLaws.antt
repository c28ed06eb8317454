-- The laws of the balance and of the potentials: what a layer loses it held, and what is lost was wanted. The balance is told by its two
-- kinds of month (`by-month`), and each law of a month is linear arithmetic over the smaller of two numbers.
-- Assumes nothing.
use mathlib.Core.Path.{◌≡◌, refl}
use mathlib.Core.Bool.{Bool, true, false, cond}
use mathlib.Core.Logic.{◌⊎◌, inl, inr}
use Prim.Native.Nat.{ℕ, ◌+◌, ◌-◌, ◌*◌, ◌≤◌, ◌<◌, min}
use native.Mathlib.Nat.{mul-le-mul_left, mul-le-mul_right}
use native.Mathlib.Omega.{arith}
use lib.Dec.{ltb}
use borrow.Author.Tests.{ltb-true, ltb-false}
use Rattle.exact.proofs.Nearest.{near-mono, near_within}
use Rattle.water.specs.Layers.{most_capacity, surface_holds, underlying_holds, SoilFits}
use Rattle.water.specs.Balance.{under_loss, loss_surface, loss_underlying, dry_month, to_surface, to_underlying, wet_month, balance_of}
use Rattle.water.specs.Expected.{potential_surface, potential_underlying, potentials_of}
use Rattle.water.specs.declared.Soil.{Soil}
use Rattle.water.specs.declared.Balance.{Balance}
use Rattle.water.proofs.LayerLaws.{layers-sum, soil-sum, soil-some, soil-under}

-- ---- a loss from the underlying layer
pub under-held : (want su c : ℕ) → under_loss want su c ≤ su
unfolding under_loss
under-held want su c = omega arith

pub under-wanted : (want su c : ℕ) → 0 < c → su ≤ c → under_loss want su c ≤ want
unfolding under_loss
under-wanted want su c p h = omega (arith, near_within (want * su) c want p (room (mul-le-mul_left want h)))
  where
    room : want * su ≤ want * c → 2 * (want * su) < 2 * (want * c) + c
    room g = omega arith

-- a larger want takes no less
under-rises : (want more su c : ℕ) → want ≤ more → under_loss want su c ≤ under_loss more su c
unfolding under_loss
under-rises want more su c h = omega (arith, near-mono (want * su) (more * su) c (mul-le-mul_right su h))

-- ---- the balance
by-test : (P : Balance → Type 0) (t : Bool) (x y : Balance) → (t ≡ true → P x) → (t ≡ false → P y) → P (cond t x y)
by-test P true x y f g = f refl
by-test P false x y f g = g refl

-- what holds of a month with P below PE, and of any other, holds of the month
pub by-month : (P : Balance → Type 0) (s : Soil) (p pe : ℕ) → (p < pe → P (dry_month s p pe)) → (pe ≤ p → P (wet_month s p pe)) → P (balance_of s p pe)
unfolding balance_of
by-month P s p pe f g =
    by-test P (ltb p pe) (dry_month s p pe) (wet_month s p pe) (λ e. f (ltb-true p pe e)) (λ e. g (ltb-false p pe e))

-- ---- what every month keeps
pub record Kept (s : Soil) (p pe : ℕ) (b : Balance) : Type 0 where
  pub water : p + (s.surface + s.underlying) ≡ (b.et + b.ro) + (b.surface + b.underlying)
  pub surface : b.surface ≤ surface_holds s.capacity
  pub underlying : b.underlying ≤ underlying_holds s.capacity
  pub ls : b.ls ≤ s.surface
  pub lu : b.lu ≤ s.underlying
  pub et : b.et ≤ pe
  pub r : b.r ≤ s.capacity
  pub ro : b.ro ≤ p
  pub one : ((b.ls ≡ 0) × (b.lu ≡ 0)) ⊎ (b.r ≡ 0)

dry-kept : (s : Soil) (p pe : ℕ) → SoilFits s → p < pe → Kept s p pe (dry_month s p pe)
unfolding dry_month loss_surface loss_underlying
dry-kept s p pe f h =
    let u = under-held (pe - p - loss_surface s.surface p pe) s.underlying s.capacity in
    let v = under-wanted (pe - p - loss_surface s.surface p pe) s.underlying s.capacity (soil-some s f) (soil-under s f) in
    record {
      water = omega arith;
      surface = omega arith;
      underlying = omega arith;
      ls = omega arith;
      lu = omega arith;
      et = omega arith;
      r = omega arith;
      ro = omega arith;
      one = inr refl;
    }

-- what a layer takes up is of the excess, and it has the room
to-surface : (s : Soil) (p pe : ℕ) → SoilFits s → pe ≤ p → (pe + to_surface s p pe ≤ p) × (s.surface + to_surface s p pe ≤ surface_holds s.capacity)
unfolding to_surface
to-surface s p pe f h = omega arith

to-underlying : (s : Soil) (p pe : ℕ) → SoilFits s → pe ≤ p → (pe + to_surface s p pe + to_underlying s p pe ≤ p) × (s.underlying + to_underlying s p pe ≤ underlying_holds s.capacity)
unfolding to_underlying
to-underlying s p pe f h = let u = to-surface s p pe f h in omega arith

other-kept : (s : Soil) (p pe : ℕ) → SoilFits s → pe ≤ p → Kept s p pe (wet_month s p pe)
unfolding wet_month
other-kept s p pe f h =
    let u = to-surface s p pe f h in
    let v = to-underlying s p pe f h in
    let l = layers-sum s.capacity in
    record {
      water = omega arith;
      surface = omega arith;
      underlying = omega arith;
      ls = omega arith;
      lu = omega arith;
      et = omega arith;
      r = omega arith;
      ro = omega arith;
      one = inl (refl, refl);
    }

pub kept : (s : Soil) (p pe : ℕ) → SoilFits s → Kept s p pe (balance_of s p pe)
kept s p pe f = by-month (Kept s p pe) s p pe (dry-kept s p pe f) (other-kept s p pe f)

-- ---- a month as dry, or as wet, as the soil is deep
abbrev pub Ends : ℕ → ℕ → Balance → Type 0
Ends surface underlying b = (b.surface ≡ surface) × (b.underlying ≡ underlying)

-- it takes all that the surface layer has, where the underlying one has nothing
pub emptied : (s : Soil) (p pe : ℕ) → SoilFits s → s.underlying ≡ 0 → p + s.capacity ≤ pe → Ends 0 0 (balance_of s p pe)
unfolding dry_month loss_surface
emptied s p pe f u h =
    let l = soil-sum s f in
    let c = soil-some s f in
    by-month (Ends 0 0) s p pe (λ g. omega arith) (λ g. absurd (omega arith))

-- it fills both layers, whatever they had
pub filled : (s : Soil) (p pe : ℕ) → SoilFits s → pe + s.capacity ≤ p → Ends (surface_holds s.capacity) (underlying_holds s.capacity) (balance_of s p pe)
unfolding wet_month to_surface to_underlying
filled s p pe f h =
    let l = layers-sum s.capacity in
    by-month (Ends (surface_holds s.capacity) (underlying_holds s.capacity)) s p pe (λ g. absurd (omega arith)) (λ g. omega arith)

-- ---- the potentials
pub potential-shares : (s : Soil) (pe : ℕ) → SoilFits s → (potentials_of s pe).pr + (potentials_of s pe).pro ≡ s.capacity
unfolding potentials_of
potential-shares s pe f = let h = soil-sum s f in omega arith

pub potential-loss : (s : Soil) (pe : ℕ) → (potentials_of s pe).pl ≤ (potentials_of s pe).pro
unfolding potentials_of potential_surface potential_underlying
potential-loss s pe = omega (arith, under-held (pe - potential_surface s pe) s.underlying s.capacity)

pub potentials-fit : (s : Soil) (pe : ℕ) → SoilFits s → ((potentials_of s pe).pr + (potentials_of s pe).pro ≤ most_capacity) × ((potentials_of s pe).pl ≤ (potentials_of s pe).pro)
potentials-fit s pe f = (rw (potential-shares s pe f) f.most, potential-loss s pe)

-- ---- the balance within the potentials
abbrev pub Potential : Soil → ℕ → Balance → Type 0
Potential s pe b = (b.r ≤ (potentials_of s pe).pr) × (b.ls + b.lu ≤ (potentials_of s pe).pl)

dry-potential : (s : Soil) (p pe : ℕ) → p < pe → Potential s pe (dry_month s p pe)
unfolding dry_month loss_surface loss_underlying potentials_of potential_surface potential_underlying
dry-potential s p pe h =
    (omega arith, two (first s.surface) (under-rises _ _ s.underlying s.capacity (rest s.surface)))
  where
    first : (ss : ℕ) → min ss (pe - p) ≤ min pe ss
    first ss = omega arith

    rest : (ss : ℕ) → pe - p - min ss (pe - p) ≤ pe - min pe ss
    rest ss = omega arith

    two : {a b c d : ℕ} → a ≤ b → c ≤ d → a + c ≤ b + d
    two g h = omega arith

other-potential : (s : Soil) (p pe : ℕ) → SoilFits s → pe ≤ p → Potential s pe (wet_month s p pe)
unfolding wet_month potentials_of
other-potential s p pe f h =
    let u = to-surface s p pe f h in
    let v = to-underlying s p pe f h in
    let l = layers-sum s.capacity in
    (omega arith, omega arith)

pub within-potential : (s : Soil) (p pe : ℕ) → SoilFits s → Potential s pe (balance_of s p pe)
within-potential s p pe f = by-month (Potential s pe) s p pe (dry-potential s p pe) (other-potential s p pe f)
