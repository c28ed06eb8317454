-- Document 01, "One month of water": "Start storages Ss, Su." The balance of a month with precipitation P and potential
-- evapotranspiration PE. Assumes nothing.
use Rattle.std.specs.Prelude.{ℕ, ◌+◌, ◌-◌, ◌*◌, min, cond, ltb}
use Rattle.exact.specs.Nearest.{nearest_ℕ}
use Rattle.water.specs.Layers.{surface_holds, underlying_holds}
use Rattle.water.specs.declared.Soil.{Soil}
use Rattle.water.specs.declared.Balance.{Balance}

-- what the underlying layer loses to a want that the surface layer has not met: "nearest to want x Su / C, at most Su"
unfoldable pub under_loss : ℕ → ℕ → ℕ → ℕ
under_loss want su c = min (nearest_ℕ (want * su) c) su

-- "P below PE: Ls = smaller of Ss and PE - P.
unfoldable pub loss_surface : ℕ → ℕ → ℕ → ℕ
loss_surface ss p pe = min ss (pe - p)

-- Lu = nearest to (PE - P - Ls) x Su / C, at most Su.
unfoldable pub loss_underlying : Soil → ℕ → ℕ → ℕ
loss_underlying s p pe = under_loss (pe - p - loss_surface s.surface p pe) s.underlying s.capacity

-- ET = P + Ls + Lu. Recharge R = 0, runoff RO = 0."
unfoldable pub dry_month : Soil → ℕ → ℕ → Balance
dry_month s p pe =
    record {
      ls = loss_surface s.surface p pe;
      lu = loss_underlying s p pe;
      et = p + loss_surface s.surface p pe + loss_underlying s p pe;
      r = 0;
      ro = 0;
      surface = s.surface - loss_surface s.surface p pe;
      underlying = s.underlying - loss_underlying s p pe;
    }

-- "The excess P - PE fills the surface layer,
unfoldable pub to_surface : Soil → ℕ → ℕ → ℕ
to_surface s p pe = min (p - pe) (surface_holds s.capacity - s.surface)

-- then the underlying layer;
unfoldable pub to_underlying : Soil → ℕ → ℕ → ℕ
to_underlying s p pe = min (p - pe - to_surface s p pe) (underlying_holds s.capacity - s.underlying)

-- "Otherwise: ET = PE, losses 0. .. the rest is RO."
unfoldable pub wet_month : Soil → ℕ → ℕ → Balance
wet_month s p pe =
    record {
      ls = 0;
      lu = 0;
      et = pe;
      r = to_surface s p pe + to_underlying s p pe;
      ro = p - pe - to_surface s p pe - to_underlying s p pe;
      surface = s.surface + to_surface s p pe;
      underlying = s.underlying + to_underlying s p pe;
    }

unfoldable pub balance_of : Soil → ℕ → ℕ → Balance
balance_of s p pe = cond (ltb p pe) (dry_month s p pe) (wet_month s p pe)
