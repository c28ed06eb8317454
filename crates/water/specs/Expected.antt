-- Document 01, "One month of water": the potentials, N, expected (CAFEC) precipitation and Z. Assumes nothing.
use Rattle.std.specs.Prelude.{ℕ, ◌+◌, ◌-◌, ◌*◌, min, ℤ, pos, ◌-ℤ◌, ◌*ℤ◌}
use Rattle.exact.specs.Nearest.{nearest}
use Rattle.water.specs.Constants.{one}
use Rattle.water.specs.Balance.{under_loss, balance_of}
use Rattle.water.specs.declared.Soil.{Soil}
use Rattle.water.specs.declared.Constants.{Constants}
use Rattle.water.specs.declared.Balance.{Balance}
use Rattle.water.specs.declared.Potentials.{Potentials}
use Rattle.water.specs.declared.Expected.{Expected}
use Rattle.water.specs.declared.Month.{Month}

-- "PLs = smaller of PE and Ss.
unfoldable pub potential_surface : Soil → ℕ → ℕ
potential_surface s pe = min pe s.surface

-- PLu = nearest to (PE - PLs) x Su / C, at most Su."
unfoldable pub potential_underlying : Soil → ℕ → ℕ
potential_underlying s pe = under_loss (pe - potential_surface s pe) s.underlying s.capacity

-- "Potentials, from the start storages: PR = C - Ss - Su. PRO = Ss + Su. .. PL = PLs + PLu."
unfoldable pub potentials_of : Soil → ℕ → Potentials
potentials_of s pe =
    record {
      pr = s.capacity - s.surface - s.underlying;
      pro = s.surface + s.underlying;
      pl = potential_surface s pe + potential_underlying s pe;
    }

-- "N = alpha PE + beta PR + gamma PRO - delta PL."
unfoldable pub n_of : Constants → ℕ → Potentials → ℤ
n_of k pe q = pos (k.alpha * pe + k.beta * q.pr + k.gamma * q.pro) -ℤ pos (k.delta * q.pl)

-- "CAFEC precipitation is nearest to N/10,000."
unfoldable pub cafec_of : ℤ → ℤ
cafec_of n = nearest n one

-- "Z = nearest to K x (10,000 P - N) / 100,000,000, rounded once, from N and not from the rounded CAFEC."
unfoldable pub z_of : ℕ → ℕ → ℤ → ℤ
z_of k p n = nearest (pos k *ℤ (pos (one * p) -ℤ n)) (one * one)

unfoldable pub expected_of : Constants → ℕ → ℕ → Potentials → Expected
expected_of k p pe q = record { cafec = cafec_of (n_of k pe q); z = z_of k.k p (n_of k pe q) }

-- the month's figures, and the storages at its end
abbrev pub joined : Balance → Potentials → Expected → Month
joined b q e =
    record {
      ls = b.ls;
      lu = b.lu;
      et = b.et;
      r = b.r;
      ro = b.ro;
      pr = q.pr;
      pro = q.pro;
      pl = q.pl;
      cafec = e.cafec;
      z = e.z;
      surface = b.surface;
      underlying = b.underlying;
    }

unfoldable pub month_of : Soil → ℕ → ℕ → Constants → Month
month_of s p pe k = joined (balance_of s p pe) (potentials_of s pe) (expected_of k p pe (potentials_of s pe))
