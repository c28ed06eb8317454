-- Document 02, E10: "compute for each calendar month alpha = sum ET / sum PE, beta = sum R / sum PR, gamma = sum RO / sum PRO, delta = sum L / sum PL,
-- nearest, 0 where the divisor is 0." ET, PE, R, RO and L are as the rows have them; PR, PRO and PL, which no row has, are worked out again from each
-- row's start storages and PE. Assumes nothing.
use Rattle.std.specs.Prelude.{ℕ, zero, suc, ◌+◌, ◌*◌, List, ℤ}
use Rattle.outline.specs.Numbers.{last_month}
use Rattle.exact.specs.Nearest.{nearest_ℕ}
use Rattle.water.specs.Constants.{one}
use Rattle.water.specs.Expected.{potentials_of}
use Rattle.water.specs.declared.Constants.{Constants}
use Rattle.water.specs.declared.Potentials.{Potentials}
use Rattle.records.specs.Record.{record_at}
use Rattle.given_rows.specs.GivenRows.{water_of}
use Rattle.given_rows.specs.declared.WaterRow.{WaterRow}
use Rattle.sums.specs.declared.Sums.{Sums}

-- the potentials of a row, "from the start storages"
abbrev pub potentials_in : WaterRow → Potentials
potentials_in w = potentials_of w.soil w.pe

abbrev pub no_sums : Sums
no_sums = record { et = 0; pe = 0; r = 0; pr = 0; ro = 0; pro = 0; l = 0; pl = 0 }

-- with one month more
unfoldable pub plus : Sums → WaterRow → Sums
plus s w =
    record {
      et = s.et + w.et;
      pe = s.pe + w.pe;
      r = s.r + w.r;
      pr = s.pr + (potentials_in w).pr;
      ro = s.ro + w.ro;
      pro = s.pro + (potentials_in w).pro;
      l = s.l + w.l;
      pl = s.pl + (potentials_in w).pl;
    }

-- the row of a calendar month in each year, where its first row stands at a place
abbrev pub row_in : ℕ → List (List ℤ) → ℕ → ℕ → WaterRow
row_in capacity records at y = water_of capacity (record_at records (at + last_month * y))

-- the sums over the first k years
unfoldable pub sums_of : (ℕ → WaterRow) → ℕ → Sums
sums_of row zero = no_sums
sums_of row (suc k) = plus (sums_of row k) (row k)

-- "alpha = sum ET / sum PE,
abbrev pub alpha_of : Sums → ℕ
alpha_of s = nearest_ℕ (one * s.et) s.pe

-- beta = sum R / sum PR,
abbrev pub beta_of : Sums → ℕ
beta_of s = nearest_ℕ (one * s.r) s.pr

-- gamma = sum RO / sum PRO,
abbrev pub gamma_of : Sums → ℕ
gamma_of s = nearest_ℕ (one * s.ro) s.pro

-- delta = sum L / sum PL"
abbrev pub delta_of : Sums → ℕ
delta_of s = nearest_ℕ (one * s.l) s.pl

-- the four; no N is reckoned with a K, which is worked out of these last
abbrev pub shares_of : Sums → Constants
shares_of s = record { alpha = alpha_of s; beta = beta_of s; gamma = gamma_of s; delta = delta_of s; k = 0 }
