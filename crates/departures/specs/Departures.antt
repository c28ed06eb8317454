-- Document 02, E10: "With D the calendar month's mean size of P - CAFEC by the new constants in thousandths, nearest". CAFEC is document 01's, "nearest to N/10,000":
-- the figure that a run with the new constants prints, and not N. Assumes nothing.
use Rattle.std.specs.Prelude.{ℕ, zero, suc, ◌+◌, ℤ, pos, nat_abs, ◌-ℤ◌}
use Rattle.exact.specs.Nearest.{nearest_ℕ}
use Rattle.water.specs.Expected.{n_of, cafec_of}
use Rattle.water.specs.declared.Constants.{Constants}
use Rattle.given_rows.specs.declared.WaterRow.{WaterRow}
use Rattle.sums.specs.Sums.{potentials_in}

-- what a row's CAFEC is, with these constants
abbrev pub expected_in : Constants → WaterRow → ℤ
expected_in k w = cafec_of (n_of k w.pe (potentials_in w))

-- the size of P - CAFEC
unfoldable pub departure_of : Constants → WaterRow → ℕ
departure_of k w = nat_abs (pos w.p -ℤ expected_in k w)

-- summed over the first so many years
unfoldable pub departures_of : Constants → (ℕ → WaterRow) → ℕ → ℕ
departures_of k row zero = 0
departures_of k row (suc y) = departures_of k row y + departure_of k (row y)

-- D: the mean, nearest
unfoldable pub mean_of : Constants → (ℕ → WaterRow) → ℕ → ℕ
mean_of k row years = nearest_ℕ (departures_of k row years) years
