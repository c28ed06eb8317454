-- Document 02, E6: "The run's consistency rule now includes that, after any month, the last row's end storages equal the run's." Assumes nothing.
use Rattle.std.specs.Prelude.{ℕ, zero, suc, Bool, true, false, ◌&&◌, List, ℤ, pos, negsuc, eqb}
use Rattle.water.specs.declared.Soil.{Soil}
use Rattle.records.specs.Record.{record_at}

-- a number of a record is this amount
unfoldable pub amounts : ℤ → ℕ → Bool
amounts (pos n) k = eqb n k
amounts (negsuc n) k = false

-- after no month there is no last row
unfoldable pub ends_meet : ℕ → Soil → List (List ℤ) → Bool
ends_meet zero s records = true
ends_meet (suc n) s records = amounts (record_at records n).surface s.surface && amounts (record_at records n).underlying s.underlying
