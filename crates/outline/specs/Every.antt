-- A test that is passed at every place. Assumes nothing.
use Rattle.std.specs.Prelude.{ℕ, zero, suc, Bool, true, ◌&&◌}

-- at each of the first k places
unfoldable pub all_of : (ℕ → Bool) → ℕ → Bool
all_of test zero = true
all_of test (suc k) = all_of test k && test k
