-- Which number a start gives, and exactly when: one case for each number, 0 first and then in the order in which they are asked. The tests
-- before its own were passed, and its own was not. Assumes nothing.
use Rattle.std.specs.Prelude.{◌≡◌, true, false, List, ℕ, ℤ, length}
use Rattle.outline.specs.Numbers.{many_constants}
use Rattle.outline.specs.Refusals.{not_sixty, bad_constant, zero_k, bad_capacity, bad_storage, bad_month}
use Rattle.ranges.specs.Ranges.{constants_fit}
use Rattle.calendar.specs.Calendar.{ZeroK}
use Rattle.starts.specs.Start.{capacity_fits, storages_fit, month_fits}

-- sixty constants, each in its range, and no calendar month's K is 0
pub record ConstantsTaken (cs : List ℤ) : Type 0 where
  pub sixty : length cs ≡ many_constants
  pub fit : constants_fit cs ≡ true
  pub all_count : ZeroK cs → ⊥

-- a start of which nothing is out of range
pub record StartFits (cs : List ℤ) (c ss su m : ℤ) : Type 0 where
  pub constants : ConstantsTaken cs
  pub capacity : capacity_fits c ≡ true
  pub storages : storages_fit c ss su ≡ true
  pub month : month_fits m ≡ true

pub data StartGives (cs : List ℤ) (c ss su m : ℤ) : ℕ → Type 0 where
  -- 0: done
  gives_0 : StartFits cs c ss su m → StartGives cs c ss su m 0
  -- 2: "constants not sixty numbers"
  gives_2 : (length cs ≡ many_constants → ⊥) → StartGives cs c ss su m not_sixty
  -- 3: "a constant outside its range"
  gives_3 : length cs ≡ many_constants → constants_fit cs ≡ false → StartGives cs c ss su m bad_constant
  -- 21: "zero K": 3 looks at all sixty first, and lets a 0 through
  gives_21 : length cs ≡ many_constants → constants_fit cs ≡ true → ZeroK cs → StartGives cs c ss su m zero_k
  -- 4: "capacity outside its range"
  gives_4 : ConstantsTaken cs → capacity_fits c ≡ false → StartGives cs c ss su m bad_capacity
  -- 5: "a start storage negative or above its layer"
  gives_5 : ConstantsTaken cs → capacity_fits c ≡ true → storages_fit c ss su ≡ false → StartGives cs c ss su m bad_storage
  -- 6: "start month not 1 to 12"
  gives_6 : ConstantsTaken cs → capacity_fits c ≡ true → storages_fit c ss su ≡ true → month_fits m ≡ false → StartGives cs c ss su m bad_month
