-- Document 01, "What can be asked": start a run. Its refusals in their order, 2 to 6 with document 02's 21 after 3, and the run that it
-- gives. Assumes nothing.
use Rattle.std.specs.Prelude.{ℕ, Bool, not, ◌&&◌, cond, List, ℤ, pos, nat_abs, eqb, length, replicate}
use Rattle.std.specs.Int.Signed.{le_z}
use Rattle.outline.specs.Refusals.{not_sixty, bad_constant, zero_k, bad_capacity, bad_storage, bad_month, unless_refused}
use Rattle.water.specs.Layers.{least_capacity, most_capacity, surface_holds, underlying_holds}
use Rattle.spells.specs.Values.{fresh}
use Rattle.ranges.specs.Ranges.{constants_fit}
use Rattle.calendar.specs.Calendar.{some_zero_k}
use Rattle.outline.specs.Numbers.{many_constants, last_month}
use Rattle.runs.specs.declared.Run.{Run}
use Rattle.starts.specs.declared.Started.{Started}

-- a number from 0 to most
abbrev pub up_to : ℕ → ℤ → Bool
up_to most n = le_z (pos 0) n && le_z n (pos most)

-- "4: capacity outside its range"
unfoldable pub capacity_fits : ℤ → Bool
capacity_fits c = le_z (pos least_capacity) c && le_z c (pos most_capacity)

-- "5: a start storage negative or above its layer"
unfoldable pub storages_fit : ℤ → ℤ → ℤ → Bool
storages_fit c ss su = up_to (surface_holds (nat_abs c)) ss && up_to (underlying_holds (nat_abs c)) su

-- "6: start month not 1 to 12"
unfoldable pub month_fits : ℤ → Bool
month_fits m = le_z (pos 1) m && le_z m (pos last_month)

-- "Order at a start, which takes no columns: 2 to 6." E11: "21 zero K, at a start right after 3"
unfoldable pub start_refusal : List ℤ → ℤ → ℤ → ℤ → ℤ → ℕ
start_refusal constants c ss su m =
    cond (eqb (length constants) many_constants)
    (cond (constants_fit constants)
    (cond (not (some_zero_k constants)) (cond (capacity_fits c) (cond (storages_fit c ss su) (cond (month_fits m) 0 bad_month) bad_storage) bad_capacity) zero_k)
    bad_constant)
    not_sixty

-- "A refusal returns its number .. (a refused start: all zeros)"
abbrev pub zero_run : Run
zero_run =
    record {
      months = 0;
      opens = 0;
      calendar = 0;
      soil = record { capacity = 0; surface = 0; underlying = 0 };
      values = fresh;
      constants = replicate many_constants (pos 0);
    }

-- "A run keeps its own copy of the sixty constants." "A fresh run has X1 = X2 = X3 = V = 0."
abbrev pub fresh_run : List ℤ → ℤ → ℤ → ℤ → ℤ → Run
fresh_run constants c ss su m =
    record {
      months = 0;
      opens = 0;
      calendar = nat_abs m;
      soil = record { capacity = nat_abs c; surface = nat_abs ss; underlying = nat_abs su };
      values = fresh;
      constants = constants;
    }

abbrev pub started : ℕ → Run → Started
started k r = record { number = k; run = r }

unfoldable pub start_of : List ℤ → ℤ → ℤ → ℤ → ℤ → Started
start_of constants c ss su m =
    let k = start_refusal constants c ss su m in
    unless_refused k (started 0 (fresh_run constants c ss su m)) (started k zero_run)

-- sixty ones: no Z is reckoned with a station's constants, and to be a run's they must only be in range, with no K of 0
abbrev pub ones : List ℤ
ones = replicate many_constants (pos 1)

-- A RUN FOR Z ALONE: what is started where no month of water is to come. The capacity is the least, the storages are empty, and the month
-- is January: no Z is reckoned with any of them
abbrev pub run_for_z : Run
run_for_z = fresh_run ones (pos least_capacity) (pos 0) (pos 0) (pos 1)
