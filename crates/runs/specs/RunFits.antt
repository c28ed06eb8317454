-- A proof's vocabulary: a run as facts, what `is_run` tests, each as an order or a record of the crates below. The two say the same
-- (proofs/RunLaws.antt, `run_fits` and `fits-run`). Assumes nothing.
use Rattle.std.specs.Prelude.{◌≡◌, true, false, ℕ, ◌*◌, ◌≤◌, pos, nat_abs, ◌≤ℤ◌, ◌<ℤ◌}
use Rattle.outline.specs.Numbers.{most_x, most_u, last_month}
use Rattle.water.specs.Layers.{SoilFits}
use Rattle.water.specs.Bounds.{ConstantsFit}
use Rattle.ranges.specs.Ranges.{constants_fit}
use Rattle.calendar.specs.Calendar.{constants_at, some_zero_k}
use Rattle.runs.specs.declared.Run.{Run}

-- a run, for columns of this length
pub record RunFits (long : ℕ) (r : Run) : Type 0 where
  pub months : r.months ≤ long
  pub opens : r.opens ≤ r.months
  pub soil : SoilFits r.soil
  pub first_month : 1 ≤ r.calendar
  pub last_month : r.calendar ≤ last_month
  pub constants : constants_fit r.constants ≡ true
  pub all_count : some_zero_k r.constants ≡ false
  -- those of the calendar month, so
  pub month_constants : ConstantsFit (constants_at r.constants r.calendar)
  pub x1_size : nat_abs r.values.x1 ≤ most_x
  pub x2_size : nat_abs r.values.x2 ≤ most_x
  pub x3_size : nat_abs r.values.x3 ≤ most_x
  pub v_size : nat_abs r.values.v ≤ most_u * r.months
  pub x1_sign : pos 0 ≤ℤ r.values.x1
  pub x2_sign : r.values.x2 ≤ℤ pos 0
  pub v_above : pos 0 <ℤ r.values.v → r.values.x3 <ℤ pos 0
  pub v_below : r.values.v <ℤ pos 0 → pos 0 <ℤ r.values.x3
