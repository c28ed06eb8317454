-- Document 01, "Not a run", clause by clause, as tests; and document 02, E11. Assumes nothing.
use Rattle.std.specs.Prelude.{ℕ, ◌*◌, Bool, not, ◌&&◌, ◌||◌, pos, nat_abs, leb}
use Rattle.std.specs.Int.Signed.{le_z, lt_z}
use Rattle.outline.specs.Numbers.{most_x, most_u}
use Rattle.water.specs.Layers.{least_capacity, most_capacity, surface_holds, underlying_holds}
use Rattle.water.specs.declared.Soil.{Soil}
use Rattle.spells.specs.declared.Running.{Running}
use Rattle.ranges.specs.Ranges.{constants_fit, calendar_fits}
use Rattle.calendar.specs.Calendar.{some_zero_k}
use Rattle.runs.specs.declared.Run.{Run}

-- "capacity or storages out of range": not so
unfoldable pub soil_fits : Soil → Bool
soil_fits s =
    leb least_capacity s.capacity
    && leb s.capacity most_capacity
    && leb s.surface (surface_holds s.capacity)
    && leb s.underlying (underlying_holds s.capacity)

-- "any X beyond 13,000,000 in size": none
unfoldable pub sizes_fit : Running → Bool
sizes_fit v = leb (nat_abs v.x1) most_x && leb (nat_abs v.x2) most_x && leb (nat_abs v.x3) most_x

-- "X1 negative or X2 positive; .. V above 0 without X3 below 0, or V below 0 without X3 above 0": none of these
unfoldable pub signs_fit : Running → Bool
signs_fit v =
    le_z (pos 0) v.x1
    && le_z v.x2 (pos 0)
    && (le_z v.v (pos 0) || lt_z v.x3 (pos 0))
    && (le_z (pos 0) v.v || lt_z (pos 0) v.x3)

-- "V beyond 4,000,150 x months in size": not so
unfoldable pub v_fits : ℕ → Running → Bool
v_fits months v = leb (nat_abs v.v) (most_u * months)

-- a run, for columns of this length: "months above the column length; open months above months; constants, capacity or storages out of
-- range; calendar month not 1 to 12; ..": none of these. E11: "A zero K is now refused .. in a run"
unfoldable pub is_run : ℕ → Run → Bool
is_run long r =
    leb r.months long
    && leb r.opens r.months
    && constants_fit r.constants
    && not (some_zero_k r.constants)
    && soil_fits r.soil
    && calendar_fits r.calendar
    && sizes_fit r.values
    && signs_fit r.values
    && v_fits r.months r.values
