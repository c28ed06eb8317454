-- A proof's vocabulary, here since contracts cite it; no promise leans on it. The steps from a line's values to what is found of its months.
-- Assumes nothing.
use Rattle.std.specs.Prelude.{ℕ, ◌+◌, ◌-◌, ◌*◌, true, false, cond, List, map, eqb}
use Rattle.std.specs.Int.Count.{count_trailing_zeros}
use Rattle.fields.specs.Columns.{first_value, width}
use Rattle.layout_months.specs.Months.{is_present, set_of, month_at_fault}
use Rattle.layout_months.specs.declared.Month.{Month}
use Rattle.layout_months.specs.declared.Month.TheVariants.{Amount, Missing, Outside, Malformed}
use Rattle.layout_months.specs.declared.Found.{Found}

-- what is found of months
unfoldable pub found_in : List Month → Found
found_in ms = record { malformed = set_of (map (month_at_fault false) ms); bad = set_of (map (month_at_fault true) ms); present = set_of (map is_present ms) }

-- and of one month more, whose bit this is
abbrev pub and_month : Found → Month → ℕ → Found
and_month f (Amount n) b = record { malformed = f.malformed; bad = f.bad; present = f.present + b }
and_month f Missing b = f
and_month f Outside b = record { malformed = f.malformed; bad = f.bad + b; present = f.present }
and_month f Malformed b = record { malformed = f.malformed + b; bad = f.bad + b; present = f.present }

-- the set that holds all twelve months
abbrev pub all_months : ℕ
all_months = 4095

-- the first missing month, by the zeros below the lowest one of the set's complement within twelve bits
unfoldable pub lowest_missing : ℕ → ℕ
lowest_missing set = cond (eqb set all_months) 0 (count_trailing_zeros 32 (all_months - set) + 1)

-- the column where the first month of a set begins, by the zeros below its lowest one
unfoldable pub column_of : ℕ → ℕ
column_of set = cond (eqb set 0) 0 (first_value + width * count_trailing_zeros 32 set)
