-- A value as a month's precipitation, and what the twelve months of a line make. Document 02, E1: "Each answer holds the twelve amounts in
-- thousandths (0 where missing), a twelve-bit set of the months present, with the count of months present and the first missing month (0 if
-- none). A missing month is reported and never filled in." Assumes nothing.
use Rattle.std.specs.Prelude.{ℕ, ◌+◌, ◌*◌, Bool, true, false, cond, not, ◌&&◌, ◌||◌, List, [], ◌∷◌, map, Option, Some, None, leb, eqb}
use Rattle.fields.specs.Columns.{width, values}
use Rattle.fields.specs.Field.{field_of}
use Rattle.fields.specs.declared.Number.{Number}
use Rattle.layout_months.specs.declared.Month.{Month}
use Rattle.layout_months.specs.declared.Month.TheVariants.{Amount, Missing, Outside, Malformed}

-- ---- a month's precipitation
-- "its missing mark is -9.99"
abbrev pub mark_hundredths : ℕ
mark_hundredths = 999

-- "0 to 100 inches"
abbrev pub most_hundredths : ℕ
most_hundredths = 10000

unfoldable pub is_mark : Bool → ℕ → Bool
is_mark minus n = minus && eqb n mark_hundredths

-- a minus before 0 says 0
unfoldable pub in_range : Bool → ℕ → Bool
in_range minus n = leb n most_hundredths && (not minus || eqb n 0)

unfoldable pub rain_of : Bool → ℕ → Month
rain_of minus n = cond (is_mark minus n) Missing (cond (in_range minus n) (Amount (10 * n)) Outside)

abbrev pub month_said : Option Number → Month
month_said (Some said) = rain_of said.minus said.hundredths
month_said None = Malformed

unfoldable pub month_of : List ℕ → Month
month_of f = month_said (field_of f)

unfoldable pub months_of : List ℕ → List Month
months_of line = map month_of (values line)

-- ---- what the months make
abbrev pub is_malformed : Month → Bool
is_malformed (Amount n) = false
is_malformed Missing = false
is_malformed Outside = false
is_malformed Malformed = true

abbrev pub is_outside : Month → Bool
is_outside (Amount n) = false
is_outside Missing = false
is_outside Outside = true
is_outside Malformed = false

abbrev pub is_present : Month → Bool
is_present (Amount n) = true
is_present Missing = false
is_present Outside = false
is_present Malformed = false

-- thousandths, "0 where missing"
abbrev pub amount_of : Month → ℕ
amount_of (Amount n) = n
amount_of Missing = 0
amount_of Outside = 0
amount_of Malformed = 0

unfoldable pub some : List Bool → Bool
some [] = false
some (b ∷ bs) = b || some bs

-- ---- "a twelve-bit set of the months present": January's bit is the lowest
abbrev pub bit : Bool → ℕ
bit true = 1
bit false = 0

unfoldable pub set_of : List Bool → ℕ
set_of [] = 0
set_of (b ∷ bs) = bit b + 2 * set_of bs

-- "the count of months present"
unfoldable pub count_of : List Bool → ℕ
count_of [] = 0
count_of (b ∷ bs) = bit b + count_of bs

-- "the first missing month (0 if none)": m is the month that the list begins with
unfoldable pub first_missing : ℕ → List Bool → ℕ
first_missing m [] = 0
first_missing m (true ∷ bs) = first_missing (m + 1) bs
first_missing m (false ∷ bs) = m

-- ---- where they are at fault
-- a month that makes a line 14: malformed, or of a precipitation line and outside its range
abbrev pub month_at_fault : Bool → Month → Bool
month_at_fault rain (Amount n) = false
month_at_fault rain Missing = false
month_at_fault rain Outside = rain
month_at_fault rain Malformed = true

-- the column where the first such month begins, of months that begin at a column; 0 where there is none
unfoldable pub first_bad : Bool → ℕ → List Month → ℕ
first_bad rain column [] = 0
first_bad rain column (m ∷ ms) = cond (month_at_fault rain m) column (first_bad rain (column + width) ms)
