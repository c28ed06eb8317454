-- A refusal in the code's own enum as its number in the table (Refusals), and an answer as its number, 0 where nothing is refused. Each
-- refusal has one number and no two have the same (proofs/Refused.antt). Assumes nothing.
use Rattle.std.specs.Prelude.{ℕ, Result, Ok, Err}
use Rattle.outline.specs.Refusals.{bad_lists, not_sixty, bad_constant, bad_capacity, bad_storage, bad_month, not_a_run, missing, not_acceptable, full, no_such_row, bad_z, not_a_number, waterless, few_years, bad_gamma, bad_k, zero_k}
use Rattle.outline.specs.declared.Refusal.{Refusal}
use Rattle.outline.specs.declared.Refusal.TheVariants.{BadLists, NotSixty, BadConstant, BadCapacity, BadStorage, BadMonth, NotARun, NoReading, BadReading, Full, NoSuchRow, BadZ, NotANumber, Malformed, OtherLine, NotTheYear, Waterless, FewYears, BadGamma, BadK, ZeroK, Unfit, NoRoom}

-- 14, 15 and 16 are those of a line that is read, 24 and 25 those of a line that is written: the crate `fields` has their sentences
abbrev pub refusal_number : Refusal → ℕ
refusal_number BadLists = bad_lists
refusal_number NotSixty = not_sixty
refusal_number BadConstant = bad_constant
refusal_number BadCapacity = bad_capacity
refusal_number BadStorage = bad_storage
refusal_number BadMonth = bad_month
refusal_number NotARun = not_a_run
refusal_number NoReading = missing
refusal_number BadReading = not_acceptable
refusal_number Full = full
refusal_number NoSuchRow = no_such_row
refusal_number BadZ = bad_z
refusal_number NotANumber = not_a_number
refusal_number Malformed = 14
refusal_number OtherLine = 15
refusal_number NotTheYear = 16
refusal_number Waterless = waterless
refusal_number FewYears = few_years
refusal_number BadGamma = bad_gamma
refusal_number BadK = bad_k
refusal_number ZeroK = zero_k
refusal_number Unfit = 24
refusal_number NoRoom = 25

abbrev pub answer_number : {A : Type 0} → Result A Refusal → ℕ
answer_number (Ok _) = 0
answer_number (Err e) = refusal_number e
