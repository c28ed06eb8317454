-- WHICH NUMBER EACH CALL GIVES, AND EXACTLY WHEN: the outline's table of refusals, call by call. Each call has one type with a case for each of
-- its numbers, in the table's order; a number of which it has no case is never given. A case says that what is asked before was passed
-- ("Order .. at an add of water: 1, 7, precipitation 8 or 9, PE 8 or 9, 10"), and what was not. A start's type is `StartGives` of the crate `starts`.
-- That a call gives a number exactly where its type has it is said in Demands.antt beside this file. Assumes nothing.
use Rattle.std.specs.Prelude.{◌≡◌, true, false, ◌⊎◌, List, [], ◌∷◌, ℕ, ◌≤◌, ◌<◌, ℤ, pos, nat_abs, length, ◌≤ℤ◌}
use Rattle.outline.specs.Numbers.{most_z}
use Rattle.outline.specs.Refusals.{bad_lists, not_a_run, missing, not_acceptable, full, no_such_row, bad_z}
use Rattle.door.specs.Exact.{within}
use Rattle.door.specs.Readings.{most_reading, most_inches, most_millimetres}
use Rattle.door.specs.declared.Reading.{Reading}
use Rattle.door.specs.declared.Reading.TheVariants.{Whole, Inches, Millimetres, Missing}
use Rattle.runs.specs.declared.Run.{Run}
use Rattle.series.specs.Series.{all_z_fit, lists_fit}
use Rattle.refusals.specs.Book.{Book, long, columns_fit}
use Rattle.refusals.specs.Refusals.{is_run_of}
use Rattle.refusals.specs.Good.{Good}
use Rattle.demands.specs.Months.{Ask, water, inches, anomaly, State, standing, after, Accepted, months_of}

-- ---- a reading by itself: 8 or 9

-- "whole thousandths (0 to 100,000), inches .. (0 to 100), millimetres .. (0 to 2,540)"; "Negative zero is 0. NaN, infinities, negatives and
-- anything above the range are refused" (`within`)
abbrev pub Acceptable : Reading → Type 0
Acceptable (Whole n) = (pos 0 ≤ℤ n) × (n ≤ℤ pos most_reading)
Acceptable (Inches x) = within most_inches x ≡ true
Acceptable (Millimetres x) = within most_millimetres x ≡ true
Acceptable Missing = ⊥

pub data ReadingGives (r : Reading) : ℕ → Type 0 where
  -- 0: done
  reading_0 : Acceptable r → ReadingGives r 0
  -- 8: "reading missing"
  reading_8 : r ≡ Missing → ReadingGives r missing
  -- 9: "reading not acceptable"
  reading_9 : (r ≡ Missing → ⊥) → (Acceptable r → ⊥) → ReadingGives r not_acceptable

-- ---- what a month that is to be added is refused with by itself, whatever the run and its columns are

-- "precipitation 8 or 9, PE 8 or 9": the first of the two that is refused
pub data MonthGives (p pe : Reading) (n : ℕ) : Type 0 where
  by_precipitation : (n ≡ 0 → ⊥) → ReadingGives p n → MonthGives p pe n
  by_pe : ReadingGives p 0 → ReadingGives pe n → MonthGives p pe n

pub data ZGives (z : ℤ) : ℕ → Type 0 where
  z_0 : nat_abs z ≤ most_z → ZGives z 0
  -- 12: "Z outside its range"
  z_12 : most_z < nat_abs z → ZGives z bad_z

abbrev pub ItselfGives : Ask → ℕ → Type 0
ItselfGives (water p pe) n = MonthGives p pe n
ItselfGives (inches q) n = MonthGives (Inches q.p) (Inches q.pe) n
ItselfGives (anomaly z) n = ZGives z n

-- ---- an add: of water 1, 7, 8 or 9, 10, of Z 1, 7, 12, 10. `Good`: the lists fit, and the run is one for them
pub data AddGives (r : Run) (a : Ask) (cs : Book) : ℕ → Type 0 where
  -- 0: done
  add_0 : Good r cs → ItselfGives a 0 → r.months < long cs → AddGives r a cs 0
  -- 1: "the five columns .. not all of one length, or length 0" or above the limit; and E6, "1 covers the new columns"
  add_1 : columns_fit cs ≡ false → AddGives r a cs bad_lists
  -- 7: "not a run", for what is lent; and E6, "after any month, the last row's end storages equal the run's"
  add_7 : columns_fit cs ≡ true → is_run_of cs r ≡ false → AddGives r a cs not_a_run
  -- 8: "reading missing"
  add_8 : Good r cs → ItselfGives a missing → AddGives r a cs missing
  -- 9: "reading not acceptable"
  add_9 : Good r cs → ItselfGives a not_acceptable → AddGives r a cs not_acceptable
  -- 10: "months already equal the column length"
  add_10 : Good r cs → ItselfGives a 0 → r.months ≡ long cs → AddGives r a cs full
  -- 12: "Z outside its range"
  add_12 : Good r cs → ItselfGives a bad_z → AddGives r a cs bad_z

-- ---- a row: 1, 7, 11
pub data RowGives (r : Run) (i : ℕ) (cs : Book) : ℕ → Type 0 where
  -- 0: done
  row_0 : Good r cs → i < r.months → RowGives r i cs 0
  -- 1: as of an add
  row_1 : columns_fit cs ≡ false → RowGives r i cs bad_lists
  -- 7: as of an add
  row_7 : columns_fit cs ≡ true → is_run_of cs r ≡ false → RowGives r i cs not_a_run
  -- 11: "row number not below the months added"
  row_11 : Good r cs → r.months ≤ i → RowGives r i cs no_such_row

-- ---- the whole series: 1, 12
pub data SeriesGives (z index : List ℤ) (mark : List ℕ) : ℕ → Type 0 where
  -- 0: done
  series_0 : lists_fit (length z) (length index) (length mark) ≡ true → all_z_fit z ≡ true → SeriesGives z index mark 0
  -- 1: "the three lists of a whole series, not all of one length, or length 0" or above the limit
  series_1 : lists_fit (length z) (length index) (length mark) ≡ false → SeriesGives z index mark bad_lists
  -- 12: "Z outside its range": some Z of the list
  series_12 : lists_fit (length z) (length index) (length mark) ≡ true → all_z_fit z ≡ false → SeriesGives z index mark bad_z

-- ---- a season (document 02, E2): 1 and 7 before its first month; then what the single adds give

-- "At the first month that a single add refuses": it gives n, which is not 0, and those before it were added
abbrev pub StopsWith : ℕ → State → List Ask → Type 0
StopsWith n s [] = ⊥
StopsWith n s (a ∷ later) =
    ((n ≡ 0 → ⊥) × AddGives s.run a s.columns n) ⊎ (AddGives s.run a s.columns 0 × StopsWith n (after s a) later)

-- two lists of one length, and neither 1 nor 7 of the run and of what is lent
pub record Begins (r : Run) (ps pes : List ℤ) (cs : Book) : Type 0 where
  pub one_length : length ps ≡ length pes
  pub good : Good r cs

module _ (r : Run) (ps pes : List ℤ) (cs : Book) where
  pub data SeasonGives : ℕ → Type 0 where
    -- 0: every month is added
    season-0 : Begins r ps pes cs → Accepted (standing r cs) (months_of ps pes) → SeasonGives 0
    -- 1: "two lists of unequal length", or the columns as of an add
    season-1-lists : (length ps ≡ length pes → ⊥) → SeasonGives bad_lists
    season-1 : columns_fit cs ≡ false → SeasonGives bad_lists
    -- 7: as of an add
    season-7 : length ps ≡ length pes → columns_fit cs ≡ true → is_run_of cs r ≡ false → SeasonGives not_a_run
    -- 8, 9 and 10: of the first month that a single add refuses
    season-8 : Begins r ps pes cs → StopsWith missing (standing r cs) (months_of ps pes) → SeasonGives missing
    season-9 : Begins r ps pes cs → StopsWith not_acceptable (standing r cs) (months_of ps pes) → SeasonGives not_acceptable
    season-10 : Begins r ps pes cs → StopsWith full (standing r cs) (months_of ps pes) → SeasonGives full
