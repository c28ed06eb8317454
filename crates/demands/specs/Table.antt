-- THE OUTLINE'S TABLE OF REFUSALS, call by call: for each number that a call gives, when it is "given exactly when", as an equivalence of its own, in
-- the table's order. Each says that the tests before its own were passed, as Given.antt beside this file has it, where also stands that no
-- other number is ever given. 1 is of all that is lent (`columns_fit`), and 7 of a run for what is lent (`is_run_of`), whose last row ends where it stands
-- (document 02, E6). `table` of proofs/Table.antt proves it. Assumes nothing.
use Rattle.std.specs.Prelude.{◌≡◌, true, false, ◌↔◌, ◌⊎◌, List, ℕ, ◌≤◌, ◌<◌, ℤ, nat_abs, length}
use Rattle.outline.specs.Numbers.{many_constants, most_z}
use Rattle.door.specs.Readings.{reading}
use Rattle.door.specs.declared.Reading.{Reading}
use Rattle.door.specs.declared.Reading.TheVariants.{Inches, Missing}
use Rattle.door.specs.declared.MonthInches.{MonthInches}
use Rattle.ranges.specs.Ranges.{constants_fit}
use Rattle.calendar.specs.Calendar.{ZeroK}
use Rattle.runs.specs.declared.Run.{Run}
use Rattle.starts.specs.Start.{capacity_fits, storages_fit, month_fits, start_of}
use Rattle.starts.specs.Given.{ConstantsTaken, StartFits}
use Rattle.series.specs.Series.{all_z_fit, lists_fit, whole_series}
use Rattle.refusals.specs.Book.{Book, long, columns_fit}
use Rattle.refusals.specs.Refusals.{is_run_of}
use Rattle.refusals.specs.Good.{Good}
use Rattle.drought.specs.Calls.{row_of_run}
use Rattle.season.specs.Season.{add_season}
use Rattle.demands.specs.Months.{water, inches, anomaly, asked, standing, Accepted, months_of}
use Rattle.demands.specs.Given.{Acceptable, Begins, StopsWith}

-- what 9 says of a reading
abbrev pub NotAcceptable : Reading → Type 0
NotAcceptable r = (r ≡ Missing → ⊥) × (Acceptable r → ⊥)

-- a reading by itself
pub record ReadingTable (r : Reading) (k : ℕ) : Type 0 where
  pub gives_0 : (k ≡ 0) ↔ Acceptable r
  pub gives_8 : (k ≡ 8) ↔ (r ≡ Missing)
  pub gives_9 : (k ≡ 9) ↔ NotAcceptable r

-- a start
pub record StartTable (cs : List ℤ) (c ss su m : ℤ) (k : ℕ) : Type 0 where
  pub gives_0 : (k ≡ 0) ↔ StartFits cs c ss su m
  pub gives_2 : (k ≡ 2) ↔ (length cs ≡ many_constants → ⊥)
  pub gives_3 : (k ≡ 3) ↔ ((length cs ≡ many_constants) × (constants_fit cs ≡ false))
  pub gives_4 : (k ≡ 4) ↔ (ConstantsTaken cs × (capacity_fits c ≡ false))
  pub gives_5 : (k ≡ 5) ↔ (ConstantsTaken cs × (capacity_fits c ≡ true) × (storages_fit c ss su ≡ false))
  pub gives_6 : (k ≡ 6) ↔ (ConstantsTaken cs × (capacity_fits c ≡ true) × (storages_fit c ss su ≡ true) × (month_fits m ≡ false))
  pub gives_21 : (k ≡ 21) ↔ ((length cs ≡ many_constants) × (constants_fit cs ≡ true) × ZeroK cs)

-- an add of water, by two readings
pub record WaterTable (r : Run) (p pe : Reading) (cs : Book) (k : ℕ) : Type 0 where
  pub gives_0 : (k ≡ 0) ↔ (Good r cs × Acceptable p × Acceptable pe × (r.months < long cs))
  pub gives_1 : (k ≡ 1) ↔ (columns_fit cs ≡ false)
  pub gives_7 : (k ≡ 7) ↔ ((columns_fit cs ≡ true) × (is_run_of cs r ≡ false))
  pub gives_8 : (k ≡ 8) ↔ (Good r cs × ((p ≡ Missing) ⊎ (Acceptable p × (pe ≡ Missing))))
  pub gives_9 : (k ≡ 9) ↔ (Good r cs × (NotAcceptable p ⊎ (Acceptable p × NotAcceptable pe)))
  pub gives_10 : (k ≡ 10) ↔ (Good r cs × Acceptable p × Acceptable pe × (r.months ≡ long cs))

-- an add of Z
pub record ZTable (r : Run) (z : ℤ) (cs : Book) (k : ℕ) : Type 0 where
  pub gives_0 : (k ≡ 0) ↔ (Good r cs × (nat_abs z ≤ most_z) × (r.months < long cs))
  pub gives_1 : (k ≡ 1) ↔ (columns_fit cs ≡ false)
  pub gives_7 : (k ≡ 7) ↔ ((columns_fit cs ≡ true) × (is_run_of cs r ≡ false))
  pub gives_10 : (k ≡ 10) ↔ (Good r cs × (nat_abs z ≤ most_z) × (r.months ≡ long cs))
  pub gives_12 : (k ≡ 12) ↔ (Good r cs × (most_z < nat_abs z))

-- a row
pub record RowTable (r : Run) (i : ℕ) (cs : Book) (k : ℕ) : Type 0 where
  pub gives_0 : (k ≡ 0) ↔ (Good r cs × (i < r.months))
  pub gives_1 : (k ≡ 1) ↔ (columns_fit cs ≡ false)
  pub gives_7 : (k ≡ 7) ↔ ((columns_fit cs ≡ true) × (is_run_of cs r ≡ false))
  pub gives_11 : (k ≡ 11) ↔ (Good r cs × (r.months ≤ i))

-- a whole series
pub record SeriesTable (z index : List ℤ) (mark : List ℕ) (k : ℕ) : Type 0 where
  pub gives_0 : (k ≡ 0) ↔ ((lists_fit (length z) (length index) (length mark) ≡ true) × (all_z_fit z ≡ true))
  pub gives_1 : (k ≡ 1) ↔ (lists_fit (length z) (length index) (length mark) ≡ false)
  pub gives_12 : (k ≡ 12) ↔ ((lists_fit (length z) (length index) (length mark) ≡ true) × (all_z_fit z ≡ false))

-- a season
module _ (r : Run) (ps pes : List ℤ) (cs : Book) where
  pub record SeasonTable (k : ℕ) : Type 0 where
    pub gives_0 : (k ≡ 0) ↔ (Begins r ps pes cs × Accepted (standing r cs) (months_of ps pes))
    pub gives_1 : (k ≡ 1) ↔ ((length ps ≡ length pes → ⊥) ⊎ (columns_fit cs ≡ false))
    pub gives_7 : (k ≡ 7) ↔ ((length ps ≡ length pes) × (columns_fit cs ≡ true) × (is_run_of cs r ≡ false))
    pub gives_8 : (k ≡ 8) ↔ (Begins r ps pes cs × StopsWith 8 (standing r cs) (months_of ps pes))
    pub gives_9 : (k ≡ 9) ↔ (Begins r ps pes cs × StopsWith 9 (standing r cs) (months_of ps pes))
    pub gives_10 : (k ≡ 10) ↔ (Begins r ps pes cs × StopsWith 10 (standing r cs) (months_of ps pes))

-- every call
pub record Table : Type 0 where
  pub readings : (r : Reading) → ReadingTable r (reading r).number
  pub starts : (cs : List ℤ) (c ss su m : ℤ) → StartTable cs c ss su m (start_of cs c ss su m).number
  pub waters : (r : Run) (p pe : Reading) (cs : Book) → WaterTable r p pe cs (asked r (water p pe) cs).answer.number
  -- two binary32 inches are two readings in inches
  pub inches_too : (r : Run) (q : MonthInches) (cs : Book) → WaterTable r (Inches q.p) (Inches q.pe) cs (asked r (inches q) cs).answer.number
  pub anomalies : (r : Run) (z : ℤ) (cs : Book) → ZTable r z cs (asked r (anomaly z) cs).answer.number
  pub seasons : (r : Run) (ps pes : List ℤ) (cs : Book) → SeasonTable r ps pes cs (add_season r ps pes cs).answer.number
  pub rows : (r : Run) (i : ℕ) (cs : Book) → RowTable r i cs (row_of_run r i cs).number
  pub series : (z index : List ℤ) (mark : List ℕ) → SeriesTable z index mark (whole_series z index mark).number
