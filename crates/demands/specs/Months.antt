-- Months added one by one: what may be added, the state that the calls carry from one to the next, and the figures, rows and records that the
-- rules of a month give, which know nothing of runs or columns. The statements of this crate speak in these words. Assumes nothing.
use Rattle.std.specs.Prelude.{ℕ, ◌≡◌, List, [], ◌∷◌, map, ℤ, pos, None}
use Rattle.door.specs.Outcome.{kinds_of, no_kinds}
use Rattle.door.specs.Readings.{reading, month}
use Rattle.door.specs.declared.MonthKinds.{MonthKinds}
use Rattle.door.specs.declared.Reading.{Reading}
use Rattle.door.specs.declared.MonthInches.{MonthInches}
use Rattle.water.specs.Expected.{month_of}
use Rattle.water.specs.declared.Soil.{Soil}
use Rattle.water.specs.declared.Month.{Month}
use Rattle.spells.specs.Spells.{step_of}
use Rattle.spells.specs.declared.Running.{Running}
use Rattle.modified.specs.Modified.{modified_of}
use Rattle.hindsight.specs.Rule.{Row}
use Rattle.hindsight.specs.Columns.{rows_of}
use Rattle.hindsight.specs.Months.{row_for}
use Rattle.calendar.specs.Calendar.{constants_at, next_calendar}
use Rattle.runs.specs.declared.Run.{Run}
use Rattle.records.specs.Record.{water_record, z_record}
use Rattle.records.specs.declared.Record.{Record}
use Rattle.refusals.specs.Book.{Book}
use Rattle.adding.specs.Figures.{water_figures, no_water, figures_of}
use Rattle.drought.specs.Calls.{add_water, add_inches, add_z}
use Rattle.adding.specs.Taken.{Result, soil_after}
use Rattle.adding.specs.declared.Added.{Added}
use Rattle.adding.specs.declared.Figures.{Figures}
use Rattle.adding.specs.declared.WaterFigures.{WaterFigures}
use Rattle.season.specs.Season.{SeasonResult}
use Rattle.season_month.specs.Listed.{listed}

-- a month that is added: water by two readings, water by two binary32 inches, or a Z
pub data Ask : Type 0 where
  water : Reading → Reading → Ask
  inches : MonthInches → Ask
  anomaly : ℤ → Ask

-- the call that adds it
abbrev pub asked : Run → Ask → Book → Result
asked r (water p pe) cs = add_water r p pe cs
asked r (inches q) cs = add_inches r q cs
asked r (anomaly z) cs = add_z r z cs

-- the run that a call handed back, and the columns as it left them: "columns nobody else writes"
pub record State : Type 0 where
  pub run : Run
  pub columns : Book

abbrev pub standing : Run → Book → State
standing r cs = record { run = r; columns = cs }

abbrev pub state_of : Result → State
state_of a = standing a.answer.run a.columns

abbrev pub after : State → Ask → State
after s a = state_of (asked s.run a s.columns)

-- months added one by one
abbrev pub after_all : State → List Ask → State
after_all s [] = s
after_all s (a ∷ later) = after_all (after s a) later

-- "accepted months": no call refuses
abbrev pub Accepted : State → List Ask → Type 0
Accepted s [] = Unit {0}
Accepted s (a ∷ later) = ((asked s.run a s.columns).answer.number ≡ 0) × Accepted (after s a) later

-- what the adds answer, month after month, refused or not
abbrev pub answers_to : State → List Ask → List Added
answers_to s [] = []
answers_to s (a ∷ later) = (asked s.run a s.columns).answer ∷ answers_to (after s a) later

-- the figures of that
abbrev pub figures_answered : State → List Ask → List Figures
figures_answered s asks = map (λ (b : Added). b.figures) (answers_to s asks)

-- the months of a season's two lists
abbrev pub months_of : List ℤ → List ℤ → List Ask
months_of [] pes = []
months_of (p ∷ ps) [] = []
months_of (p ∷ ps) (pe ∷ pes) = water (listed p) (listed pe) ∷ months_of ps pes

-- where a season stands when its call returns
abbrev pub left_of : SeasonResult → State
left_of t = standing t.answer.run t.columns

-- ---- the figures, the rows and the records of months, by the rules of water and of spells alone
pub record Station : Type 0 where
  pub soil : Soil
  pub calendar : ℕ
  pub constants : List ℤ
  pub values : Running

abbrev pub station_of : Run → Station
station_of r = record { soil = r.soil; calendar = r.calendar; constants = r.constants; values = r.values }

-- the station's month of water
abbrev pub watered : Station → ℕ → ℕ → Month
watered s p pe = month_of s.soil p pe (constants_at s.constants s.calendar)

abbrev pub z_for : Station → Ask → ℤ
z_for s (water p pe) = (watered s (reading p).water (reading pe).water).z
z_for s (inches q) = (watered s (month q).p.water (month q).pe.water).z
z_for s (anomaly z) = z

abbrev pub soil_for : Station → Ask → Soil
soil_for s (water p pe) = soil_after s.soil (watered s (reading p).water (reading pe).water)
soil_for s (inches q) = soil_after s.soil (watered s (month q).p.water (month q).pe.water)
soil_for s (anomaly z) = s.soil

-- the kinds of the month's two readings (document 02, E7), which no other figure hangs on
abbrev pub kinds_for : Ask → MonthKinds
kinds_for (water p pe) = kinds_of (reading p) (reading pe)
kinds_for (inches q) = kinds_of (month q).p (month q).pe
kinds_for (anomaly z) = no_kinds

abbrev pub water_for : Station → Ask → WaterFigures
water_for s (water p pe) = water_figures (reading p).water (reading pe).water (kinds_for (water p pe)) (watered s (reading p).water (reading pe).water)
water_for s (inches q) = water_figures (month q).p.water (month q).pe.water (kinds_for (inches q)) (watered s (month q).p.water (month q).pe.water)
water_for s (anomaly z) = no_water

abbrev pub station_next : Station → Ask → Station
station_next s a =
    record {
      soil = soil_for s a;
      calendar = next_calendar s.calendar;
      constants = s.constants;
      values = (step_of s.values (z_for s a)).after;
    }

-- the month's modified index (document 02, E4)
abbrev pub modified_for : Station → Ask → ℤ
modified_for s a = modified_of s.values (z_for s a)

-- the month's figures
abbrev pub figures_for : Station → Ask → Figures
figures_for s a = figures_of (water_for s a) (z_for s a) (step_of s.values (z_for s a)) (modified_for s a)

-- those of months, one after another
abbrev pub figures_of_months : Station → List Ask → List Figures
figures_of_months s [] = []
figures_of_months s (a ∷ later) = figures_for s a ∷ figures_of_months (station_next s a) later

-- the month's record (document 02, E6): of water by either call, or of an added Z
abbrev pub record_for : Station → Ask → Record
record_for s (water p pe) = water_record s.soil (reading p).water (reading pe).water (watered s (reading p).water (reading pe).water) (modified_for s (water p pe)) (kinds_for (water p pe)).p
record_for s (inches q) = water_record s.soil (month q).p.water (month q).pe.water (watered s (month q).p.water (month q).pe.water) (modified_for s (inches q)) (kinds_for (inches q)).p
record_for s (anomaly z) = z_record s.soil z (modified_for s (anomaly z))

-- those of months, one after another
abbrev pub records_of_months : Station → List Ask → List Record
records_of_months s [] = []
records_of_months s (a ∷ later) = record_for s a ∷ records_of_months (station_next s a) later

-- V after each of them
abbrev pub v_of_months : Station → List Ask → List ℤ
v_of_months s [] = []
v_of_months s (a ∷ later) = (station_next s a).values.v ∷ v_of_months (station_next s a) later

-- the month's row
abbrev pub station_row : Station → Ask → Row
station_row s a = row_for (step_of s.values (z_for s a))

-- where there is no month
abbrev pub no_row : Row
no_row = record { x = record { x1 = pos 0; x2 = pos 0; x3 = pos 0 }; decision = None; shown = pos 0 }

-- the rows of all months so far
abbrev pub rows_of_months : Run → List Ask → List Row
rows_of_months r asks = rows_of station_next station_row (station_of r) asks
