-- THE CLIENT'S THREE DEMANDS, in their order and words, as statements. They are about the definitions that the promises of the calls equate
-- each call with, for every input: a call of the code does what is said here, because its promise is that equation and has no `requires`.
-- `demand-1`, `demand-2` and `demand-3` of proofs/Demands.antt prove them. Months that are added one by one (`Ask`, `asked`, `after_all`,
-- `Accepted`) and what the rules make of them (`Station`, `figures_of_months`, `rows_of_months`) are in Months.antt beside this file; when a call
-- gives a number (`AddGives` and the others) in Given.antt, and number by number (`Table`) in Table.antt; `forward`, the rule that looks
-- forward from a month, in the crate `hindsight`, specs/Rule.antt. Document 02 has its own words of a season, in Seasons.antt, of
-- the months' records, in Recorded.antt, and of a repair, since which demand 3's last sentence then holds, in Repairs.antt. Assumes nothing.
use Rattle.std.specs.Prelude.{◌≡◌, true, cond, ◌↔◌, ◌⊎◌, List, ◌++◌, map, ℕ, suc, ◌+◌, ◌-◌, ◌%◌, ◌≤◌, ◌<◌, ℤ, pos, nat_abs, length, get_or, take, drop, set, replicate, Some}
use Rattle.outline.specs.Numbers.{most_z, last_month}
use Rattle.outline.specs.Refusals.{bad_lists, bad_capacity, bad_storage, not_a_run}
use Rattle.door.specs.Outcome.{refused}
use Rattle.door.specs.Readings.{reading, month}
use Rattle.door.specs.declared.Reading.{Reading}
use Rattle.door.specs.declared.MonthInches.{MonthInches}
use Rattle.water.specs.Layers.{surface_holds, underlying_holds, SoilFits}
use Rattle.water.specs.Expected.{month_of}
use Rattle.water.specs.declared.Soil.{Soil}
use Rattle.water.specs.declared.Constants.{Constants}
use Rattle.spells.specs.Spells.{step_of}
use Rattle.spells.specs.declared.With.{With}
use Rattle.hindsight.specs.Rule.{X, Row, forward}
use Rattle.hindsight.specs.Adding.{settled_all}
use Rattle.hindsight.specs.Columns.{x_at, xs_from}
use Rattle.hindsight_laws.specs.Counts.{NoneFrom, count}
use Rattle.calendar.specs.Calendar.{constants_at, ZeroK}
use Rattle.starts.specs.Start.{start_refusal, start_of, fresh_run, zero_run}
use Rattle.starts.specs.Given.{StartGives}
use Rattle.runs.specs.declared.Run.{Run}
use Rattle.records.specs.Record.{numbers_of}
use Rattle.series.specs.Series.{all_z_fit, series_refusal, filled, whole_series}
use Rattle.refusals.specs.Book.{Book, long, columns_fit}
use Rattle.refusals.specs.Refusals.{water_refusal, z_refusal}
use Rattle.adding.specs.Figures.{no_figures}
use Rattle.adding.specs.Taken.{Result, held_by}
use Rattle.drought.specs.Calls.{shown, not_shown, row_of_run}
use Rattle.season.specs.Season.{season_result, nothing, add_season}
use Rattle.repair.specs.Repair.{repair}
use Rattle.demands.specs.Months.{Ask, water, inches, anomaly, asked, State, standing, after, after_all, Accepted, figures_answered, months_of, left_of, station_of, figures_for, figures_of_months, record_for, no_row, rows_of_months}
use Rattle.demands.specs.Given.{ReadingGives, AddGives, RowGives, SeriesGives, SeasonGives}
use Rattle.demands.specs.Table.{Table}

-- ---- a fresh run whose columns nobody else writes

-- a start that was not refused, and lent lists of any content: the five columns, the records and V
pub record Fresh : Type 0 where
  pub constants : List ℤ
  pub capacity : ℤ
  pub surface : ℤ
  pub underlying : ℤ
  pub month : ℤ
  pub columns : Book
  pub started : start_refusal constants capacity surface underlying month ≡ 0

-- the run that it gave (`Demand1.starts`), and the columns
abbrev pub first : Fresh → State
first f = standing (fresh_run f.constants f.capacity f.surface f.underlying f.month) f.columns

-- the run and the columns after months have been added to it, one by one
abbrev pub now : Fresh → List Ask → State
now f asks = after_all (first f) asks

-- ---- 1. "Every reading, constant, month and list gets its answer or a numbered refusal. Nobody has to check beforehand. A refused call
-- hands back any run it was given and writes nothing."

-- the number that an add gives: 0, or the first refusal in the paper's order
abbrev pub number_of : Run → Ask → Book → ℕ
number_of r (water p pe) cs = water_refusal r (reading p).number (reading pe).number cs
number_of r (inches q) cs = water_refusal r (month q).p.number (month q).pe.number cs
number_of r (anomaly z) cs = z_refusal r z cs

-- an answer with that number; a refusal hands back the run, leaves the columns, settles nothing, and its figures are all 0
abbrev pub Answers : Run → Book → ℕ → Result → Type 0
Answers r cs k b =
    (b.answer.number ≡ k)
    × ((k ≡ 0 → ⊥) → (b.answer.run ≡ r) × (b.columns ≡ cs) × (b.answer.settled ≡ 0) × (b.answer.figures ≡ no_figures))

-- neither 1 nor 7
abbrev pub Honest : ℕ → Type 0
Honest k = (k ≡ 1 → ⊥) × (k ≡ 7 → ⊥)

pub record Demand1 : Type 0 where
  -- EVERY READING: each number exactly when, and a refused one gives no water and no kind
  pub readings : (r : Reading) → ((reading r).number ≡ 0 → ⊥) → reading r ≡ refused (reading r).number
  pub readings_exactly : (r : Reading) (n : ℕ) → ((reading r).number ≡ n) ↔ ReadingGives r n
  -- EVERY START: a refused one hands back all zeros
  pub starts :
      (constants : List ℤ) (c ss su m : ℤ)
      → ((start_of constants c ss su m).number ≡ start_refusal constants c ss su m)
      × ((start_refusal constants c ss su m ≡ 0 → ⊥) → (start_of constants c ss su m).run ≡ zero_run)
      × (start_refusal constants c ss su m ≡ 0 → (start_of constants c ss su m).run ≡ fresh_run constants c ss su m)
  pub starts_exactly : (constants : List ℤ) (c ss su m : ℤ) (n : ℕ) → ((start_of constants c ss su m).number ≡ n) ↔ StartGives constants c ss su m n
  -- EVERY ADD, of water by either call and of Z
  pub adds : (r : Run) (a : Ask) (cs : Book) → Answers r cs (number_of r a cs) (asked r a cs)
  pub adds_exactly : (r : Run) (a : Ask) (cs : Book) (n : ℕ) → ((asked r a cs).answer.number ≡ n) ↔ AddGives r a cs n
  -- EVERY SEASON: what it hands back and leaves is what the months added before the refused one leave, each accepted; with 1 or 7, which come
  -- before the first month, nothing is added. Document 02, E2: "demand 1's "writes nothing" then speaks of the refused month and those after it"
  pub seasons :
      (r : Run) (ps pes : List ℤ) (cs : Book)
      → let t = add_season r ps pes cs in
      let s = standing r cs in
      Accepted s (take t.answer.added (months_of ps pes)) × (left_of t ≡ after_all s (take t.answer.added (months_of ps pes)))
  pub seasons-refused :
      (r : Run) (ps pes : List ℤ) (cs : Book) → let t = add_season r ps pes cs in (t.answer.number ≡ bad_lists) ⊎ (t.answer.number ≡ not_a_run) → t ≡ season_result (nothing t.answer.number r) cs
  pub seasons_exactly : (r : Run) (ps pes : List ℤ) (cs : Book) (n : ℕ) → ((add_season r ps pes cs).answer.number ≡ n) ↔ SeasonGives r ps pes cs n
  -- EVERY ROW: "what the five columns hold there", and E6's record and V, or all zeros beside its number. It answers with no run, since its caller
  -- has the one that it handed in, by value, and no list is lent to be written
  pub rows :
      (r : Run) (i : ℕ) (cs : Book)
      → ((row_of_run r i cs).number ≡ 0 → row_of_run r i cs ≡ shown i cs) × (((row_of_run r i cs).number ≡ 0 → ⊥) → row_of_run r i cs ≡ not_shown (row_of_run r i cs).number)
  pub rows_exactly : (r : Run) (i : ℕ) (cs : Book) (n : ℕ) → ((row_of_run r i cs).number ≡ n) ↔ RowGives r i cs n
  -- EVERY WHOLE SERIES
  pub series :
      (z index : List ℤ) (mark : List ℕ)
      → ((whole_series z index mark).number ≡ series_refusal z (length index) (length mark))
      × ((series_refusal z (length index) (length mark) ≡ 0 → ⊥) → ((whole_series z index mark).index ≡ index) × ((whole_series z index mark).mark ≡ mark))
  pub series_exactly : (z index : List ℤ) (mark : List ℕ) (n : ℕ) → ((whole_series z index mark).number ≡ n) ↔ SeriesGives z index mark n
  -- and of every call each of its numbers by itself, in the order of the outline's table
  pub table : Table
  -- what a start gives and each add keeps is a run: on columns that nobody else writes no add, row or season (of two lists of one length) is
  -- ever refused 1 or 7, whatever was asked before, accepted or refused
  pub honest : (f : Fresh) → columns_fit f.columns ≡ true → (asks : List Ask) (a : Ask) → Honest (asked (now f asks).run a (now f asks).columns).answer.number
  pub honest_rows : (f : Fresh) → columns_fit f.columns ≡ true → (asks : List Ask) (i : ℕ) → Honest (row_of_run (now f asks).run i (now f asks).columns).number
  pub honest-seasons :
      (f : Fresh) → columns_fit f.columns ≡ true → (asks : List Ask) (ps pes : List ℤ) → length ps ≡ length pes
      → Honest (add_season (now f asks).run ps pes (now f asks).columns).answer.number
  -- a run that holds a K of 0 is none: 7, whatever is asked of it; 1 is asked before
  pub zero-k :
      (r : Run) (cs : Book) → ZeroK r.constants
      → let k = cond (columns_fit cs) not_a_run bad_lists in
      ((a : Ask) → (asked r a cs).answer.number ≡ k) × ((i : ℕ) → (row_of_run r i cs).number ≡ k)
  -- "every March was "normal"": with a K of 0 a month's Z is 0, whatever falls
  pub nothing : (s : Soil) (p pe : ℕ) (k : Constants) → k.k ≡ 0 → (month_of s p pe k).z ≡ pos 0
  -- and no such month is ever added
  pub counts : (r : Run) (a : Ask) (cs : Book) → (asked r a cs).answer.number ≡ 0 → 1 ≤ (constants_at r.constants r.calendar).k

-- ---- 2. "Water balance, expected precipitation, anomaly Z, the three running indexes and the chance of an ending equal Palmer's 1965 rules
-- as our outline states and rounds them. In each month of water precipitation equals evapotranspiration plus runoff plus the gain in soil
-- storage, and neither layer ever passes its capacity."

-- what the columns hold of the month at place i
abbrev pub values_at : State → ℕ → X
values_at s i = x_at s.columns.x1 s.columns.x2 s.columns.x3 i

-- the calendar month n months after the month m: after December comes January
abbrev pub calendar_after : ℕ → ℕ → ℕ
calendar_after m n = (m - 1 + n) % last_month + 1

-- P = ET + RO + the gain in storage: with the storages before and after, and no subtraction
abbrev pub Balances : Run → Result → Type 0
Balances r b =
    b.answer.figures.water.p + (r.soil.surface + r.soil.underlying)
    ≡ (b.answer.figures.water.et + b.answer.figures.water.ro) + (b.answer.run.soil.surface + b.answer.run.soil.underlying)

-- a run that exists: a start gave it, refused or not, or an add, a season or (document 02, E8) a repair handed it back, refused or not, on whatever columns
pub data Existing : Run → Type 0 where
  by_start : (constants : List ℤ) (c ss su m : ℤ) → Existing (start_of constants c ss su m).run
  by_add : (r : Run) (a : Ask) (cs : Book) → Existing r → Existing (asked r a cs).answer.run
  by_season : (r : Run) (ps pes : List ℤ) (cs : Book) → Existing r → Existing (add_season r ps pes cs).answer.run
  by_repair : (r : Run) (i : ℕ) (p pe : Reading) (cs : Book) (report : List (List ℤ)) → Existing r → Existing (repair r i p pe cs report).answer.run

pub record Demand2 : Type 0 where
  -- the figures of an accepted month are those that the rules of water and of spells give
  pub figures : (r : Run) (a : Ask) (cs : Book) → (asked r a cs).answer.number ≡ 0 → (asked r a cs).answer.figures ≡ figures_for (station_of r) a
  -- MONTH AFTER MONTH: what accepted months answer, one after another, is what the rules give of the start alone, each month from what the
  -- month before it left. So no run that reckons the first month and repeats its figures is this one
  pub chain : (f : Fresh) (asks : List Ask) → Accepted (first f) asks → figures_answered (first f) asks ≡ figures_of_months (station_of (first f).run) asks
  -- and the columns X1, X2 and X3 hold what the rules give, each month's at its place
  pub columns : (f : Fresh) (asks : List Ask) → Accepted (first f) asks → (i : ℕ) → i < length asks → values_at (now f asks) i ≡ (get_or (rows_of_months (first f).run asks) i no_row).x
  -- "A run keeps its own copy of the sixty constants", as they were given, and each month is reckoned with those of its calendar month
  pub kept : (f : Fresh) (asks : List Ask) → Accepted (first f) asks → (now f asks).run.constants ≡ f.constants
  pub calendar : (f : Fresh) (asks : List Ask) → Accepted (first f) asks → (now f asks).run.calendar ≡ calendar_after (nat_abs f.month) (length asks)
  -- an accepted month of water balances, by whichever call it came
  pub balances : (r : Run) (p pe : Reading) (cs : Book) → (asked r (water p pe) cs).answer.number ≡ 0 → Balances r (asked r (water p pe) cs)
  pub balances_inches : (r : Run) (q : MonthInches) (cs : Book) → (asked r (inches q) cs).answer.number ≡ 0 → Balances r (asked r (inches q) cs)
  -- its Z is one that may be "given directly", by whichever call it came
  pub anomalies : (r : Run) (a : Ask) (cs : Book) → (asked r a cs).answer.number ≡ 0 → nat_abs (asked r a cs).answer.figures.z ≤ most_z
  -- NEITHER LAYER EVER PASSES ITS CAPACITY: of no run that exists,
  pub exists : (r : Run) → Existing r → (r.soil.surface ≤ surface_holds r.soil.capacity) × (r.soil.underlying ≤ underlying_holds r.soil.capacity)
  -- and the capacity is in its range: after an accepted month, whatever the run was,
  pub layers : (r : Run) (a : Ask) (cs : Book) → (asked r a cs).answer.number ≡ 0 → SoilFits (asked r a cs).answer.run.soil
  -- at a start that was not refused, and after any months from it on, accepted or refused
  pub started : (constants : List ℤ) (c ss su m : ℤ) → start_refusal constants c ss su m ≡ 0 → SoilFits (start_of constants c ss su m).run.soil
  pub always : (f : Fresh) (asks : List Ask) → SoilFits (now f asks).run.soil
  -- "C may be 100 to 30,000": and no start refuses such a soil with 4 or 5
  pub soils :
      (constants : List ℤ) (s : Soil) (m : ℤ) → SoilFits s
      → let k = start_refusal constants (pos s.capacity) (pos s.surface) (pos s.underlying) m in (k ≡ bad_capacity → ⊥) × (k ≡ bad_storage → ⊥)

-- ---- 3. "Take any accepted months added one by one to a fresh run whose columns nobody else writes."

-- the rows of all months so far
abbrev pub rows_so_far : Fresh → List Ask → List Row
rows_so_far f asks = rows_of_months (first f).run asks

abbrev pub index_at : State → ℕ → ℤ
index_at s i = get_or s.columns.index i (pos 0)

abbrev pub mark_at : State → ℕ → ℕ
mark_at s i = get_or s.columns.mark i 0

-- the marks of the run's months
abbrev pub marks : State → List ℕ
marks s = (held_by s.run s.columns).mark

-- a column of marks in which a month was added at a place and k months were settled: the month's own mark is written as open, and then the last
-- k marks, its own the last of them, as settled. Every other place is as it was
abbrev pub marks_with : ℕ → ℕ → List ℕ → List ℕ
marks_with k at mark = take (suc at - k) (set mark at 1) ++ (replicate k 2 ++ drop (suc at) mark)

-- X1, X2 and X3 of the run's last open months, as the columns hold them
abbrev pub open_months : Run → Book → List X
open_months r cs = xs_from (x_at cs.x1 cs.x2 cs.x3) (r.months - r.opens) r.opens

-- "An add writes the new month's place in the five columns, and index and mark of the open months it settles, and nothing else"; since E6 the month's
-- record and V too, at its place. r, a and cs are what an accepted add was given, b what it left
pub record Writes (r : Run) (a : Ask) (cs : Book) (b : Result) : Type 0 where
  pub x1 : b.columns.x1 ≡ set cs.x1 r.months b.answer.figures.x1
  pub x2 : b.columns.x2 ≡ set cs.x2 r.months b.answer.figures.x2
  pub x3 : b.columns.x3 ≡ set cs.x3 r.months b.answer.figures.x3
  -- the index of no month before those that it settles, its own month's index, and none after it: "Places after the last month are never written"
  pub index_kept :
      let n = suc r.months - b.answer.settled in
      take n b.columns.index ≡ take n (set cs.index r.months b.answer.figures.index)
  pub index_own : get_or b.columns.index r.months (pos 0) ≡ b.answer.figures.index
  pub index_beyond : drop (suc r.months) b.columns.index ≡ drop (suc r.months) cs.index
  -- "An add settles the run's last open months by the rule above from whatever the columns hold"
  pub index-settled :
      (w : With) → (step_of r.values b.answer.figures.z).decision ≡ Some w
      → take r.opens (drop (r.months - r.opens) b.columns.index) ≡ settled_all w (open_months r cs)
  -- the settled count "equals the marks the call writes as 2"
  pub marks : b.columns.mark ≡ marks_with b.answer.settled r.months cs.mark
  -- "its own included: the open months before it plus one if it decides, else 0"
  pub decides : b.answer.figures.mark ≡ 2 → b.answer.settled ≡ suc r.opens
  pub undecided : b.answer.figures.mark ≡ 1 → b.answer.settled ≡ 0
  -- the month's record, by the rules, and V after the month
  pub records : b.columns.records ≡ set cs.records r.months (numbers_of (record_for (station_of r) a))
  pub v : b.columns.v ≡ set cs.v r.months b.answer.run.values.v

pub record Demand3 : Type 0 where
  -- "After each, every settled index equals the choice made knowing all months so far, by a rule that looks forward from that month." So
  -- does every open month's, and every mark is that rule's
  pub hindsight :
      (f : Fresh) (asks : List Ask) → Accepted (first f) asks → (i : ℕ) → i < length asks
      → (index_at (now f asks) i ≡ (forward (rows_so_far f asks) i).index) × (mark_at (now f asks) i ≡ (forward (rows_so_far f asks) i).mark)
  -- "A month is open exactly when no month from it onward has decided."
  pub opens : (f : Fresh) (asks : List Ask) → Accepted (first f) asks → (i : ℕ) → i < length asks → (mark_at (now f asks) i ≡ 1) ↔ NoneFrom (rows_so_far f asks) i
  -- "Later months never change a settled one."
  pub stays :
      (f : Fresh) (asks more : List Ask) → Accepted (first f) asks → Accepted (now f asks) more → (i : ℕ) → i < length asks → mark_at (now f asks) i ≡ 2
      → (mark_at (after_all (now f asks) more) i ≡ 2) × (index_at (after_all (now f asks) more) i ≡ index_at (now f asks) i)
  -- nor X1, X2, X3 of any earlier month, settled or open
  pub values :
      (f : Fresh) (asks more : List Ask) → Accepted (first f) asks → Accepted (now f asks) more → (i : ℕ) → i < length asks
      → values_at (after_all (now f asks) more) i ≡ values_at (now f asks) i
  -- what an accepted add writes, on any columns, and that its settled count is that of the marks that it writes as 2;
  pub writes : (r : Run) (a : Ask) (cs : Book) → (asked r a cs).answer.number ≡ 0 → Writes r a cs (asked r a cs)
  -- so that on columns that nobody else writes there are as many more of them
  pub settled :
      (f : Fresh) (asks : List Ask) (a : Ask) → Accepted (first f) asks
      → let b = asked (now f asks).run a (now f asks).columns in
      b.answer.number ≡ 0 → count 2 (marks (after (now f asks) a)) ≡ count 2 (marks (now f asks)) + b.answer.settled
  -- the open count of the run equals the open marks, which are the last ones
  pub counted : (f : Fresh) (asks : List Ask) → Accepted (first f) asks → (now f asks).run.opens ≡ count 1 (take (length asks) (now f asks).columns.mark)
  pub last :
      (f : Fresh) (asks : List Ask) → Accepted (first f) asks
      → take (length asks) (now f asks).columns.mark ≡ replicate (length asks - (now f asks).run.opens) 2 ++ replicate (now f asks).run.opens 1
  -- the whole series gives exactly what adding singly gives, and where it is not refused no single add is
  pub singly :
      (f : Fresh) (zs index : List ℤ) (mark : List ℕ) → Accepted (first f) (map anomaly zs) → series_refusal zs (length index) (length mark) ≡ 0
      → let s = now f (map anomaly zs) in whole_series zs index mark ≡ filled 0 (take (length zs) s.columns.index) (take (length zs) s.columns.mark)
  pub accepted : (f : Fresh) (zs : List ℤ) → columns_fit f.columns ≡ true → length zs ≤ long f.columns → all_z_fit zs ≡ true → Accepted (first f) (map anomaly zs)
