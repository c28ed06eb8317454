-- REPAIRING A WRONG MONTH (document 02, E8): "A gauge was found tilted and four old months need new precipitation. Build a repair that takes a run with E6's rows, a
-- month and its new readings, and reworks from there. For columns that only this run's own calls have written, each on the run that the one before handed back,
-- the result must equal a fresh run over the corrected months; months before the first changed or reopened one keep every figure. It reports each month whose
-- index or mark changed, oldest first, with both values, in lent lists as long as the columns. A repair may alter settled months; demand 3's last sentence reads
-- "since the last repair" from then on." The call's definition is `repair` of the crate `repair`. `repairs` of proofs/Repaired.antt proves it. Assumes nothing.
use Rattle.std.specs.Prelude.{◌≡◌, true, false, ◌↔◌, List, [], ◌∷◌, ◌++◌, ℕ, ◌-◌, ◌≤◌, ◌<◌, ℤ, pos, length, take, set, replicate}
use Rattle.outline.specs.Refusals.{bad_lists, not_a_run, no_such_row, waterless, missing, not_acceptable, unless_refused}
use Rattle.door.specs.Readings.{reading}
use Rattle.door.specs.declared.Reading.{Reading}
use Rattle.hindsight.specs.Rule.{forward}
use Rattle.hindsight_laws.specs.Counts.{NoneFrom}
use Rattle.runs.specs.declared.Run.{Run}
use Rattle.records.specs.Record.{record_at}
use Rattle.records.specs.declared.Record.{Record}
use Rattle.refusals.specs.Book.{Book, long, columns_fit}
use Rattle.refusals.specs.Refusals.{is_run_of}
use Rattle.refusals.specs.Good.{Good}
use Rattle.season.specs.Season.{add_season}
use Rattle.kept_rows.specs.KeptRows.{rows_fit}
use Rattle.reopening.specs.Before.{opens_before}
use Rattle.report.specs.Report.{no_change}
use Rattle.records.specs.Water.{had_water}
use Rattle.repair.specs.Repair.{RepairResult, repair_result, not_repaired, repair}
use Rattle.demands.specs.Months.{Ask, water, asked, State, standing, after, after_all, Accepted, months_of, left_of}
use Rattle.demands.specs.Given.{MonthGives}
use Rattle.demands.specs.Demands.{Fresh, first, now, Honest, index_at, mark_at, rows_so_far}
use Rattle.demands.specs.Recorded.{month_at}
use Rattle.demands.specs.Modified.{Kept}

-- ---- the numbers: 1, 7, 11, 17, precipitation 8 or 9, PE 8 or 9

-- neither 1 nor 7: the lists fit and the report is as long, the run is one for them, and each recorded figure of each of its rows is in its range
pub record Repairable (r : Run) (cs : Book) (report : List (List ℤ)) : Type 0 where
  pub good : Good r cs
  pub report_long : length report ≡ long cs
  pub rows : rows_fit r.soil.capacity cs r.months ≡ true

-- .. and a row that had water
pub record Watery (r : Run) (i : ℕ) (cs : Book) (report : List (List ℤ)) : Type 0 where
  pub repairable : Repairable r cs report
  pub row : i < r.months
  pub water : had_water (record_at cs.records i) ≡ true

module _ (r : Run) (i : ℕ) (p pe : Reading) (cs : Book) (report : List (List ℤ)) where
  pub data RepairGives : ℕ → Type 0 where
    -- 0: done
    repair-0 : Watery r i cs report → MonthGives p pe 0 → RepairGives 0
    -- 1: as of an add, and "1 covers the report lists"
    repair-1 : columns_fit cs ≡ false → RepairGives bad_lists
    repair-1-report : (length report ≡ long cs → ⊥) → RepairGives bad_lists
    -- 7: as of an add, and "7 here also covers any recorded figure outside its range"
    repair-7 : columns_fit cs ≡ true → length report ≡ long cs → is_run_of cs r ≡ false → RepairGives not_a_run
    repair-7-row : Good r cs → length report ≡ long cs → rows_fit r.soil.capacity cs r.months ≡ false → RepairGives not_a_run
    -- 11: "row number not below the months added"
    repair-11 : Repairable r cs report → r.months ≤ i → RepairGives no_such_row
    -- 17: "no water in that month"
    repair-17 : Repairable r cs report → i < r.months → had_water (record_at cs.records i) ≡ false → RepairGives waterless
    -- 8 and 9, of the two readings
    repair-8 : Watery r i cs report → MonthGives p pe missing → RepairGives missing
    repair-9 : Watery r i cs report → MonthGives p pe not_acceptable → RepairGives not_acceptable

-- ---- any mix of calls

-- an add, a season, or a repair of a row with two readings and a lent report
pub data Call : Type 0 where
  adds : Ask → Call
  seasons : List ℤ → List ℤ → Call
  repairs : ℕ → Reading → Reading → List (List ℤ) → Call

-- where a repair stands when its call returns
abbrev pub repaired_to : RepairResult → State
repaired_to t = standing t.answer.run t.columns

abbrev pub repair_in : State → ℕ → Reading → Reading → List (List ℤ) → RepairResult
repair_in s i p pe report = repair s.run i p pe s.columns report

-- "each on the run that the one before handed back"
abbrev pub after_call : State → Call → State
after_call s (adds a) = after s a
after_call s (seasons ps pes) = left_of (add_season s.run ps pes s.columns)
after_call s (repairs i p pe report) = repaired_to (repair_in s i p pe report)

abbrev pub after_calls : State → List Call → State
after_calls s [] = s
after_calls s (c ∷ later) = after_calls (after_call s c) later

-- "the corrected months": an accepted add adds its month and a season those that it added; an accepted repair puts its readings in place of the month's; a refused
-- call changes none
abbrev pub corrected : State → List Ask → Call → List Ask
corrected s asks (adds a) = unless_refused (asked s.run a s.columns).answer.number (asks ++ (a ∷ [])) asks
corrected s asks (seasons ps pes) = asks ++ take (add_season s.run ps pes s.columns).answer.added (months_of ps pes)
corrected s asks (repairs i p pe report) = unless_refused (repair_in s i p pe report).answer.number (set asks i (water p pe)) asks

abbrev pub corrected_all : State → List Ask → List Call → List Ask
corrected_all s asks [] = asks
corrected_all s asks (c ∷ later) = corrected_all (after_call s c) (corrected s asks c) later

-- a fresh run after any calls, and the months that they come to
abbrev pub now_by : Fresh → List Call → State
now_by f calls = after_calls (first f) calls

abbrev pub months_by : Fresh → List Call → List Ask
months_by f calls = corrected_all (first f) [] calls

-- ---- months that keep their figures
-- all that the lists have of the month at place j
abbrev pub KeptWhole : State → State → ℕ → Type 0
KeptWhole s t j = Kept s t j × (index_at t j ≡ index_at s j) × (mark_at t j ≡ mark_at s j)

-- the readings that stand in a record: its water and its kind
abbrev pub Stand : Reading → Reading → Record → Type 0
Stand p pe m = (m.p ≡ pos (reading p).water) × (m.pe ≡ pos (reading pe).water) × (m.kind ≡ pos (reading p).kind)

-- a report of n places with nothing in it
abbrev pub blank : ℕ → List (List ℤ)
blank n = replicate n no_change

pub record Repairs : Type 0 where
  -- EVERY REPAIR: each number exactly when; a refused one hands back the run, reports nothing and leaves every list as it was, the report too
  pub exactly : (r : Run) (i : ℕ) (p pe : Reading) (cs : Book) (report : List (List ℤ)) (n : ℕ) → ((repair r i p pe cs report).answer.number ≡ n) ↔ RepairGives r i p pe cs report n
  pub refused :
      (r : Run) (i : ℕ) (p pe : Reading) (cs : Book) (report : List (List ℤ)) → ((repair r i p pe cs report).answer.number ≡ 0 → ⊥)
      → repair r i p pe cs report ≡ not_repaired (repair r i p pe cs report).answer.number r cs report
  -- ANY MIX OF CALLS, from a start: "the result must equal a fresh run over the corrected months", in every place of every list, and the run
  pub fresh : (f : Fresh) (calls : List Call) → Accepted (first f) (months_by f calls) × (now_by f calls ≡ now f (months_by f calls))
  -- "months before the first changed or reopened one keep every figure": no month before those that were open before the repaired one; and of every month before
  -- it all but index and mark
  pub before :
      (r : Run) (i : ℕ) (p pe : Reading) (cs : Book) (report : List (List ℤ)) → (repair r i p pe cs report).answer.number ≡ 0
      → let t = repaired_to (repair r i p pe cs report) in
      ((j : ℕ) → j < i → Kept (standing r cs) t j) × ((j : ℕ) → j < i - opens_before cs i → KeptWhole (standing r cs) t j)
  -- DEMAND 3 as it stands, of the months as corrected: every index and mark is the forward rule's, and a month is open exactly when none from it on decides
  pub hindsight :
      (f : Fresh) (calls : List Call) (i : ℕ) → i < length (months_by f calls)
      → (index_at (now_by f calls) i ≡ (forward (rows_so_far f (months_by f calls)) i).index) × (mark_at (now_by f calls) i ≡ (forward (rows_so_far f (months_by f calls)) i).mark)
  pub opens : (f : Fresh) (calls : List Call) (i : ℕ) → i < length (months_by f calls) → (mark_at (now_by f calls) i ≡ 1) ↔ NoneFrom (rows_so_far f (months_by f calls)) i
  -- its last sentence "since the last repair": after any calls, adds and repairs among them, later months never change a settled one
  pub stays :
      (f : Fresh) (calls : List Call) (more : List Ask) → Accepted (now_by f calls) more → (i : ℕ) → i < length (months_by f calls) → mark_at (now_by f calls) i ≡ 2
      → (mark_at (after_all (now_by f calls) more) i ≡ 2) × (index_at (after_all (now_by f calls) more) i ≡ index_at (now_by f calls) i)
  -- on columns that nobody else writes no repair, with a report as long as they are, is ever refused 1 or 7
  pub honest :
      (f : Fresh) → columns_fit f.columns ≡ true → (calls : List Call) (i : ℕ) (p pe : Reading) (report : List (List ℤ)) → length report ≡ long f.columns
      → Honest (repair_in (now_by f calls) i p pe report).answer.number
  -- THE READINGS THAT STAND THERE, put in again, report nothing and change nothing
  pub again :
      (f : Fresh) (calls : List Call) (i : ℕ) (p pe : Reading) (report : List (List ℤ)) → Stand p pe (month_at (now_by f calls) i)
      → let s = now_by f calls in
      (repair_in s i p pe report).answer.number ≡ 0 → repair_in s i p pe report ≡ repair_result (record { number = 0; changed = 0; run = s.run }) s.columns (blank (length report))
  -- "FROM A START" is needed: of any run of no months that a call accepts the last statement is false
  pub needed :
      ((s : State) (asks : List Ask) (i : ℕ) (p pe : Reading) (report : List (List ℤ)) → s.run.months ≡ 0 → Accepted s asks
      → let t = after_all s asks in
      Stand p pe (month_at t i) → (repair_in t i p pe report).answer.number ≡ 0 → (repair_in t i p pe report).answer.changed ≡ 0) → ⊥
