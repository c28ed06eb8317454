-- ROWS THAT SHOW THE WATER (document 02, E6): "Hydrologists ask what the card thought the soil held. Each month's record keeps Z, V after the month, P,
-- PE, ET, R, L, RO and both storages at its start and end in further lent columns. A Z-only month records its Z and V, zeros for the six water
-- figures and the carried storages, with a mark that it had no water. The run's consistency rule now includes that, after any month, the last row's
-- end storages equal the run's. Refusals: 1 covers the new columns; 7 covers the new rule and keeps its place." A record's fields, and the order of
-- its numbers at a place of the lent list, are in the crate `records`, specs/Record.antt; `record_for`, `records_of_months` and `v_of_months`, which are
-- the rules' alone, in Months.antt beside this file. Which number is given, and that 7 keeps its place, is in Given.antt; that a season leaves what
-- the single adds leave, of the records and of V too, is `Seasons.singly`. `recorded` of proofs/Recorded.antt proves it. Assumes nothing.
use Rattle.std.specs.Prelude.{◌≡◌, true, ◌↔◌, List, [], ◌∷◌, ◌++◌, map, ℕ, suc, ◌+◌, ◌≤◌, ◌<◌, ℤ, pos, ◌+ℤ◌, length, get_or, take, set}
use Rattle.outline.specs.Refusals.{not_a_run}
use Rattle.door.specs.Outcome.{none}
use Rattle.runs.specs.Runs.{is_run}
use Rattle.runs.specs.declared.Run.{Run}
use Rattle.records.specs.Record.{no_record, numbers_of, record_at}
use Rattle.records.specs.declared.Record.{Record}
use Rattle.refusals.specs.Book.{Book, long, columns_fit}
use Rattle.refusals.specs.Refusals.{is_run_of}
use Rattle.adding.specs.Taken.{result_of, refusal}
use Rattle.adding.specs.declared.Added.{Added}
use Rattle.drought.specs.Calls.{not_shown, row_of_run}
use Rattle.season.specs.Season.{season_result, nothing, add_season}
use Rattle.demands.specs.Months.{Ask, water, inches, anomaly, asked, State, after_all, Accepted, station_of, records_of_months, v_of_months}
use Rattle.demands.specs.Demands.{Fresh, first, now}

-- ---- the words

-- what the lent lists hold of the month at place i: its record, the numbers that stand there for it, and V
abbrev pub month_at : State → ℕ → Record
month_at s i = record_at s.columns.records i

abbrev pub numbers_at : State → ℕ → List ℤ
numbers_at s i = get_or s.columns.records i []

abbrev pub v_at : State → ℕ → ℤ
v_at s i = get_or s.columns.v i (pos 0)

-- the records of all months so far, and V after each, as the rules give them of the start alone
abbrev pub records_so_far : Fresh → List Ask → List Record
records_so_far f asks = records_of_months (station_of (first f).run) asks

abbrev pub v_so_far : Fresh → List Ask → List ℤ
v_so_far f asks = v_of_months (station_of (first f).run) asks

-- P = ET + RO + the gain in storage, of a record alone
abbrev pub RecordBalances : Record → Type 0
RecordBalances m = m.p +ℤ (m.ss +ℤ m.su) ≡ (m.et +ℤ m.ro) +ℤ (m.surface +ℤ m.underlying)

-- the mark of a month that is added: 1 where it had water, and "a mark that it had no water", 0
abbrev pub water_mark : Ask → ℤ
water_mark (water p pe) = pos 1
water_mark (inches q) = pos 1
water_mark (anomaly z) = pos 0

-- "A Z-only month records its Z .., zeros for the six water figures and the carried storages, with a mark that it had no water"
pub record ZOnly (z : ℤ) (m : Record) : Type 0 where
  pub its_z : m.z ≡ z
  pub p : m.p ≡ pos 0
  pub pe : m.pe ≡ pos 0
  pub et : m.et ≡ pos 0
  pub r : m.r ≡ pos 0
  pub l : m.l ≡ pos 0
  pub ro : m.ro ≡ pos 0
  pub surface : m.surface ≡ m.ss
  pub underlying : m.underlying ≡ m.su
  pub no_water : m.water ≡ pos 0
  -- E7: "none, .. as is a Z-only month"
  pub no_kind : m.kind ≡ pos none

-- the record that an add's own answer makes: its figures, the storages of the run that it was given, and those of the run that it hands back
abbrev pub record_by : Run → Ask → Added → Record
record_by r a b =
    record {
      z = b.figures.z;
      p = pos b.figures.water.p;
      pe = pos b.figures.water.pe;
      et = pos b.figures.water.et;
      r = pos b.figures.water.r;
      l = pos (b.figures.water.ls + b.figures.water.lu);
      ro = pos b.figures.water.ro;
      ss = pos r.soil.surface;
      su = pos r.soil.underlying;
      surface = pos b.run.soil.surface;
      underlying = pos b.run.soil.underlying;
      water = water_mark a;
      modified = b.figures.modified;
      kind = pos b.figures.water.kinds.p;
    }

-- "after any month, the last row's end storages equal the run's"
abbrev pub LastRowEnds : Run → Book → Type 0
LastRowEnds r cs =
    (n : ℕ) → r.months ≡ suc n
    → ((record_at cs.records n).surface ≡ pos r.soil.surface) × ((record_at cs.records n).underlying ≡ pos r.soil.underlying)

pub record Recorded : Type 0 where
  -- "Each month's record keeps ..": after any accepted months the lists begin with what the rules give, and nothing else,
  pub records : (f : Fresh) (asks : List Ask) → Accepted (first f) asks → take (length asks) (now f asks).columns.records ≡ map numbers_of (records_so_far f asks)
  pub v : (f : Fresh) (asks : List Ask) → Accepted (first f) asks → take (length asks) (now f asks).columns.v ≡ v_so_far f asks
  -- place by place
  pub each :
      (f : Fresh) (asks : List Ask) → Accepted (first f) asks → (i : ℕ) → i < length asks
      → (month_at (now f asks) i ≡ get_or (records_so_far f asks) i no_record) × (v_at (now f asks) i ≡ get_or (v_so_far f asks) i (pos 0))
  -- "both storages at its start and end": the first month starts with those of the start, each later one where the month before ended, and the last
  -- one ends where the run stands
  pub starts :
      (f : Fresh) (asks : List Ask) → Accepted (first f) asks → 1 ≤ length asks
      → ((month_at (now f asks) 0).ss ≡ f.surface) × ((month_at (now f asks) 0).su ≡ f.underlying)
  pub carried :
      (f : Fresh) (asks : List Ask) → Accepted (first f) asks → (i : ℕ) → suc i < length asks
      → ((month_at (now f asks) (suc i)).ss ≡ (month_at (now f asks) i).surface) × ((month_at (now f asks) (suc i)).su ≡ (month_at (now f asks) i).underlying)
  pub ends :
      (f : Fresh) (asks : List Ask) → Accepted (first f) asks → (n : ℕ) → length asks ≡ suc n
      → ((month_at (now f asks) n).surface ≡ pos (now f asks).run.soil.surface) × ((month_at (now f asks) n).underlying ≡ pos (now f asks).run.soil.underlying)
  -- demand 2's balance, from what is recorded alone
  pub balances : (f : Fresh) (asks : List Ask) → Accepted (first f) asks → (i : ℕ) → i < length asks → (month_at (now f asks) i).water ≡ pos 1 → RecordBalances (month_at (now f asks) i)
  -- "with a mark that it had no water": the month a, wherever it stands among the others, is marked as it came, and its Z, where it is one, is kept so
  pub had_water : (f : Fresh) (earlier : List Ask) (a : Ask) (later : List Ask) → let asks = earlier ++ (a ∷ later) in Accepted (first f) asks → (month_at (now f asks) (length earlier)).water ≡ water_mark a
  pub z_only :
      (f : Fresh) (earlier : List Ask) (z : ℤ) (later : List Ask)
      → let asks = earlier ++ (anomaly z ∷ later) in
      Accepted (first f) asks → ZOnly z (month_at (now f asks) (length earlier))
  -- later months never change an earlier one's record or V,
  pub stays :
      (f : Fresh) (asks more : List Ask) → Accepted (first f) asks → Accepted (now f asks) more → (i : ℕ) → i < length asks
      → (numbers_at (after_all (now f asks) more) i ≡ numbers_at (now f asks) i) × (v_at (after_all (now f asks) more) i ≡ v_at (now f asks) i)
  -- and no call, accepted or refused, writes a place after the last month
  pub beyond :
      (f : Fresh) (asks : List Ask) (i : ℕ) → (now f asks).run.months ≤ i
      → (numbers_at (now f asks) i ≡ numbers_at (first f) i) × (v_at (now f asks) i ≡ v_at (first f) i)
  -- a month's row answers its record and V
  pub shown :
      (f : Fresh) (asks : List Ask) → Accepted (first f) asks → (i : ℕ) → i < length asks
      → let s = row_of_run (now f asks).run i (now f asks).columns in
      (s.number ≡ 0) × (s.month ≡ get_or (records_so_far f asks) i no_record) × (s.v ≡ get_or (v_so_far f asks) i (pos 0))
  -- on any lists at all: what an accepted add writes is made of its own answer
  pub answered :
      (r : Run) (a : Ask) (cs : Book) → (asked r a cs).answer.number ≡ 0
      → let b = asked r a cs in
      (b.columns.records ≡ set cs.records r.months (numbers_of (record_by r a b.answer)))
      × (b.columns.v ≡ set cs.v r.months b.answer.run.values.v)
  -- "The run's consistency rule now includes ..": what 7 asks of a run is what it asked before, and this
  pub consistent : (r : Run) (cs : Book) → (is_run_of cs r ≡ true) ↔ ((is_run (long cs) r ≡ true) × LastRowEnds r cs)
  -- "7 covers the new rule": a run that is one but for its last row is refused 7 by every call, and nothing is written
  pub seven :
      (r : Run) (cs : Book) → columns_fit cs ≡ true → is_run (long cs) r ≡ true → (LastRowEnds r cs → ⊥)
      → ((a : Ask) → asked r a cs ≡ result_of (refusal not_a_run r) cs)
      × ((i : ℕ) → row_of_run r i cs ≡ not_shown not_a_run)
      × ((ps pes : List ℤ) → length ps ≡ length pes → add_season r ps pes cs ≡ season_result (nothing not_a_run r) cs)
