-- LONGER COLUMNS (document 02, E9): "Columns made for 2,400 stay usable and give the same answers; a run saved at the old limit can go on in longer
-- columns into which its months have been copied." Since E6 a month is copied with its record and V. Said of columns of any two lengths, so that
-- neither limit is named: the limit is `most_months`, and all that it decides is whether columns may be lent (`columns_fit`). `longer-columns` of
-- proofs/GoesOn.antt proves it. Assumes nothing.
use Rattle.std.specs.Prelude.{◌≡◌, true, List, ◌++◌, ℕ, ◌+◌, ◌≤◌, ℤ, take, drop}
use Rattle.outline.specs.Refusals.{full}
use Rattle.runs.specs.declared.Run.{Run}
use Rattle.refusals.specs.Book.{Book, book, long, columns_fit}
use Rattle.adding.specs.Taken.{result_of}
use Rattle.drought.specs.Calls.{row_of_run}
use Rattle.season.specs.Season.{SeasonResult, season_result, add_season}
use Rattle.season.specs.declared.Season.{Season}
use Rattle.demands.specs.Months.{Ask, asked, State, standing, after_all, Accepted, answers_to}

-- the first n places of each lent list
abbrev pub first_places : ℕ → Book → Book
first_places n cs = book (take n cs.x1) (take n cs.x2) (take n cs.x3) (take n cs.index) (take n cs.mark) (take n cs.records) (take n cs.v)

-- longer columns: they begin with the places of cs, and those of `more` come after them
abbrev pub longer : Book → Book → Book
longer cs more =
    book (cs.x1 ++ more.x1) (cs.x2 ++ more.x2) (cs.x3 ++ more.x3) (cs.index ++ more.index) (cs.mark ++ more.mark) (cs.records ++ more.records)
    (cs.v ++ more.v)

-- both may be lent
pub record Lent (cs more : Book) : Type 0 where
  pub shorter : columns_fit cs ≡ true
  pub longer : columns_fit (longer cs more) ≡ true

-- two sets of columns of one length, which hold the same months of a run, and after them whatever they hold
pub record SameMonths (r : Run) (cs ds : Book) : Type 0 where
  pub lent : (columns_fit cs ≡ true) × (columns_fit ds ≡ true)
  pub one_length : long ds ≡ long cs
  pub months : first_places r.months ds ≡ first_places r.months cs

-- a season that went on after another: "settled counts summed", and how many were added; all else is the second's
abbrev pub resumed : Season → SeasonResult → SeasonResult
resumed s u =
    season_result
    (record {
      number = u.answer.number;
      added = s.added + u.answer.added;
      settled = s.settled + u.answer.settled;
      figures = u.answer.figures;
      run = u.answer.run;
    })
    u.columns

pub record LongerColumns : Type 0 where
  -- "Columns made for 2,400 stay usable": the beginning of columns that may be lent may be lent
  pub usable : (n : ℕ) (cs : Book) → columns_fit cs ≡ true → 1 ≤ n → n ≤ long cs → columns_fit (first_places n cs) ≡ true
  -- "and give the same answers". AN ADD answers the same on longer columns, writes the same places, and the places after them are as they were;
  -- the one thing that longer columns change is that they are not full yet
  pub adds :
      (r : Run) (a : Ask) (cs more : Book) → Lent cs more → r.months ≤ long cs → ((asked r a cs).answer.number ≡ full → ⊥)
      → asked r a (longer cs more) ≡ result_of (asked r a cs).answer (longer (asked r a cs).columns more)
  pub adds_on : (r : Run) (a : Ask) (cs more : Book) → Lent cs more → (asked r a cs).answer.number ≡ full → 1 ≤ long more → (asked r a (longer cs more)).answer.number ≡ 0
  -- A SEASON likewise. And one that stopped because the shorter columns are full goes on with the months that were not added, of which it adds one at
  -- least, as the season of all its months in the longer columns
  pub seasons :
      (r : Run) (ps pes : List ℤ) (cs more : Book) → Lent cs more → r.months ≤ long cs → ((add_season r ps pes cs).answer.number ≡ full → ⊥)
      → add_season r ps pes (longer cs more) ≡ season_result (add_season r ps pes cs).answer (longer (add_season r ps pes cs).columns more)
  pub seasons-on :
      (r : Run) (ps pes : List ℤ) (cs more : Book) → Lent cs more → (add_season r ps pes cs).answer.number ≡ full → 1 ≤ long more
      → let t = add_season r ps pes cs in
      let n = t.answer.added in
      let u = add_season t.answer.run (drop n ps) (drop n pes) (longer t.columns more) in
      (add_season r ps pes (longer cs more) ≡ resumed t.answer u) × (1 ≤ u.answer.added)
  -- A ROW
  pub rows : (r : Run) (i : ℕ) (cs more : Book) → Lent cs more → r.months ≤ long cs → row_of_run r i (longer cs more) ≡ row_of_run r i cs
  -- MONTHS ONE BY ONE
  pub months :
      (s : State) (asks : List Ask) (more : Book) → Lent s.columns more → s.run.months ≤ long s.columns → Accepted s asks
      → let t = standing s.run (longer s.columns more) in
      Accepted t asks × (after_all t asks ≡ standing (after_all s asks).run (longer (after_all s asks).columns more))
  -- COPIED MONTHS: on any columns that hold them each call answers the same, and leaves columns that hold the same months again
  pub copied-adds :
      (r : Run) (a : Ask) (cs ds : Book) → SameMonths r cs ds
      → let b = asked r a cs in let d = asked r a ds in
      (d.answer ≡ b.answer) × SameMonths b.answer.run b.columns d.columns
  pub copied-seasons :
      (r : Run) (ps pes : List ℤ) (cs ds : Book) → SameMonths r cs ds
      → let b = add_season r ps pes cs in let d = add_season r ps pes ds in
      (d.answer ≡ b.answer) × SameMonths b.answer.run b.columns d.columns
  pub copied_rows : (r : Run) (i : ℕ) (cs ds : Book) → SameMonths r cs ds → row_of_run r i ds ≡ row_of_run r i cs
  -- "a run saved at the old limit can go on in longer columns into which its months have been copied", as one that never stopped: months were added,
  -- and the run goes on in columns ds, as long as `longer`, which hold its months and whatever else. What is added then is answered, refused or
  -- not, as where all was added in the longer columns, and leaves the same run and the same months
  pub goes_on :
      (s : State) (asks later : List Ask) (more ds : Book) → Lent s.columns more → s.run.months ≤ long s.columns → Accepted s asks
      → let saved = after_all s asks in
      let never-stopped = after_all (standing s.run (longer s.columns more)) asks in
      columns_fit ds ≡ true → long ds ≡ long (longer s.columns more)
      → first_places saved.run.months ds ≡ first_places saved.run.months saved.columns
      → (answers_to (standing saved.run ds) later ≡ answers_to never-stopped later)
      × ((after_all (standing saved.run ds) later).run ≡ (after_all never-stopped later).run)
      × SameMonths (after_all never-stopped later).run (after_all never-stopped later).columns (after_all (standing saved.run ds) later).columns
