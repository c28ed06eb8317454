-- THE SECOND EDITION (document 02, E4): "Gate keepers got tired of open months. Add the modified index of Heddinghaus and Sabol beside Palmer's: .. It is
-- fixed when the month is added, and the promise must say so over all later adds. Palmer's index and demand 3 don't change. The facts shared by both
-- editions (running values, percent) are proved once. Rows carry both figures." The rule is `modified_of`, in the crate `modified`, specs/Modified.antt; what
-- demand 3 says of Palmer's index is in Demands.antt, which this request left as it was. `second_edition` of proofs/Modified.antt proves it. Assumes nothing.
use Rattle.std.specs.Prelude.{◌≡◌, Bool, true, false, List, [], ◌∷◌, ℕ, ◌≤◌, ◌<◌, ℤ, pos, neg_ℤ, ◌≤ℤ◌, ◌<ℤ◌, length, get_or}
use Rattle.outline.specs.Numbers.{in_force_beyond}
use Rattle.ending.specs.Ending.{turn, abating, ending_of}
use Rattle.modified.specs.Modified.{modified_of}
use Rattle.runs.specs.declared.Run.{Run}
use Rattle.refusals.specs.Book.{Book}
use Rattle.drought.specs.Calls.{row_of_run}
use Rattle.adding.specs.declared.Figures.{Figures}
use Rattle.demands.specs.Months.{Ask, asked, State, after_all, Accepted, Station, station_of, station_next, modified_for}
use Rattle.demands.specs.Demands.{Fresh, first, now}
use Rattle.demands.specs.Recorded.{month_at, numbers_at, v_at}

-- ---- the words

-- the modified index of each month, as the rules give it of the start alone
abbrev pub modified_of_months : Station → List Ask → List ℤ
modified_of_months s [] = []
modified_of_months s (a ∷ later) = modified_for s a ∷ modified_of_months (station_next s a) later

abbrev pub modified_so_far : Fresh → List Ask → List ℤ
modified_so_far f asks = modified_of_months (station_of (first f).run) asks

-- the figures of the month that is added
abbrev figures_by : Run → Ask → Book → Figures
figures_by r a cs = (asked r a cs).answer.figures

-- a drought, or where `wet` a wet spell, is in force, and abates in the month with this Z
abbrev pub AbatesIn : Bool → Run → ℤ → Type 0
AbatesIn wet r z =
    (turn wet r.values.x3 <ℤ neg_ℤ (pos in_force_beyond))
    × (ending_of (turn wet r.values.x3) (turn wet r.values.v) (turn wet z) ≡ abating)

-- all that is kept of the month at place i but its index and its mark: X1, X2, X3, its record and V
pub record Kept (s t : State) (i : ℕ) : Type 0 where
  pub x1 : get_or t.columns.x1 i (pos 0) ≡ get_or s.columns.x1 i (pos 0)
  pub x2 : get_or t.columns.x2 i (pos 0) ≡ get_or s.columns.x2 i (pos 0)
  pub x3 : get_or t.columns.x3 i (pos 0) ≡ get_or s.columns.x3 i (pos 0)
  pub numbers : numbers_at t i ≡ numbers_at s i
  pub v : v_at t i ≡ v_at s i

pub record SecondEdition : Type 0 where
  -- on any lists: an accepted add answers with the modified index of the run's values and the month's Z,
  pub answered : (r : Run) (a : Ask) (cs : Book) → (asked r a cs).answer.number ≡ 0 → (figures_by r a cs).modified ≡ modified_of r.values (figures_by r a cs).z
  -- and keeps it in the month's record
  pub recorded :
      (f : Fresh) (asks : List Ask) → Accepted (first f) asks → (i : ℕ) → i < length asks
      → (month_at (now f asks) i).modified ≡ get_or (modified_so_far f asks) i (pos 0)
  -- "Rows carry both figures": the row of a month has the index that the column holds, and the modified index
  pub shown :
      (f : Fresh) (asks : List Ask) → Accepted (first f) asks → (i : ℕ) → i < length asks
      → let s = row_of_run (now f asks).run i (now f asks).columns in
      (s.index ≡ get_or (now f asks).columns.index i (pos 0)) × (s.month.modified ≡ get_or (modified_so_far f asks) i (pos 0))
  -- "fixed when the month is added, .. over all later adds": one statement over everything but index and mark
  pub fixed :
      (f : Fresh) (asks more : List Ask) → Accepted (first f) asks → Accepted (now f asks) more → (i : ℕ) → i < length asks
      → Kept (now f asks) (after_all (now f asks) more) i
  -- while a drought abates it lies between X3 and X1, while a wet spell does between X2 and X3,
  pub drought :
      (r : Run) (a : Ask) (cs : Book) → (asked r a cs).answer.number ≡ 0 → AbatesIn false r (figures_by r a cs).z
      → ((figures_by r a cs).x3 ≤ℤ (figures_by r a cs).modified) × ((figures_by r a cs).modified ≤ℤ (figures_by r a cs).x1)
  pub wet :
      (r : Run) (a : Ask) (cs : Book) → (asked r a cs).answer.number ≡ 0 → AbatesIn true r (figures_by r a cs).z
      → ((figures_by r a cs).x2 ≤ℤ (figures_by r a cs).modified) × ((figures_by r a cs).modified ≤ℤ (figures_by r a cs).x3)
  -- and elsewhere it is the index that the month is added with, so that a month which decides shows both figures alike
  pub elsewhere :
      (r : Run) (a : Ask) (cs : Book) → (asked r a cs).answer.number ≡ 0 → ((wet : Bool) → AbatesIn wet r (figures_by r a cs).z → ⊥)
      → (figures_by r a cs).modified ≡ (figures_by r a cs).index
