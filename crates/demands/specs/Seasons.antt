-- A SEASON IN ONE CALL (document 02, E2), in the words of the demands: what it leaves is what the same months leave that are added one by one,
-- up to the first that a single add refuses. So each theorem of the three demands holds of its months as it stands. Which numbers it gives,
-- and exactly when, is in `Demand1`. `seasons` of proofs/Seasons.antt proves it. Assumes nothing.
use Rattle.std.specs.Prelude.{◌≡◌, ◌&&◌, cond, List, [], ◌∷◌, ◌++◌, ℕ, ◌+◌, ◌≤◌, eqb, ℤ, pos, length, get_or, take}
use Rattle.outline.specs.Refusals.{bad_lists, not_a_run}
use Rattle.calendar.specs.Calendar.{ZeroK}
use Rattle.runs.specs.declared.Run.{Run}
use Rattle.refusals.specs.Book.{Book, columns_fit}
use Rattle.adding.specs.Figures.{no_figures}
use Rattle.adding.specs.declared.Figures.{Figures}
use Rattle.season.specs.Season.{SeasonResult, season_result, nothing, season_refusal, add_season}
use Rattle.demands.specs.Months.{Ask, asked, State, standing, after, after_all, Accepted, months_of, left_of}

-- what months added one by one settle, all together
abbrev pub settled_by : State → List Ask → ℕ
settled_by s [] = 0
settled_by s (a ∷ later) = (asked s.run a s.columns).answer.settled + settled_by (after s a) later

-- the figures of the last of them, or f where there is none
abbrev pub last_of : Figures → State → List Ask → Figures
last_of f s [] = f
last_of f s (a ∷ later) = last_of (asked s.run a s.columns).answer.figures (after s a) later

-- what the months before the refused one leave, added one by one
pub record Singly (s : State) (months : List Ask) (t : SeasonResult) : Type 0 where
  -- so many were added, and no single add refuses one of them
  pub added : t.answer.added ≤ length months
  pub accepted : Accepted s (take t.answer.added months)
  -- "The run and columns equal adding them singly"
  pub state : left_of t ≡ after_all s (take t.answer.added months)
  -- "the figures are the last added month's (0 if none), settled counts summed, also on a refusal"
  pub figures : t.answer.figures ≡ last_of no_figures s (take t.answer.added months)
  pub settled : t.answer.settled ≡ settled_by s (take t.answer.added months)
  -- all were added, or the next one is "the first month that a single add refuses", and its refusal is the answer
  pub done : t.answer.added ≡ length months → t.answer.number ≡ 0
  pub stopped :
      (a : Ask) (earlier later : List Ask) → months ≡ earlier ++ (a ∷ later) → length earlier ≡ t.answer.added
      → (t.answer.number ≡ (asked (left_of t).run a (left_of t).columns).answer.number) × (t.answer.number ≡ 0 → ⊥)

-- every place of the five columns, of the records and of V from n on is as it was
pub record SameFrom (n : ℕ) (cs ds : Book) : Type 0 where
  pub x1 : (i : ℕ) → n ≤ i → get_or ds.x1 i (pos 0) ≡ get_or cs.x1 i (pos 0)
  pub x2 : (i : ℕ) → n ≤ i → get_or ds.x2 i (pos 0) ≡ get_or cs.x2 i (pos 0)
  pub x3 : (i : ℕ) → n ≤ i → get_or ds.x3 i (pos 0) ≡ get_or cs.x3 i (pos 0)
  pub index : (i : ℕ) → n ≤ i → get_or ds.index i (pos 0) ≡ get_or cs.index i (pos 0)
  pub mark : (i : ℕ) → n ≤ i → get_or ds.mark i 0 ≡ get_or cs.mark i 0
  pub records : (i : ℕ) → n ≤ i → get_or ds.records i [] ≡ get_or cs.records i []
  pub v : (i : ℕ) → n ≤ i → get_or ds.v i (pos 0) ≡ get_or cs.v i (pos 0)

pub record Seasons : Type 0 where
  -- 1 and 7, before the first month: nothing is added
  pub refused : (r : Run) (ps pes : List ℤ) (cs : Book) → (season_refusal r ps pes cs ≡ 0 → ⊥) → add_season r ps pes cs ≡ season_result (nothing (season_refusal r ps pes cs) r) cs
  -- 7 too where the run holds a K of 0
  pub zero-k :
      (r : Run) (ps pes : List ℤ) (cs : Book) → ZeroK r.constants
      → (add_season r ps pes cs).answer.number ≡ cond (eqb (length ps) (length pes) && columns_fit cs) not_a_run bad_lists
  -- otherwise it is what the single adds make of it
  pub singly : (r : Run) (ps pes : List ℤ) (cs : Book) → season_refusal r ps pes cs ≡ 0 → Singly (standing r cs) (months_of ps pes) (add_season r ps pes cs)
  -- "Empty lists add nothing."
  pub empty : (r : Run) (cs : Book) → add_season r [] [] cs ≡ season_result (nothing (season_refusal r [] [] cs) r) cs
  -- demand 1's "writes nothing": no place of the refused month or of those after it is written, nor any beyond the last month added
  pub beyond : (r : Run) (ps pes : List ℤ) (cs : Book) → SameFrom (r.months + (add_season r ps pes cs).answer.added) cs (add_season r ps pes cs).columns
  -- demand 3 and the rest of 1 and 2 as they stand: after any accepted months a season leaves what more accepted months leave
  pub more :
      (s : State) (asks : List Ask) (ps pes : List ℤ) → Accepted s asks
      → let t = add_season (after_all s asks).run ps pes (after_all s asks).columns in
      Accepted s (asks ++ take t.answer.added (months_of ps pes)) × (left_of t ≡ after_all s (asks ++ take t.answer.added (months_of ps pes)))
