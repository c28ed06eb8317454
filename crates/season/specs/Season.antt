-- Document 02, E2, "A season in one call": what the call answers, the run that it hands back and what every lent list then holds. Each month
-- is the single add's, `add_water` of the crate `drought`, on the run and the columns that the month before left. Assumes nothing.
use Rattle.std.specs.Prelude.{ℕ, ◌+◌, cond, List, [], ◌∷◌, ℤ, eqb, length}
use Rattle.outline.specs.Refusals.{bad_lists, or_else, unless_refused}
use Rattle.runs.specs.declared.Run.{Run}
use Rattle.refusals.specs.Book.{Book}
use Rattle.refusals.specs.Refusals.{run_refusal}
use Rattle.adding.specs.Figures.{no_figures}
use Rattle.adding.specs.Taken.{Result}
use Rattle.adding.specs.declared.Added.{Added}
use Rattle.drought.specs.Calls.{add_water}
use Rattle.season_month.specs.Listed.{listed}
use Rattle.season.specs.declared.Season.{Season}

-- what a season leaves: its answer, with the run, and what is lent
pub record SeasonResult : Type 0 where
  pub answer : Season
  pub columns : Book

abbrev pub season_result : Season → Book → SeasonResult
season_result s cs = record { answer = s; columns = cs }

-- before the first month: "the figures are the last added month's (0 if none)"
abbrev pub nothing : ℕ → Run → Season
nothing k r = record { number = k; added = 0; settled = 0; figures = no_figures; run = r }

-- a month more: its figures and its run, "settled counts summed"
abbrev pub joined : Season → Added → Season
joined s a = record { number = 0; added = s.added + 1; settled = s.settled + a.settled; figures = a.figures; run = a.run }

-- "the call stops, keeps the earlier ones, and returns that refusal with how many were added"
abbrev pub stopped : Season → ℕ → Season
stopped s k = record { number = k; added = s.added; settled = s.settled; figures = s.figures; run = s.run }

-- the single add of a month to a season so far
abbrev pub single : SeasonResult → ℤ → ℤ → Result
single t p pe = add_water t.answer.run (listed p) (listed pe) t.columns

-- "add the months in order .. At the first month that a single add refuses, the call stops"
unfoldable pub add_each : SeasonResult → List ℤ → List ℤ → SeasonResult
add_each t [] pes = t
add_each t (p ∷ ps) [] = t
add_each t (p ∷ ps) (pe ∷ pes) =
    let b = single t p pe in
    unless_refused b.answer.number (add_each (season_result (joined t.answer b.answer) b.columns) ps pes) (season_result (stopped t.answer b.answer.number) t.columns)

-- "1 also covers two lists of unequal length, and 1 and 7 are checked once, before the first month"
unfoldable pub season_refusal : Run → List ℤ → List ℤ → Book → ℕ
season_refusal r ps pes cs = or_else (cond (eqb (length ps) (length pes)) 0 bad_lists) (run_refusal r cs)

-- ---- ADD A SEASON
unfoldable pub add_season : Run → List ℤ → List ℤ → Book → SeasonResult
add_season r ps pes cs =
    unless_refused (season_refusal r ps pes cs) (add_each (season_result (nothing 0 r) cs) ps pes) (season_result (nothing (season_refusal r ps pes cs) r) cs)
