-- A season so far, without the run's constants, which no month changes: put together with them it is the `Season` of Season.antt. A proof's
-- vocabulary, which contracts cite. Assumes nothing.
use Rattle.std.specs.Prelude.{List, ℕ, ◌+◌, ℤ}
use Rattle.runs.specs.declared.Progress.{Progress}
use Rattle.adding.specs.Figures.{no_figures}
use Rattle.runs.specs.Progress.{run_of}
use Rattle.adding.specs.declared.MonthAdded.{MonthAdded}
use Rattle.season.specs.declared.Season.{Season}
use Rattle.season.specs.declared.SoFar.{SoFar}

-- the most that a count holds
abbrev pub most_count : ℕ
most_count = 4294967295

abbrev pub begun : Progress → SoFar
begun at = record { added = 0; settled = 0; figures = no_figures; progress = at }

abbrev pub joined_by : SoFar → MonthAdded → SoFar
joined_by s m = record { added = s.added + 1; settled = s.settled + m.settled; figures = m.figures; progress = m.progress }

abbrev pub season_of : SoFar → ℕ → List ℤ → Season
season_of s number k = record { number = number; added = s.added; settled = s.settled; figures = s.figures; run = run_of s.progress k }
