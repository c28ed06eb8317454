-- What the functions below the refusals may assume of the run and of the columns: a proof's vocabulary, which their `requires` cite. Assumes
-- nothing.
use Rattle.std.specs.Prelude.{◌≡◌, true, ℕ, ◌≤◌, ◌<◌, length}
use Rattle.water.specs.Layers.{SoilFits}
use Rattle.spells.specs.ValuesFit.{ValuesFit}
use Rattle.spells.specs.declared.Running.{Running}
use Rattle.ranges.specs.Ranges.{constants_fit, calendar_fits}
use Rattle.outline.specs.Numbers.{most_months}
use Rattle.runs.specs.declared.Run.{Run}
use Rattle.refusals.specs.Columns.{Columns, long}

-- a run and columns that a month can be added to
pub record Ready (months opens : ℕ) (values : Running) (cs : Columns) : Type 0 where
  pub opens_fit : opens ≤ months
  pub room : months < long cs
  pub most : long cs ≤ most_months
  pub x2 : length cs.x2 ≡ long cs
  pub x3 : length cs.x3 ≡ long cs
  pub index : length cs.index ≡ long cs
  pub mark : length cs.mark ≡ long cs
  pub values_fit : ValuesFit values

-- .. and a month of water
pub record Watered (r : Run) : Type 0 where
  pub soil : SoilFits r.soil
  pub constants : constants_fit r.constants ≡ true
  pub calendar : calendar_fits r.calendar ≡ true
