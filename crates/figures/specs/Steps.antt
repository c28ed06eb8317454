-- A proof's vocabulary, here since contracts cite it; no promise leans on it. The steps from a line's values to what is seen of its months.
-- Assumes nothing.
use Rattle.std.specs.Prelude.{ℕ, ◌+◌, ◌<◌, ◌^◌, true, List, Option, Some, None, map}
use Rattle.fields.specs.declared.Number.{Number}
use Rattle.layout_months.specs.Months.{some, set_of}
use Rattle.figures.specs.Figures.{is_malformed, is_present}
use Rattle.figures.specs.declared.Figure.{Figure}
use Rattle.figures.specs.declared.Figure.TheVariants.{Value, Missing, Malformed}
use Rattle.figures.specs.declared.Seen.{Seen}

-- a number that 32 bits with a sign hold
abbrev pub Small : Option Number → Type 0
Small (Some said) = said.hundredths < 2 ^ 31
Small None = Unit {0}

-- what is seen of months
unfoldable pub seen_in : List Figure → Seen
seen_in fs = record { malformed = some (map is_malformed fs); present = set_of (map is_present fs) }

-- and of one month more, whose bit this is
abbrev pub and_figure : Seen → Figure → ℕ → Seen
and_figure s (Value h) b = record { malformed = s.malformed; present = s.present + b }
and_figure s Missing b = s
and_figure s Malformed b = record { malformed = true; present = s.present }
