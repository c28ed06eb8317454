-- A proof's vocabulary, here since contracts cite it; no promise leans on it. The parts of a line's refusal. Assumes nothing.
use Rattle.std.specs.Prelude.{ℕ, Bool, cond, not, ◌&&◌, List, map}
use Rattle.text.specs.Bytes.{all_spaces}
use Rattle.fields.specs.Columns.{after}
use Rattle.fields.specs.Refusals.{malformed, another}
use Rattle.layout_months.specs.Months.{some}
use Rattle.layout.specs.Rainfall.{is_line, rain_fits}
use Rattle.figures.specs.Figures.{figures_of, is_malformed}

-- a month of the line is malformed
unfoldable pub some_malformed : List ℕ → Bool
some_malformed line = some (map is_malformed (figures_of line))

-- what follows the heading is as the layout has it
unfoldable pub rest_fits : List ℕ → Bool
rest_fits line = not (some_malformed line) && all_spaces (after line)

-- a line of precipitation, which is no other element
unfoldable pub rain_refusal : List ℕ → ℕ
rain_refusal line = cond (is_line line && rain_fits line) another malformed
