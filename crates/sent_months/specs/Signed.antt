-- A proof's vocabulary, here since contracts cite it; no promise leans on it. A figure as the code holds it: a size, and whether it has a minus,
-- or none where it is missing. Assumes nothing.
use Rattle.std.specs.Prelude.{ℕ, suc, Bool, true, false, not, ◌&&◌, List, pos, negsuc, Option, Some, None}
use Rattle.fields.specs.Field.{numbered}
use Rattle.fields.specs.Written.{field_text, size_fits}
use Rattle.fields.specs.declared.Number.{Number}
use Rattle.figures.specs.Figures.{mark_hundredths, is_mark}
use Rattle.figures.specs.declared.Figure.{Figure}
use Rattle.figures.specs.declared.Figure.TheVariants as figure

-- a figure as it is sent: no month is malformed
abbrev pub sent_of : Figure → Option Number
sent_of (figure.Value (pos n)) = numbered false n
sent_of (figure.Value (negsuc n)) = numbered true (suc n)
sent_of figure.Missing = None
sent_of figure.Malformed = None

abbrev pub sent_text : Option Number → List ℕ
sent_text (Some sent) = field_text sent.minus sent.hundredths
sent_text None = field_text true mark_hundredths

abbrev pub sent_fits : Option Number → Bool
sent_fits (Some sent) = not (is_mark sent.minus sent.hundredths) && size_fits sent.minus sent.hundredths
sent_fits None = true
