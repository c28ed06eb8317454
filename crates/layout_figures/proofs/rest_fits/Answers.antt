-- `layout_figures::rest_fits`: its tests are those of the definition. Assumes nothing.
use Rattle.std.proofs.Common.{sym, ap, ◌∙◌}
use Rattle.text.specs.Bytes.{all_spaces}
use Rattle.fields.specs.Columns.{last_column}
use Rattle.fields.proofs.Parts.{to_end}
use Rattle.layout_figures.specs.Steps.{rest_fits}
use Rattle.layout_figures.proofs.rest_fits.Goals as goal

pub returns-then-not-malformed : goal.returns-then-not-malformed
unfolding rest_fits
returns-then-not-malformed c =
    rw (sym c.requires.malformed_value ∙ c.if-not-malformed.true) (c.all_spaces.ensures ∙ ap all_spaces (to_end c.args.line.now last_column))

pub returns-else-not-malformed : goal.returns-else-not-malformed
unfolding rest_fits
returns-else-not-malformed c = rw (sym c.requires.malformed_value ∙ c.if-not-malformed.false, c.if-not-malformed.false)
