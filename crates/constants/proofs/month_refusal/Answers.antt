-- `constants::month_refusal` meets its contract, by its test. Assumes nothing.
use mathlib.Core.Path.{sym, ◌∙◌}
use mir.Facts.{to_z-of_z}
use Rattle.starts.specs.Start.{month_fits}
use Rattle.constants.proofs.month_refusal.Goals as goal

pub returns-then-signed_between : goal.returns-then-signed_between
unfolding month_fits
returns-then-signed_between c =
    let f = c.ranges.month in
    rw (sym (simp to_z-of_z at c.signed_between.ensures) ∙ c.if-signed_between.true)

pub returns-else-signed_between : goal.returns-else-signed_between
unfolding month_fits
returns-else-signed_between c =
    let f = c.ranges.month in
    rw (sym (simp to_z-of_z at c.signed_between.ensures) ∙ c.if-signed_between.false)
