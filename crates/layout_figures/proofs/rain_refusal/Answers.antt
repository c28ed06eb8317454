-- `layout_figures::rain_refusal`: a line of precipitation with a fault, or without one. Assumes nothing.
use Rattle.std.proofs.Common.{sym, ◌∙◌}
use Rattle.fields.proofs.Told.{told_some_is, told_none_is}
use Rattle.layout_figures.proofs.Refusals.{rain-at-fault, rain-faultless}
use Rattle.layout_figures.proofs.rain_refusal.Goals as goal

pub returns-then-is_some : goal.returns-then-is_some
returns-then-is_some c = sym (rain-at-fault _ (told_some_is _ _ c.fault.ensures (sym c.is_some.ensures ∙ c.if-is_some.true)))

pub returns-else-is_some : goal.returns-else-is_some
returns-else-is_some c = sym (rain-faultless _ (told_none_is _ _ c.fault.ensures (sym c.is_some.ensures ∙ c.if-is_some.false)))
