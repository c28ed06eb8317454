-- `calendar::constants_serve` meets its contract: from a K of 1 on. Assumes nothing.
use mathlib.Core.Path.{◌∙◌}
use Rattle.outline.specs.Numbers.{last_month}
use Rattle.calendar.proofs.CalendarLaws.{fit-from-one}
use Rattle.calendar.proofs.constants_serve.Goals as goal

pub returns : goal.returns
returns c = c.constants_fit_from.ensures ∙ fit-from-one c.args.c.now last_month
