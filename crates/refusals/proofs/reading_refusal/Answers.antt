-- `refusals::reading_refusal`: each way by its test. Assumes nothing.
use mathlib.Core.Path.{sym}
use Rattle.outline.proofs.Refusals.{or-first, or-second}
use Rattle.refusals.proofs.reading_refusal.Goals as goal

pub returns-then-p-ne0 : goal.returns-then-p-ne0
returns-then-p-ne0 c = sym (or-first _ _ c.if-p-ne0.true)

pub returns-else-p-ne0 : goal.returns-else-p-ne0
returns-else-p-ne0 c = sym (or-second _ _ c.if-p-ne0.false)
