-- `refusals::water_refusal`: the lists and the run, the readings, room. Assumes nothing.
use mathlib.Core.Path.{sym, ◌∙◌}
use Rattle.outline.proofs.Refusals.{or-first, or-second}
use Rattle.refusals.specs.Lent.{water_refusal_for}
use Rattle.refusals.proofs.water_refusal.Goals as goal

pub returns-then-number-ne0 : goal.returns-then-number-ne0
unfolding water_refusal_for
returns-then-number-ne0 c = rw (← c.run_refusal.ensures, ← c.number-number.ensures) (sym (or-first _ _ c.if-number-ne0.true))

pub returns-then-reading-ne0 : goal.returns-then-reading-ne0
unfolding water_refusal_for
returns-then-reading-ne0 c = rw (← c.run_refusal.ensures, ← c.number-number.ensures) (sym (or-second _ _ c.if-number-ne0.false ∙ or-first _ _ c.if-reading-ne0.true))

pub returns : goal.returns
unfolding water_refusal_for
returns c = rw (← c.run_refusal.ensures, ← c.number-number.ensures) (c.number.ensures ∙ c.room_refusal.ensures ∙ sym (or-second _ _ c.if-number-ne0.false ∙ or-second _ _ c.if-reading-ne0.false))
