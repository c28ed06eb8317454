-- `refusals::z_refusal`: the lists and the run, 12, room. Assumes nothing.
use mathlib.Core.Path.{sym, ◌∙◌}
use Rattle.outline.proofs.Refused.{or-refusal}
use Rattle.std.proofs.lemmas.Grind.{common_steps}
use native.Mathlib.Omega.{arith}
use mir.Facts.{to_z-of_z}
use Rattle.refusals.specs.Lent.{z_refusal_for}
use Rattle.refusals.proofs.z_refusal.Goals as goal

pub returns-in_err-run_refusal : goal.returns-in_err-run_refusal
unfolding z_refusal_for
returns-in_err-run_refusal c = grind (arith, common_steps, or-refusal)

pub returns-then-not-z_fits : goal.returns-then-not-z_fits
unfolding z_refusal_for
returns-then-not-z_fits c =
    let f = c.ranges.z in
    rw (sym (c.in_ok-run_refusal.ensures), sym (simp to_z-of_z at c.z_fits.ensures) ∙ c.if-not-z_fits.true)

pub returns : goal.returns
unfolding z_refusal_for
returns c =
    let f = c.ranges.z in
    rw (sym (c.in_ok-run_refusal.ensures), sym (simp to_z-of_z at c.z_fits.ensures) ∙ c.if-not-z_fits.false) c.room_refusal.ensures
