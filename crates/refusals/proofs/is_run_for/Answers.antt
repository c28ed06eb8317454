-- `refusals::is_run_for`: what `runs::is_run` asks, and then the last record. Assumes nothing.
use mathlib.Core.Path.{sym, ◌∙◌}
use native.Mathlib.Omega.{arith}
use Rattle.runs.specs.Progress.{run_of}
use Rattle.runs.proofs.RunLaws.{run_fits}
use Rattle.refusals.specs.Refusals.{is_run_for}
use Rattle.refusals.proofs.is_run_for.Goals as goal

pub ends_meet-requires : goal.ends_meet-requires
ends_meet-requires c =
    let a = c.args in
    let f = run_fits a.n (run_of a.at a.constants.now) (sym c.is_run.ensures ∙ c.if-is_run.true) in
    let p = c.requires in
    (omega (arith, f.months, p), f.soil)

pub returns-then-is_run : goal.returns-then-is_run
unfolding is_run_for
returns-then-is_run c = rw (sym c.is_run.ensures ∙ c.if-is_run.true) c.ends_meet.ensures

pub returns-else-is_run : goal.returns-else-is_run
unfolding is_run_for
returns-else-is_run c = rw (sym c.is_run.ensures ∙ c.if-is_run.false) c.if-is_run.false
