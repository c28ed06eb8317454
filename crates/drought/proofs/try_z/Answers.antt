-- `drought::try_z` meets its contract: its number is the definition's, and then it refuses or adds. Assumes nothing.
use mathlib.Core.Path.{◌≡◌, sym, ap, ◌∙◌}
use mir.Facts.{to_z-of_z}
use Rattle.runs.specs.Progress.{run_of}
use Rattle.refusals.specs.Lists.{held, read}
use Rattle.refusals.specs.Refusals.{z_refusal}
use Rattle.refusals.proofs.Refused.{z-passes}
use Rattle.refusals.proofs.Lent.{lent-records, z-lent}
use Rattle.adding.specs.Progress.{added_of}
use Rattle.adding.specs.Taken.{result_of, taken_z}
use Rattle.adding.proofs.Readiness.{ready, placed, watered}
use Rattle.adding.proofs.Answered.{refused-by, accepts}
use Rattle.drought.specs.Calls.{add_z}
use Rattle.drought.proofs.try_z.Goals as goal
use Rattle.drought.proofs.try_z.Goals.{After-number-number}

pub z_refusal-asked-requires : goal.z_refusal-asked-requires
z_refusal-asked-requires c = rw c.lent_length.ensures (lent-records (read c.rows-rows.result))

-- its number is the definition's
number_is : (c : After-number-number) → c.number-number.result ≡ z_refusal (run_of c.args.at c.args.constants.now) c.args.z (held c.args.lists.now)
number_is c =
    let a = c.args in
    let f = c.ranges.z in
    let r = run_of a.at a.constants.now in
    c.number-number.ensures
    ∙ (rw (c.lent_length.ensures, to_z-of_z f) at c.z_refusal-asked.ensures)
    ∙ z-lent (read c.rows-rows.result) r a.z
    ∙ ap (z_refusal r a.z) c.rows-rows.ensures

pub returns-then-number-ne0-clause-outcome : goal.returns-then-number-ne0-clause-outcome
unfolding add_z
returns-then-number-ne0-clause-outcome c =
    let a = c.args in
    let r = run_of a.at a.constants.now in
    let cs = held a.lists.now in
    let t = (goal.at.returns-then-number-ne0-clause-outcome c).After-number-number in
    rw c.not_added.ensures (refused-by (z_refusal r a.z cs) cs (taken_z r a.z cs) a.at a.constants.now c.number-number.result c.if-number-ne0.true (number_is t))

pub add_z-requires : goal.add_z-requires
add_z-requires c =
    let a = c.args in
    let f = c.ranges.z in
    let r = run_of a.at a.constants.now in
    let cs = held a.lists.now in
    let t = (goal.at.add_z-requires c).After-number-number in
    let p = z-passes r cs a.z (sym (number_is t) ∙ c.if-number-ne0.false) in
    let w = watered r cs p.0 in
    record {
      ready = ready r cs p.0 p.1;
      months_in_bounds = placed r cs p.0 p.1;
      z_bound = (simp to_z-of_z p.2, w.calendar, w.soil);
    }

pub returns-clause-outcome : goal.returns-clause-outcome
unfolding add_z
returns-clause-outcome c =
    let a = c.args in
    let f = c.ranges.z in
    let r = run_of a.at a.constants.now in
    let cs = held a.lists.now in
    let t = (goal.at.returns-clause-outcome c).After-number-number in
    rw c.if-number-ne0.false
    (accepts (z_refusal r a.z cs) cs (taken_z r a.z cs) r (result_of (added_of c.add_z.result a.constants.now) (held c.add_z.new.lists)) (sym c.if-number-ne0.false ∙ number_is t) (rw (to_z-of_z f) at (c.add_z.ensures.outcome a.constants.now)))
