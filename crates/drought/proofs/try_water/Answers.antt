-- `drought::try_water` meets its contract: its number is the definition's, and then it refuses or adds. Assumes nothing.
use mathlib.Core.Path.{◌≡◌, sym, ap, ◌∙◌}
use Rattle.runs.specs.Progress.{run_of}
use Rattle.refusals.specs.Lists.{held, read}
use Rattle.refusals.specs.Lent.{water_refusal_for, lent_long}
use Rattle.refusals.specs.Refusals.{water_refusal}
use Rattle.refusals.proofs.Refused.{water-passes}
use Rattle.refusals.proofs.Lent.{or_nothing, lent-records, water-lent}
use Rattle.adding.specs.Progress.{added_of}
use Rattle.adding.specs.Taken.{result_of, taken_water}
use Rattle.adding.proofs.Readiness.{ready, placed, watered}
use Rattle.adding.proofs.Answered.{refused-by, accepts}
use Rattle.drought.specs.Calls.{add_outcomes}
use Rattle.drought.proofs.try_water.Goals as goal
use Rattle.drought.proofs.try_water.Goals.{After-water_refusal-number}

pub water_refusal-number-requires : goal.water_refusal-number-requires
water_refusal-number-requires c = rw c.lent_length.ensures (lent-records (read c.rows-rows.result))

-- its number is the definition's
number_is : (c : After-water_refusal-number) → c.water_refusal-number.result ≡ water_refusal (run_of c.args.at c.args.constants.now) c.args.reading 0 (held c.args.lists.now)
number_is c =
    let a = c.args in
    let r = run_of a.at a.constants.now in
    let cs = read c.rows-rows.result in
    let lent : water_refusal_for (lent_long cs) r a.reading cs.records ≡ water_refusal r a.reading 0 cs = rw (or_nothing a.reading) at (water-lent cs r a.reading 0) in
    (rw c.lent_length.ensures at c.water_refusal-number.ensures) ∙ lent ∙ ap (water_refusal r a.reading 0) c.rows-rows.ensures

pub returns-then-number-ne0-clause-outcome : goal.returns-then-number-ne0-clause-outcome
unfolding add_outcomes
returns-then-number-ne0-clause-outcome c =
    let a = c.args in
    let r = run_of a.at a.constants.now in
    let cs = held a.lists.now in
    let t = (goal.at.returns-then-number-ne0-clause-outcome c).After-water_refusal-number in
    rw c.not_added.ensures (refused-by (water_refusal r a.reading 0 cs) cs (taken_water r a.p a.pe a.kinds cs) a.at a.constants.now c.water_refusal-number.result c.if-number-ne0.true (number_is t))

pub add_measured-requires : goal.add_measured-requires
add_measured-requires c =
    let a = c.args in
    let r = run_of a.at a.constants.now in
    let cs = held a.lists.now in
    let t = (goal.at.add_measured-requires c).After-water_refusal-number in
    let p = water-passes r cs a.reading 0 (sym (number_is t) ∙ c.if-number-ne0.false) in
    record {
      ready = ready r cs p.0 p.1;
      months_in_bounds = placed r cs p.0 p.1;
      watered = watered r cs p.0;
      p_le_most_reading = c.requires;
    }

pub returns-clause-outcome : goal.returns-clause-outcome
unfolding add_outcomes
returns-clause-outcome c =
    let a = c.args in
    let r = run_of a.at a.constants.now in
    let cs = held a.lists.now in
    let t = (goal.at.returns-clause-outcome c).After-water_refusal-number in
    rw c.if-number-ne0.false
    (accepts (water_refusal r a.reading 0 cs) cs (taken_water r a.p a.pe a.kinds cs) r (result_of (added_of c.add_measured.result a.constants.now) (held c.add_measured.new.lists)) (sym c.if-number-ne0.false ∙ number_is t) c.add_measured.ensures.outcome)
