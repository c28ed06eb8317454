-- `drought::add_inches` meets its contract: the month's two answers in numbers, and then `try_water`. Assumes nothing.
use mathlib.Core.Path.{◌≡◌, ap}
use Rattle.door.specs.Outcome.{MonthOutcomes, Outcome, told_as}
use Rattle.door.specs.Readings.{month}
use Rattle.door.proofs.Bounds.{inches-most}
use Rattle.refusals.specs.Lists.{held}
use Rattle.drought.specs.Calls.{add_inches}
use Rattle.drought.proofs.Joined.{joined}
use Rattle.drought.proofs.add_inches.Goals as goal
use Rattle.drought.proofs.add_inches.Goals.{After-read_month-both}

-- each of the two
first : (c : After-read_month-both) → told_as c.read_month-both.result.p ≡ (month c.args.q).p
first c = ap (λ (m : MonthOutcomes). m.p) c.read_month-both.ensures

second : (c : After-read_month-both) → told_as c.read_month-both.result.pe ≡ (month c.args.q).pe
second c = ap (λ (m : MonthOutcomes). m.pe) c.read_month-both.ensures

pub try_water-t-requires : goal.try_water-t-requires
unfolding month
try_water-t-requires c =
    let q = c.args.q in
    let t = (goal.at.try_water-t-requires c).After-read_month-both in
    (rw (ap (λ (o : Outcome). o.water) (first t)) (inches-most q.p), rw (ap (λ (o : Outcome). o.water) (second t)) (inches-most q.pe))

pub returns-clause-outcome : goal.returns-clause-outcome
unfolding add_inches
returns-clause-outcome c =
    let a = c.args in
    let t = (goal.at.returns-clause-outcome c).After-read_month-both in
    let e = first t in
    let f = second t in
    rw (c.answer_of.ensures, ← joined a.run (month a.q).p (month a.q).pe (held a.lists.now))
    (rw (c.progress_of-at.ensures, c.reading_refusal-reading.ensures, ap (λ (o : Outcome). o.number) e, ap (λ (o : Outcome). o.number) f, ap (λ (o : Outcome). o.water) e, ap (λ (o : Outcome). o.water) f, ap (λ (o : Outcome). o.kind) e, ap (λ (o : Outcome). o.kind) f) at c.try_water-t.ensures.outcome)
