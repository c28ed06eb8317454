-- `drought::add_water` meets its contract: the two readings' answers in numbers, and then `try_water`. Assumes nothing.
use mathlib.Core.Path.{◌≡◌, ap, ◌∙◌}
use Rattle.door.specs.Outcome.{Outcome, told_as}
use Rattle.door.specs.Readings.{reading}
use Rattle.door.proofs.Bounds.{reading-most}
use Rattle.refusals.specs.Lists.{held}
use Rattle.drought.specs.Calls.{add_water}
use Rattle.drought.proofs.Joined.{joined}
use Rattle.drought.proofs.add_water.Goals as goal
use Rattle.drought.proofs.add_water.Goals.{After-tell-b}

-- each of the two
first : (c : After-tell-b) → told_as c.tell-a.result ≡ reading c.args.p
first c = c.tell-a.ensures ∙ c.read.ensures

second : (c : After-tell-b) → told_as c.tell-b.result ≡ reading c.args.pe
second c = c.tell-b.ensures ∙ c.read-2.ensures

pub try_water-t-requires : goal.try_water-t-requires
try_water-t-requires c =
    let a = c.args in
    let t = (goal.at.try_water-t-requires c).After-tell-b in
    (rw (ap (λ (o : Outcome). o.water) (first t)) (reading-most a.p), rw (ap (λ (o : Outcome). o.water) (second t)) (reading-most a.pe))

pub returns-clause-outcome : goal.returns-clause-outcome
unfolding add_water
returns-clause-outcome c =
    let a = c.args in
    let t = (goal.at.returns-clause-outcome c).After-tell-b in
    let e = first t in
    let f = second t in
    rw (c.answer_of.ensures, ← joined a.run (reading a.p) (reading a.pe) (held a.lists.now))
    (rw (c.progress_of-at.ensures, c.reading_refusal-reading.ensures, ap (λ (o : Outcome). o.number) e, ap (λ (o : Outcome). o.number) f, ap (λ (o : Outcome). o.water) e, ap (λ (o : Outcome). o.water) f, ap (λ (o : Outcome). o.kind) e, ap (λ (o : Outcome). o.kind) f) at c.try_water-t.ensures.outcome)
