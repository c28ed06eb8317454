-- `repair::repair` meets its contract: the two readings' answers in numbers, `try_repair`, and its answer put together with the constants. Assumes nothing.
use mathlib.Core.Path.{◌≡◌, ap, ◌∙◌}
use Rattle.door.specs.Outcome.{Outcome, told_as}
use Rattle.door.specs.Readings.{reading}
use Rattle.door.proofs.Bounds.{reading-most}
use Rattle.refusals.specs.Book.{book}
use Rattle.repair.specs.Repair.{repair}
use Rattle.repair.proofs.ReadingKinds.{kind-most}
use Rattle.repair.proofs.Answered.{both-joined}
use Rattle.repair.proofs.repair.Goals as goal

-- each of the two readings is told as it was read
pub try_repair-t-requires : goal.try_repair-t-requires
try_repair-t-requires c =
    let g = c.args in
    let e : told_as c.tell-a.result ≡ reading g.p = c.tell-a.ensures ∙ c.read.ensures in
    let f : told_as c.tell-b.result ≡ reading g.pe = c.tell-b.ensures ∙ c.read-2.ensures in
    (rw (ap (λ (o : Outcome). o.water) e) (reading-most g.p), rw (ap (λ (o : Outcome). o.water) f) (reading-most g.pe), rw (ap (λ (o : Outcome). o.kind) e) (kind-most g.p))

pub returns : goal.returns
unfolding repair
returns c =
    let g = c.args in
    let e : told_as c.tell-a.result ≡ reading g.p = c.tell-a.ensures ∙ c.read.ensures in
    let f : told_as c.tell-b.result ≡ reading g.pe = c.tell-b.ensures ∙ c.read-2.ensures in
    let cs = book g.x1.now g.x2.now g.x3.now g.index.now g.mark.now g.records.now g.v.now in
    rw (c.run_of-next.ensures, ← both-joined g.run g.i (reading g.p) (reading g.pe) cs g.report.now)
    (rw (c.progress_of-at.ensures, c.reading_refusal.ensures, ap (λ (o : Outcome). o.number) e, ap (λ (o : Outcome). o.number) f, ap (λ (o : Outcome). o.water) e, ap (λ (o : Outcome). o.water) f, ap (λ (o : Outcome). o.kind) e) at c.try_repair-t.ensures)
