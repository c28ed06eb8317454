-- `report::tell` meets its contract: what is gathered, and nothing after it. Assumes nothing.
use Rattle.std.proofs.Common.{arith, ◌≡◌, length}
use Rattle.report.specs.Held.{changes_since}
use Rattle.report.proofs.Filling.{reported-is, nothing-cloned, filled-from}
use Rattle.report.proofs.tell.Goals as goal

pub returns-clause-report_after : goal.returns-clause-report_after
returns-clause-report_after c =
    let g = c.gather-k in
    let a = c.args in
    let l : length g.new.report ≡ length a.report.now = omega arith in
    reported-is g.new.report _ (changes_since a.report.now a.index.now a.mark.now a.months) (length a.report.now) g.result a.months l g.ensures.value g.ensures.upper_bound (omega arith) g.ensures.report_after
    (filled-from g.new.report c.fill.new.self a.months (omega arith) (c.fill.ensures.after (λ y h. nothing-cloned y h.whole)))
