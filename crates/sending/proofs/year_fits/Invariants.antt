use Rattle.std.proofs.Common.{◌≡◌, drop}
use Rattle.refusals.specs.Lists.{read}
use Rattle.sent_months.specs.Sent.{year_sent}
use Rattle.sending.specs.Sending.{all_fit}
use Rattle.sending.proofs.year_fits.Given as goal

abbrev pub invariant-loop-k : goal.invariant-loop-k
invariant-loop-k l =
    let fs = year_sent l.sent.element (read l.sent.rows) l.sent.calendar l.sent.months l.sent.which in
    all_fit (drop l.k fs) ≡ all_fit fs
