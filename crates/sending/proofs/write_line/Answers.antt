-- `sending::write_line`: what is lent is measured once, and the rest is by that. Assumes nothing.
use mathlib.Core.Path.{◌∙◌}
use Rattle.refusals.specs.Lists.{read}
use Rattle.sending.proofs.Refused.{lent-within, by-lent}
use Rattle.sending.proofs.write_line.Goals as goal

pub try_line-requires : goal.try_line-requires
try_line-requires c = rw c.lent_length-n.ensures (lent-within (read c.args.rows.now))

pub returns : goal.returns
returns c =
    let a = c.args in
    (rw (c.lent_length-n.ensures, c.progress_of-at.ensures) at c.try_line.ensures) ∙ by-lent (read a.rows.now) a.run a.element a.state a.division a.year a.which a.line.now
