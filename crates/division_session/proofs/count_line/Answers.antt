-- `division_session::count_line`: as many as 32 bits hold. Assumes nothing.
use Rattle.division_session.specs.ByLines.{counted}
use Rattle.division_session.proofs.count_line.Goals as goal

pub returns : goal.returns
unfolding counted
returns c = c.saturating_add.ensures
