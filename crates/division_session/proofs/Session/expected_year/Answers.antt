-- `division_session::Session::expected_year`: the next year, or the line's own where there is none. Assumes nothing.
use Rattle.std.proofs.Common.{sym, take}
use Rattle.division_session.proofs.Closing.{first, following}
use Rattle.division_session.proofs.Session.expected_year.Goals as goal

pub returns-in-Some : goal.returns-in-Some
returns-in-Some c = let s = c.args.self.now in sym (following s.next c.in-Some.year (take s.kept.count s.kept.line) s.above_zero c.in-Some.is)

pub returns-in-None : goal.returns-in-None
returns-in-None c = first c.args.self.now.next _ c.year_of.result c.unwrap_or.result c.in-None.is c.unwrap_or.ensures (rw c.bytes.ensures at c.year_of.ensures.value)
