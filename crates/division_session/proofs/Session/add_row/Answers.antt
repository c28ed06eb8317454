-- `division_session::Session::add_row`: the year's row is laid where the rows end, and the line counted. Assumes nothing.
use Rattle.division_session.proofs.Session.add_row.Goals as goal

pub returns-clause-told : goal.returns-clause-told
returns-clause-told c = rw (c.clear.ensures, c.count_line-self.ensures, c.lay_year-self.ensures.value)
