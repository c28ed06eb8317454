-- `division_session::Session::pass_over`: the line is counted, and nothing kept of it. Assumes nothing.
use Rattle.division_session.proofs.Session.pass_over.Goals as goal

pub returns-clause-told : goal.returns-clause-told
returns-clause-told c = rw (c.clear.ensures, c.count_line-self.ensures)
