-- `division_session::Session::stop`: the line is counted, and the refusal told. Assumes nothing.
use Rattle.division_session.proofs.Session.stop.Goals as goal

pub returns-clause-told : goal.returns-clause-told
returns-clause-told c = rw c.count_line-self.ensures
