-- `drought::not_shown`: all but the number is 0. Assumes nothing.
use Rattle.drought.proofs.not_shown.Goals as goal

pub returns : goal.returns
returns c = rw (c.number.ensures, c.no_record-none.ensures)
