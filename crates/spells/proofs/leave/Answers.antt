-- `spells::leave` meets its contract, by computation. Assumes nothing.
use borrow.Author.Rules.{rules}
use Rattle.spells.specs.Spells.{unfounded}
use Rattle.spells.proofs.leave.Goals as goal

pub returns : goal.returns
unfolding unfounded
returns c = search rules
