-- `spells::found` meets its contract, by computation. Assumes nothing.
use borrow.Author.Rules.{rules}
use Rattle.spells.specs.Spells.{founded}
use Rattle.spells.proofs.found.Goals as goal

pub returns : goal.returns
unfolding founded
returns c = search rules
