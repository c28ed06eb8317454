-- `season::season_refusal`: 1 for lists of unequal length, then the run's. Assumes nothing.
use mathlib.Core.Path.{◌∙◌}
use lib.ListN.{length}
use borrow.Author.Tests.{eq-eqb, ne_eqb}
use Rattle.runs.specs.Progress.{run_of}
use Rattle.refusals.specs.Book.{Book}
use Rattle.refusals.proofs.Lent.{lent-records, run_lent}
use Rattle.refusals.specs.Lists.{read}
use Rattle.season.specs.Season.{season_refusal}
use Rattle.season.proofs.season_refusal.Goals as goal
use Rattle.season.proofs.season_refusal.Goals.{After-lent_length-n}

abbrev lent : After-lent_length-n → Book
lent c = let a = c.args in read a.rows.now

pub returns-then-p-pe : goal.returns-then-p-pe
unfolding season_refusal
returns-then-p-pe c = rw (ne_eqb (length c.args.p.now) (length c.args.pe.now) c.if-p-pe.true)

pub run_refusal-requires : goal.run_refusal-requires
run_refusal-requires c = rw c.lent_length-n.ensures (lent-records (lent (goal.at.run_refusal-requires c).After-lent_length-n))

pub returns : goal.returns
unfolding season_refusal
returns c =
    rw (eq-eqb _ _ c.if-p-pe.false) ((rw c.lent_length-n.ensures at c.run_refusal.ensures) ∙ run_lent (lent (goal.at.returns c).After-lent_length-n) (run_of c.args.at c.args.constants.now))
