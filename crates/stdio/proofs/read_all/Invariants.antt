-- What holds of the reader holds after each piece.
use Rattle.stdio.proofs.read_all.Given as goal

abbrev pub invariant-loop : goal.invariant-loop
invariant-loop g l = g.R.Reads.holds l.reader
