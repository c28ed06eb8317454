-- The months from i up to m are open again, whatever the records are (`Going`). Assumes nothing.
use mathlib.Core.Path.{◌≡◌}
use mathlib.Core.List.{List}
use lib.IntN.{ℤ}
use lib.ListN.{length}
use Rattle.refusals.specs.Book.{book}
use Rattle.reopening.proofs.Back.{Going}
use Rattle.reopening.proofs.reopen.Given as goal

abbrev pub invariant-loop-i : goal.invariant-loop-i
invariant-loop-i l =
    (length l.index ≡ length l.initial.index)
    × (length l.mark ≡ length l.initial.mark)
    × ((records : List (List ℤ)) → Going (book l.x1 l.x2 l.x3 l.initial.index l.initial.mark records l.v) l.m l.index l.mark l.i)
