use mathlib.Core.Path.{◌≡◌}
use mathlib.Core.List.{foldl}
use lib.ListN.{take}
use Rattle.quoted.specs.Start.{heeded}
use Rattle.quoted.proofs.heed.Given as goal

abbrev pub invariant-loop-b : goal.invariant-loop-b
invariant-loop-b l = l.t ≡ foldl (heeded l.last) l.initial.t (take l.b-index l.piece)
