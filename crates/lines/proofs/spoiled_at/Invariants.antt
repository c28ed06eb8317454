use mathlib.Core.Path.{◌≡◌}
use Prim.Native.Nat.{◌+◌}
use lib.ListN.{drop}
use Rattle.lines.specs.Fault.{digits_in, spoiled_at}
use Rattle.lines.proofs.spoiled_at.Given as goal

abbrev pub invariant-loop-i : goal.invariant-loop-i
invariant-loop-i l = l.i + digits_in (drop l.i l.line) ≡ spoiled_at l.line
