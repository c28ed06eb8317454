-- The copy holds the constants of all places passed. Assumes nothing.
use mathlib.Core.Path.{◌≡◌}
use Prim.Native.Nat.{ℕ, ◌<◌}
use lib.IntN.{pos}
use lib.ListN.{length, get_or}
use Rattle.outline.specs.Numbers.{many_constants}
use Rattle.starts.proofs.copied.Given as goal

abbrev pub invariant-loop-i : goal.invariant-loop-i
invariant-loop-i l = (length l.kept ≡ many_constants) × ((k : ℕ) → k < l.i → get_or l.kept k (pos 0) ≡ get_or l.constants k (pos 0))
