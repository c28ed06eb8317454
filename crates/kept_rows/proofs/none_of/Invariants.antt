-- Whether the items passed are so is known, by any test that is not passed where one is. Assumes nothing.
use mathlib.Core.Path.{◌≡◌}
use mathlib.Core.Bool.{Bool, not}
use Prim.Native.Nat.{ℕ}
use Rattle.std.specs.Fn.{FnReturnsAt}
use Rattle.outline.specs.Every.{all_of}
use Rattle.kept_rows.specs.Lists.{AnswersNot}
use Rattle.kept_rows.proofs.none_of.Given as goal

abbrev pub invariant-loop-x : goal.invariant-loop-x
invariant-loop-x g l =
    (test : ℕ → Bool) → AnswersNot (FnReturnsAt g.F.Fn l.is_so) l.items test → l.some ≡ not (all_of test l.x-index)
