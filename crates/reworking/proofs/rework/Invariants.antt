use mathlib.Core.Path.{◌≡◌}
use Prim.Native.Nat.{◌-◌}
use Rattle.runs.specs.Progress.{run_of}
use Rattle.refusals.specs.Book.{book}
use Rattle.reworking.specs.Reworked.{reworked}
use Rattle.reworking.specs.Workable.{Stands}
use Rattle.reworking.proofs.Passes.{Recorded, SameLengths}
use Rattle.reworking.proofs.rework.Given as goal

abbrev pub invariant-loop : goal.invariant-loop
invariant-loop l =
    (l.s.months ≡ l.counter)
    × (reworked (l.fn.at.months - l.s.months) (run_of l.s l.constants) (book l.x1 l.x2 l.x3 l.index l.mark l.records l.v) ≡ reworked (l.fn.at.months - l.initial.s.months) (run_of l.initial.s l.constants) (book l.initial.x1 l.initial.x2 l.initial.x3 l.initial.index l.initial.mark l.initial.records l.initial.v))
    × Stands (run_of l.s l.constants) (book l.x1 l.x2 l.x3 l.index l.mark l.records l.v)
    × Recorded l.fn.at.months (run_of l.s l.constants) (book l.x1 l.x2 l.x3 l.index l.mark l.records l.v)
    × SameLengths (book l.x1 l.x2 l.x3 l.index l.mark l.records l.v) (book l.initial.x1 l.initial.x2 l.initial.x3 l.initial.index l.initial.mark l.initial.records l.initial.v)
