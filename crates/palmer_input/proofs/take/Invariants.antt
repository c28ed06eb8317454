use mathlib.Core.Path.{◌≡◌}
use mathlib.Core.List.{foldl}
use lib.ListN.{drop}
use Rattle.refusals.specs.Book.{book}
use Rattle.palmer_input.specs.ByLines.{state}
use Rattle.palmer_input.specs.Input.{byte_fed}
use Rattle.palmer_input.proofs.take.Given as goal

abbrev pub invariant-loop-b : goal.invariant-loop-b
invariant-loop-b l =
    foldl byte_fed (state l.s (book l.x1 l.x2 l.x3 l.index l.mark l.records l.v) l.percent) (drop l.b-index l.bytes) ≡ foldl byte_fed (state l.fn.s (book l.fn.x1 l.fn.x2 l.fn.x3 l.fn.index l.fn.mark l.fn.records l.fn.v) l.fn.percent) l.bytes
