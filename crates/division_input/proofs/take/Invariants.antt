use Rattle.std.proofs.Common.{◌≡◌, ◌-◌, length, drop}
use mathlib.Core.List.{foldl}
use Rattle.division_session.specs.Session.{seen, Held}
use Rattle.division_input.specs.Input.{state_of, byte_fed}
use Rattle.division_input.proofs.take.Given as goal

abbrev pub invariant-loop-start : goal.invariant-loop-start
invariant-loop-start l =
    (foldl byte_fed (state_of l.session l.out) (drop l.start l.piece) ≡ foldl byte_fed (state_of l.initial.session l.initial.out) l.piece) × Held (seen l.session) l.session.kept.line l.out

abbrev pub decreases-loop-start : goal.decreases-loop-start
decreases-loop-start l = length l.piece - l.start
