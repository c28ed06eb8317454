use mathlib.Core.Path.{◌≡◌}
use mathlib.Core.Bool.{true}
use Rattle.weighing.specs.Weighing.{span, shares_in, departure_in, gammas_fit}
use Rattle.weighing.specs.Stores.{fours_to, means_to}
use Rattle.weighing.proofs.put_shares.Given as goal

abbrev pub invariant-loop-m : goal.invariant-loop-m
invariant-loop-m l =
    let s = span l.capacity l.records l.first l.years in
    (gammas_fit s l.m ≡ true) × (l.set ≡ fours_to (shares_in s) l.initial.set l.m) × (l.means ≡ means_to (departure_in s) l.initial.means l.m)
