use mathlib.Core.Path.{◌≡◌}
use mathlib.Core.Bool.{true}
use Rattle.weighing.specs.Weighing.{ks_fit}
use Rattle.weighing.specs.Stores.{ks_to}
use Rattle.weighing.proofs.put_ks.Given as goal

abbrev pub invariant-loop-m : goal.invariant-loop-m
invariant-loop-m l = (ks_fit l.total l.weights.list.now l.m ≡ true) × (l.set ≡ ks_to l.total l.weights.list.now l.initial.set l.m)
