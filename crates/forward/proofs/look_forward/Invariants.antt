use Prim.Native.Nat.{◌-◌}
use lib.ListN.{length}
use Rattle.forward.proofs.Scans.{Months, Scanning}
use Rattle.forward.proofs.look_forward.Given as goal

abbrev pub invariant-deciding : goal.invariant-deciding
invariant-deciding l = Scanning l.z l.initial.index l.initial.mark l.initial.values l.from l.index l.mark l.values l.by l.at

abbrev pub decreases-deciding : goal.decreases-deciding
decreases-deciding l = length l.z - l.at

abbrev pub invariant-months : goal.invariant-months
invariant-months l = Months l.z l.index l.mark l.values l.from

abbrev pub decreases-months : goal.decreases-months
decreases-months l = length l.z - l.from
