use Rattle.std.proofs.Common.{◌≡◌, take}
use Rattle.report.specs.Held.{held}
use Rattle.report.proofs.hold.Given as goal

abbrev pub invariant-loop-i : goal.invariant-loop-i
invariant-loop-i l = take l.i l.report ≡ held l.index l.mark l.i
