use Rattle.std.proofs.Common.{◌≡◌, drop}
use Rattle.kept_line.specs.Kept.{part_kept}
use Rattle.kept_line.proofs.Kept.keep_part.Given as goal

abbrev pub invariant-loop-b : goal.invariant-loop-b
invariant-loop-b l = part_kept l.self (drop l.b-index l.rest) ≡ part_kept l.fn.self l.fn.part
