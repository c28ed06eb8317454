use Prim.Native.Nat.{◌*◌, ◌≤◌}
use Rattle.rows.proofs.Laid.{Put}
use Rattle.refusals.specs.Lists.{read}
use Rattle.palmer_output.specs.Printed.{rows_text}
use Rattle.palmer_output.proofs.put_rows.Given as goal

abbrev pub invariant-loop-i : goal.invariant-loop-i
invariant-loop-i l =
    (l.at ≤ 72 * l.i) × Put (rows_text l.run l.i (read l.rows) l.percent) 0 l.initial.out l.at l.out
