use mathlib.Core.Path.{◌≡◌}
use Prim.Native.Nat.{◌+◌, ◌*◌, ◌≤◌}
use lib.ListN.{length, drop}
use Rattle.rows.specs.Text.{months_text}
use Rattle.rows.specs.Room.{laid}
use Rattle.rows.proofs.Laid.{Put}
use Rattle.rows.proofs.put_months.Given as goal

abbrev pub invariant-loop-amount : goal.invariant-loop-amount
invariant-loop-amount l =
    (l.end ≤ l.at + 11 * l.amount-index) × (length l.out ≡ length l.initial.out) × Put (months_text l.amounts l.present) l.at l.initial.out (l.end + length (months_text (drop l.amount-index l.amounts) l.left)) (laid (months_text (drop l.amount-index l.amounts) l.left) l.end l.out)
