-- `spells::lowered_next` meets its contract. Assumes nothing.
use mathlib.Core.Path.{◌≡◌, ◌∙◌}
use lib.IntN.{pos}
use borrow.Author.Rules.{rules}
use mir.Syntax.{w32}
use mir.Val.{SFits}
use mir.Facts.{to_z-of_z}
use Rattle.exact.specs.Next.{next_of}
use Rattle.exact.proofs.Z.{le_yes, le-no}
use Rattle.spells.proofs.Choices.{lowered-kept, lowered-off}
use Rattle.spells.proofs.lowered_next.Goals as goal
use Rattle.spells.proofs.lowered_next.Goals.{After-next-n}

pub next-n-requires : goal.next-n-requires
next-n-requires c = search rules

given : (c : After-next-n) → c.next-n.result ≡ next_of c.args.x c.args.z
given c = c.next-n.ensures.value ∙ (search rules)

pub returns-then-n-le0 : goal.returns-then-n-le0
returns-then-n-le0 c =
    let n = c.next-n.result in
    let f : SFits w32 n = record { sfits = c.next-n.type_inv } in
    simp to_z-of_z (lowered-kept n _ (given c.before) (le_yes n (pos 0) (simp to_z-of_z at c.if-n-le0.true)))

pub returns-else-n-le0 : goal.returns-else-n-le0
returns-else-n-le0 c =
    let n = c.next-n.result in
    let f : SFits w32 n = record { sfits = c.next-n.type_inv } in
    lowered-off n _ (given c.before) (le-no n (pos 0) (simp to_z-of_z at c.if-n-le0.false))
