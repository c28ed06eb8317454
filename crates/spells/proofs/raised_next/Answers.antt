-- `spells::raised_next` meets its contract. Assumes nothing.
use mathlib.Core.Path.{◌≡◌, ◌∙◌}
use lib.IntN.{pos}
use borrow.Author.Rules.{rules}
use mir.Syntax.{w32}
use mir.Val.{SFits}
use mir.Facts.{to_z-of_z}
use Rattle.exact.specs.Next.{next_of}
use Rattle.exact.proofs.Z.{le_yes, le-no}
use Rattle.spells.proofs.Choices.{raised-kept, raised-off}
use Rattle.spells.proofs.raised_next.Goals as goal
use Rattle.spells.proofs.raised_next.Goals.{After-next-n}

pub next-n-requires : goal.next-n-requires
next-n-requires c = search rules

given : (c : After-next-n) → c.next-n.result ≡ next_of c.args.x c.args.z
given c = c.next-n.ensures.value ∙ (search rules)

pub returns-then-n-ge0 : goal.returns-then-n-ge0
returns-then-n-ge0 c =
    let n = c.next-n.result in
    let f : SFits w32 n = record { sfits = c.next-n.type_inv } in
    simp to_z-of_z (raised-kept n _ (given c.before) (le_yes (pos 0) n (simp to_z-of_z at c.if-n-ge0.true)))

pub returns-else-n-ge0 : goal.returns-else-n-ge0
returns-else-n-ge0 c =
    let n = c.next-n.result in
    let f : SFits w32 n = record { sfits = c.next-n.type_inv } in
    raised-off n _ (given c.before) (le-no (pos 0) n (simp to_z-of_z at c.if-n-ge0.false))
