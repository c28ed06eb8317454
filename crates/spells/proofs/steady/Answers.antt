-- `spells::steady` meets its contract. Assumes nothing.
use mathlib.Core.Path.{ap, ◌∙◌}
use lib.IntN.{ℤ}
use borrow.Author.Rules.{rules}
use mir.Syntax.{w32}
use mir.Val.{SFits}
use mir.Facts.{to_z-of_z}
use Rattle.std.specs.Prelude.{Some}
use Rattle.spells.specs.Spells.{founded, steady_month}
use Rattle.spells.specs.declared.With.TheVariants.{X3}
use Rattle.spells.proofs.steady.Goals as goal

pub returns : goal.returns
unfolding steady_month founded
returns c =
    let f : SFits w32 c.next.result = record { sfits = c.next.type_inv } in
    (simp to_z-of_z at c.found.ensures) ∙ ap (λ (x : ℤ). founded x (Some X3) 0) (c.next.ensures.value ∙ (search rules))
