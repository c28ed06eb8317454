-- `spells::provisional_of` meets its contract. Assumes nothing.
use mathlib.Core.Path.{◌≡◌, sym, ap, ◌∙◌}
use lib.IntN.{pos}
use borrow.Author.Rules.{rules}
use mir.Syntax.{w32}
use mir.Val.{SFits, of_z}
use mir.Facts.{to_z-of_z, sfits_lit}
use Rattle.exact.proofs.Held.{same_bits}
use Rattle.spells.specs.Spells.{larger_in_size}
use Rattle.spells.proofs.Choices.{provisional-none, provisional-x3}
use Rattle.spells.proofs.provisional_of.Goals as goal
use Rattle.spells.proofs.provisional_of.Goals.{Then-s-eq0}

none : (c : Then-s-eq0) → c.args.s.x3 ≡ pos 0
none c = let f : SFits w32 c.args.s.x3 = search rules in same_bits {y = pos 0} f (sfits_lit tt) c.if-s-eq0.true

larger : (c : goal.After-larger_in_size) → c.larger_in_size.result ≡ larger_in_size c.args.s.x1 c.args.s.x2
larger c = c.larger_in_size.ensures ∙ (search rules)

pub returns-then-s-eq0 : goal.returns-then-s-eq0
returns-then-s-eq0 c =
    let f : SFits w32 c.larger_in_size.result = record { sfits = c.larger_in_size.type_inv } in
    to_z-of_z f ∙ larger c ∙ sym (provisional-none c.args.s (none (goal.at.returns-then-s-eq0 c).Then-s-eq0))

pub returns-else-s-eq0 : goal.returns-else-s-eq0
returns-else-s-eq0 c =
    let f : SFits w32 c.args.s.x3 = search rules in
    to_z-of_z f
    ∙ sym (provisional-x3 c.args.s (λ e. c.if-s-eq0.false (ap (of_z w32) e)))
