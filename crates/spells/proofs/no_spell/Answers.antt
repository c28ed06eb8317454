-- `spells::no_spell` meets its contract. Assumes nothing.
use mathlib.Core.Path.{◌≡◌, ap₂, ◌∙◌}
use lib.IntN.{ℤ}
use borrow.Author.Rules.{rules}
use mir.Syntax.{w32}
use mir.Val.{SFits}
use mir.Facts.{to_z-of_z}
use Rattle.exact.specs.Next.{next_of}
use Rattle.spells.specs.Spells.{raised, lowered, tried, no_spell}
use Rattle.spells.proofs.Choices.{sides-kept}
use Rattle.spells.proofs.no_spell.Goals as goal
use Rattle.spells.proofs.no_spell.Goals.{After-raised_next}

x1-is : (c : After-raised_next) → c.raised_next.result ≡ raised (next_of c.args.s.x1 c.args.z)
x1-is c = c.raised_next.ensures ∙ (search rules)

x2_is : (c : goal.After-lowered_next) → c.lowered_next.result ≡ lowered (next_of c.args.s.x2 c.args.z)
x2_is c = c.lowered_next.ensures ∙ (search rules)

pub try_both-requires : goal.try_both-requires
try_both-requires c =
    let f1 : SFits w32 c.raised_next.result = record { sfits = c.raised_next.type_inv } in
    let f2 : SFits w32 c.lowered_next.result = record { sfits = c.lowered_next.type_inv } in
    simp to_z-of_z
    (rw (x1-is (goal.at.try_both-requires c).After-raised_next, x2_is c)
    (sides-kept c.args.s.x1 c.args.s.x2 c.args.z c.requires.values_fit.x1_size c.requires.values_fit.x2_size c.requires.z_bound))

pub returns : goal.returns
unfolding no_spell
returns c =
    let f1 : SFits w32 c.raised_next.result = record { sfits = c.raised_next.type_inv } in
    let f2 : SFits w32 c.lowered_next.result = record { sfits = c.lowered_next.type_inv } in
    (simp to_z-of_z at c.try_both.ensures) ∙ ap₂ (λ (a b : ℤ). tried a b c.args.percent) (x1-is (goal.at.returns c).After-raised_next) (x2_is c.before)
