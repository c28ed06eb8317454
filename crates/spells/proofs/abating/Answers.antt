-- `spells::abating` meets its contract. Assumes nothing.
use mathlib.Core.Path.{◌≡◌, ap, ap₂, ◌∙◌}
use lib.IntN.{ℤ}
use borrow.Author.Rules.{rules}
use mir.Syntax.{w32}
use mir.Val.{SFits, to_z, of_z}
use mir.Facts.{to_z-of_z}
use Rattle.exact.specs.Next.{next_of}
use Rattle.spells.specs.declared.Running.{Running}
use Rattle.spells.specs.Spells.{raised, lowered, provisional, abating_values, abating_month}
use Rattle.spells.proofs.Choices.{same-values, sides-kept}
use Rattle.spells.proofs.abating.Goals as goal
use Rattle.spells.proofs.abating.Goals.{After-raised_next, After-lowered_next}
use Rattle.std.specs.Prelude.{None}

-- X1, X2 and X3 as the calls give them, read back
x1-is : (c : After-raised_next) → to_z w32 (of_z w32 c.raised_next.result) ≡ raised (next_of c.args.s.x1 c.args.z)
x1-is c =
    let f : SFits w32 c.raised_next.result = record { sfits = c.raised_next.type_inv } in
    to_z-of_z f ∙ c.raised_next.ensures ∙ (search rules)

x2_is : (c : After-lowered_next) → to_z w32 (of_z w32 c.lowered_next.result) ≡ lowered (next_of c.args.s.x2 c.args.z)
x2_is c =
    let f : SFits w32 c.lowered_next.result = record { sfits = c.lowered_next.type_inv } in
    to_z-of_z f ∙ c.lowered_next.ensures ∙ (search rules)

x3_is : (c : goal.After-next) → to_z w32 (of_z w32 c.next.result) ≡ next_of c.args.s.x3 c.args.z
x3_is c =
    let f : SFits w32 c.next.result = record { sfits = c.next.type_inv } in
    to_z-of_z f ∙ c.next.ensures.value ∙ (search rules)

pub provisional_of-requires : goal.provisional_of-requires
provisional_of-requires c =
    rw (x1-is (goal.at.provisional_of-requires c).After-raised_next, x2_is (goal.at.provisional_of-requires c).After-lowered_next)
    (sides-kept c.args.s.x1 c.args.s.x2 c.args.z c.requires.values_fit.x1_size c.requires.values_fit.x2_size c.requires.z_bound)

pub returns : goal.returns
unfolding abating_month abating_values
returns c =
    let fi : SFits w32 c.provisional_of.result = record { sfits = c.provisional_of.type_inv } in
    let e = same-values (x1-is (goal.at.returns c).After-raised_next) (x2_is (goal.at.returns c).After-lowered_next) (x3_is c.before) (to_z-of_z c.ranges.v) in
    ap₂ (λ (after : Running) (index : ℤ). record { after = after; percent = c.args.percent; decision = None; index = index })
    e (to_z-of_z fi ∙ c.provisional_of.ensures ∙ ap provisional e)
