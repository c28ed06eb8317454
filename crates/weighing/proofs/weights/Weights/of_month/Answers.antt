-- `weighing::Weights::of_month` meets its contract: a weight in its range is not below zero. Assumes nothing.
use Rattle.weighing.specs.Weighing.{weights_fit}
use Rattle.outline.specs.Numbers.{last_month}
use borrow.Author.Rules.{rules}
use mathlib.Core.Bool.{true}
use mathlib.Core.Path.{◌≡◌}
use lib.IntN.{pos}
use lib.ListN.{get_or}
use mir.Syntax.{w32}
use mir.Val.{SFits}
use mir.Facts.{to_z-of_z}
use Rattle.exact.proofs.Held.{held}
use Rattle.weighing.proofs.WeightLaws.{weight-wide}
use Rattle.weighing.proofs.weights.Weights.of_month.Goals as goal

pub overflow_cast-result : goal.overflow_cast-result
overflow_cast-result c =
    let f : SFits w32 (get_or c.args.self.now.list.now c.args.m (pos 0)) = search held in
    let w : weights_fit c.args.self.now.list.now last_month ≡ true = search rules in
    rw (to_z-of_z f) (weight-wide c.args.self.now.list.now c.args.m w c.requires)

pub returns : goal.returns
returns c =
    let f : SFits w32 (get_or c.args.self.now.list.now c.args.m (pos 0)) = search held in
    rw (to_z-of_z f)
