-- `adding::watered` meets its contract: the month's water and its storages at the end, put together. Assumes nothing.
use borrow.Author.Rules.{rules}
use mir.Syntax.{w32}
use mir.Val.{SFits}
use mir.Facts.{to_z-of_z}
use Rattle.adding.proofs.watered.Goals as goal

pub returns : goal.returns
returns c =
    let f : SFits w32 c.args.m.z = search rules in
    rw (to_z-of_z f, c.water_figures-water.ensures) at c.month_added.ensures
