-- `calendar::constant` meets its contract: the place is among the sixty, and holds no number below zero. Assumes nothing.
use native.Mathlib.Omega.{arith}
use lib.IntN.{pos}
use lib.ListN.{get_or}
use mir.Syntax.{w32}
use mir.Val.{SFits}
use mir.Facts.{to_z-of_z}
use Rattle.outline.specs.Numbers.{many_constants}
use Rattle.exact.proofs.Held.{held}
use Rattle.ranges.proofs.RangeLaws.{countable, each_fits, constant-is}
use Rattle.calendar.proofs.constant.Goals as goal

pub offset_bounds-c-i : goal.offset_bounds-c-i
offset_bounds-c-i c = omega arith

pub bounds-c-i : goal.bounds-c-i
bounds-c-i c = omega arith

pub overflow_cast-result : goal.overflow_cast-result
overflow_cast-result c =
    let l = c.args.c.now in
    let i = c.args.i in
    let f : SFits w32 (get_or l i (pos 0)) = search held in
    simp to_z-of_z (countable (get_or l i (pos 0)) (constant-is l i (each_fits l i many_constants c.requires.1 c.requires.0)).0 f)

pub returns : goal.returns
returns c =
    let f : SFits w32 (get_or c.args.c.now c.args.i (pos 0)) = search held in
    simp to_z-of_z
