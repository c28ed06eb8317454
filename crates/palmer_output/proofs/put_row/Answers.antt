-- `palmer_output::put_row`: the percent kept, what the row shows, and what is laid out of both. Assumes nothing.
use mathlib.Core.Path.{ap, ap₂, ◌∙◌}
use Prim.Native.Nat.{◌+◌}
use lib.ListN.{length}
use mir.Syntax.{w32}
use mir.Val.{SFits}
use mir.Facts.{to_z-of_z}
use borrow.Author.Rules.{rules}
use Rattle.rows.specs.Text.{row_text}
use Rattle.rows.specs.Room.{laid}
use Rattle.palmer_output.specs.Printed.{row_at, row_of}
use Rattle.palmer_output.proofs.put_row.Goals as goal

pub returns : goal.returns
unfolding row_at
returns c =
    let s = c.row-shown.result in
    let f1 : SFits w32 s.x1 = search rules in
    let f2 : SFits w32 s.x2 = search rules in
    let f3 : SFits w32 s.x3 = search rules in
    let fi : SFits w32 s.index = search rules in
    let e = rw (to_z-of_z f1, to_z-of_z f2, to_z-of_z f3, to_z-of_z fi) at c.lay_out.ensures in
    let same = ap₂ (row_of c.args.i) c.row-shown.ensures c.percent_at.ensures in
    record {
      upper_bound = e.upper_bound;
      value = e.value ∙ ap (λ w. c.args.at + length (row_text w)) same;
      out_after = e.out_after ∙ ap (λ w. laid (row_text w) c.args.at c.args.out.now) same;
    }
