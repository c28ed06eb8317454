-- `given_rows::water_at` meets its contract: nothing that is read of the row is below zero. Assumes nothing.
use borrow.Author.Rules.{rules}
use mathlib.Core.Path.{ap}
use mir.Syntax.{w32}
use mir.Val.{SFits}
use mir.Facts.{to_z-of_z}
use Rattle.records.specs.Record.{record_at}
use Rattle.given_rows.specs.GivenRows.{water_of}
use Rattle.given_rows.proofs.RowLaws.{Signs, signs, counted}
use Rattle.given_rows.proofs.water_at.Goals as goal
use Rattle.given_rows.proofs.water_at.Goals.{After-record_at-m}

pub record_at-m-requires : goal.record_at-m-requires
record_at-m-requires c = search rules

-- what is read of the row is not below zero
row-signs : (c : After-record_at-m) → Signs c.record_at-m.result
row-signs c = rw c.record_at-m.ensures (signs c.args.capacity (record_at c.args.records.now c.args.i) c.requires.1)

pub overflow_cast-start : goal.overflow_cast-start
overflow_cast-start c = counted c.record_at-m.result.ss (row-signs (goal.at.overflow_cast-start c).After-record_at-m).ss (search rules)

pub overflow_cast-start-2 : goal.overflow_cast-start-2
overflow_cast-start-2 c = counted c.record_at-m.result.su (row-signs (goal.at.overflow_cast-start-2 c).After-record_at-m).su (search rules)

pub overflow_cast-result : goal.overflow_cast-result
overflow_cast-result c = counted c.record_at-m.result.p (row-signs (goal.at.overflow_cast-result c).After-record_at-m).p (search rules)

pub overflow_cast-result-2 : goal.overflow_cast-result-2
overflow_cast-result-2 c = counted c.record_at-m.result.pe (row-signs (goal.at.overflow_cast-result-2 c).After-record_at-m).pe (search rules)

pub overflow_cast-result-3 : goal.overflow_cast-result-3
overflow_cast-result-3 c = counted c.record_at-m.result.et (row-signs (goal.at.overflow_cast-result-3 c).After-record_at-m).et (search rules)

pub overflow_cast-result-4 : goal.overflow_cast-result-4
overflow_cast-result-4 c = counted c.record_at-m.result.r (row-signs (goal.at.overflow_cast-result-4 c).After-record_at-m).r (search rules)

pub overflow_cast-result-5 : goal.overflow_cast-result-5
overflow_cast-result-5 c = counted c.record_at-m.result.l (row-signs (goal.at.overflow_cast-result-5 c).After-record_at-m).l (search rules)

pub overflow_cast-result-6 : goal.overflow_cast-result-6
overflow_cast-result-6 c = counted c.record_at-m.result.ro (row-signs (goal.at.overflow_cast-result-6 c).After-record_at-m).ro (search rules)

pub returns : goal.returns
returns c =
    let m = c.record_at-m.result in
    let p : SFits w32 m.p = search rules in
    let pe : SFits w32 m.pe = search rules in
    let et : SFits w32 m.et = search rules in
    let r : SFits w32 m.r = search rules in
    let l : SFits w32 m.l = search rules in
    let ro : SFits w32 m.ro = search rules in
    let ss : SFits w32 m.ss = search rules in
    let su : SFits w32 m.su = search rules in
    simp to_z-of_z (ap (water_of c.args.capacity) c.record_at-m.ensures)
