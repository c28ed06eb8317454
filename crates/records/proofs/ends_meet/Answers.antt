-- `records::ends_meet` meets its contract: after no month nothing is asked, and otherwise both storages of the last record. Assumes nothing.
use mathlib.Core.Path.{sym, ◌∙◌}
use Prim.Native.Nat.{◌-◌}
use native.Mathlib.Omega.{arith}
use borrow.Author.Rules.{rules}
use mir.Syntax.{w32}
use mir.Val.{SFits}
use mir.Facts.{to_z-of_z}
use Rattle.records.specs.Record.{record_at}
use Rattle.records.proofs.Fitting.{stored-most}
use Rattle.records.proofs.Meeting.{after_none, after-some}
use Rattle.records.proofs.ends_meet.Goals as goal

pub returns-then-months-eq0 : goal.returns-then-months-eq0
returns-then-months-eq0 c = let a = c.args in sym (after_none a.s a.records.now a.months c.if-months-eq0.true)

pub amounts-requires : goal.amounts-requires
amounts-requires c = omega (arith, (stored-most c.args.s c.requires.1).0)

pub amounts-requires-then-amounts : goal.amounts-requires-then-amounts
amounts-requires-then-amounts c = omega (arith, (stored-most c.args.s c.requires.1).1)

pub returns-then-amounts : goal.returns-then-amounts
returns-then-amounts c =
    let a = c.args in
    let f : SFits w32 (record_at a.records.now (a.months - 1)).surface = search rules in
    let g : SFits w32 (record_at a.records.now (a.months - 1)).underlying = search rules in
    rw (after-some a.s a.records.now a.months c.if-months-eq0.false, sym (rw (to_z-of_z f) at c.amounts.ensures) ∙ c.if-amounts.true)
    (rw (to_z-of_z g) at c.amounts-then-amounts.ensures)

pub returns-else-amounts : goal.returns-else-amounts
returns-else-amounts c =
    let a = c.args in
    let f : SFits w32 (record_at a.records.now (a.months - 1)).surface = search rules in
    rw (after-some a.s a.records.now a.months c.if-months-eq0.false, sym (rw (to_z-of_z f) at c.amounts.ensures) ∙ c.if-amounts.false) c.if-amounts.false
