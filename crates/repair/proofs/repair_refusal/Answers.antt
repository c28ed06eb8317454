-- `repair::repair_refusal` meets its contract: 1, 7, 11, 17 and the readings' number, each way by its tests. Assumes nothing.
use mathlib.Core.Path.{◌≡◌, sym, ◌∙◌}
use native.Mathlib.Omega.{arith}
use mir.Syntax.{w32}
use mir.Val.{SFits}
use Rattle.outline.proofs.Tests.{fails, passes}
use Rattle.runs.specs.Progress.{run_of}
use Rattle.runs.specs.RunFits.{RunFits}
use Rattle.records.specs.Record.{record_at}
use Rattle.refusals.specs.Book.{book, long}
use Rattle.refusals.specs.Refusals.{run_refusal}
use Rattle.refusals.specs.Lent.{lent_long}
use Rattle.refusals.proofs.Refused.{run-passes, columns_are}
use Rattle.refusals.proofs.Lent.{lent-records, run_lent}
use Rattle.adding.proofs.Readiness.{run_is}
use Rattle.repair.proofs.Passes.{with-water, without-water, lists-refuse, run-refuses, rows-refuse, row-refuses, water-refuses, readings-refuse}
use Rattle.repair.proofs.repair_refusal.Goals as goal

pub returns-then-n-long : goal.returns-then-n-long
returns-then-n-long c =
    let a = c.args in
    let r = run_of a.at a.constants.now in
    let cs = book a.x1.now a.x2.now a.x3.now a.index.now a.mark.now a.records.now a.v.now in
    let l = c.lent_length-long.ensures in
    c.number.ensures ∙ lists-refuse r a.i cs a.n a.reading (λ e. c.if-n-long.true (e ∙ sym l))

pub run_refusal-requires : goal.run_refusal-requires
run_refusal-requires c =
    let a = c.args in
    rw c.lent_length-long.ensures (lent-records (book a.x1.now a.x2.now a.x3.now a.index.now a.mark.now a.records.now a.v.now))

pub returns-then-number-ne0 : goal.returns-then-number-ne0
returns-then-number-ne0 c =
    let a = c.args in
    let r = run_of a.at a.constants.now in
    let cs = book a.x1.now a.x2.now a.x3.now a.index.now a.mark.now a.records.now a.v.now in
    let long_is : a.n ≡ lent_long cs = omega (arith, c.if-n-long.false, c.lent_length-long.ensures) in
    let number_is : c.number-number.result ≡ run_refusal r cs = c.number-number.ensures ∙ (rw c.lent_length-long.ensures at c.run_refusal.ensures) ∙ run_lent cs r in
    number_is ∙ run-refuses r a.i cs a.n a.reading long_is (λ z. c.if-number-ne0.true (number_is ∙ z))

-- a run that is theirs
pub rows_fit-requires : goal.rows_fit-requires
rows_fit-requires c =
    let a = c.args in
    let r = run_of a.at a.constants.now in
    let cs = book a.x1.now a.x2.now a.x3.now a.index.now a.mark.now a.records.now a.v.now in
    let number_is : c.number-number.result ≡ run_refusal r cs = c.number-number.ensures ∙ (rw c.lent_length-long.ensures at c.run_refusal.ensures) ∙ run_lent cs r in
    let good = run-passes r cs (sym number_is ∙ c.if-number-ne0.false) in
    let l = columns_are cs good.fit in
    let f : RunFits (long cs) r = run_is r cs good in
    record {
      capacity_le_most_capacity = (f.soil.most, omega (arith, f.months, l.most));
      months_in_bounds = (f.months, omega (arith, f.months, l.x2_is), omega (arith, f.months, l.x3_is), omega (arith, f.months, l.index_is), omega (arith, f.months, l.mark_is), omega (arith, f.months, l.records_is), omega (arith, f.months, l.v_is));
    }

pub returns-then-not-rows_fit : goal.returns-then-not-rows_fit
returns-then-not-rows_fit c =
    let a = c.args in
    let r = run_of a.at a.constants.now in
    let cs = book a.x1.now a.x2.now a.x3.now a.index.now a.mark.now a.records.now a.v.now in
    let long_is : a.n ≡ lent_long cs = omega (arith, c.if-n-long.false, c.lent_length-long.ensures) in
    let number_is : c.number-number.result ≡ run_refusal r cs = c.number-number.ensures ∙ (rw c.lent_length-long.ensures at c.run_refusal.ensures) ∙ run_lent cs r in
    let good = run-passes r cs (sym number_is ∙ c.if-number-ne0.false) in
    c.number-then-not-rows_fit.ensures ∙ rows-refuse r a.i cs a.n a.reading long_is good (fails c.rows_fit.ensures c.if-not-rows_fit.true-raw)

-- rows in range
pub returns-then-i-at : goal.returns-then-i-at
returns-then-i-at c =
    let a = c.args in
    let r = run_of a.at a.constants.now in
    let cs = book a.x1.now a.x2.now a.x3.now a.index.now a.mark.now a.records.now a.v.now in
    let long_is : a.n ≡ lent_long cs = omega (arith, c.if-n-long.false, c.lent_length-long.ensures) in
    let number_is : c.number-number.result ≡ run_refusal r cs = c.number-number.ensures ∙ (rw c.lent_length-long.ensures at c.run_refusal.ensures) ∙ run_lent cs r in
    let good = run-passes r cs (sym number_is ∙ c.if-number-ne0.false) in
    let rows = passes c.rows_fit.ensures c.if-not-rows_fit.false-raw in
    c.number-then-i-at.ensures ∙ row-refuses r a.i cs a.n a.reading long_is good rows c.if-i-at.true

pub record_at-m-requires : goal.record_at-m-requires
record_at-m-requires c =
    let a = c.args in
    let r = run_of a.at a.constants.now in
    let cs = book a.x1.now a.x2.now a.x3.now a.index.now a.mark.now a.records.now a.v.now in
    let number_is : c.number-number.result ≡ run_refusal r cs = c.number-number.ensures ∙ (rw c.lent_length-long.ensures at c.run_refusal.ensures) ∙ run_lent cs r in
    let good = run-passes r cs (sym number_is ∙ c.if-number-ne0.false) in
    omega (arith, c.if-i-at.false, (run_is r cs good).months, (columns_are cs good.fit).records_is)

-- by the mark of its water: the month without water and with it
pub returns-then-m-ne-WATER : goal.returns-then-m-ne-WATER
returns-then-m-ne-WATER c =
    let a = c.args in
    let r = run_of a.at a.constants.now in
    let cs = book a.x1.now a.x2.now a.x3.now a.index.now a.mark.now a.records.now a.v.now in
    let long_is : a.n ≡ lent_long cs = omega (arith, c.if-n-long.false, c.lent_length-long.ensures) in
    let number_is : c.number-number.result ≡ run_refusal r cs = c.number-number.ensures ∙ (rw c.lent_length-long.ensures at c.run_refusal.ensures) ∙ run_lent cs r in
    let good = run-passes r cs (sym number_is ∙ c.if-number-ne0.false) in
    let rows = passes c.rows_fit.ensures c.if-not-rows_fit.false-raw in
    let f : SFits w32 c.record_at-m.result.water = record { sfits = c.struct_told-1.given.1.1.1.1.1.1.1.1.1.1.1.0.1 } in
    c.number-then-m-ne-WATER.ensures
    ∙ water-refuses r a.i cs a.n a.reading long_is good rows c.if-i-at.false
    (without-water c.record_at-m.result (record_at cs.records a.i) c.record_at-m.ensures f c.if-m-ne-WATER.true)

pub returns : goal.returns
returns c =
    let a = c.args in
    let r = run_of a.at a.constants.now in
    let cs = book a.x1.now a.x2.now a.x3.now a.index.now a.mark.now a.records.now a.v.now in
    let long_is : a.n ≡ lent_long cs = omega (arith, c.if-n-long.false, c.lent_length-long.ensures) in
    let number_is : c.number-number.result ≡ run_refusal r cs = c.number-number.ensures ∙ (rw c.lent_length-long.ensures at c.run_refusal.ensures) ∙ run_lent cs r in
    let good = run-passes r cs (sym number_is ∙ c.if-number-ne0.false) in
    let rows = passes c.rows_fit.ensures c.if-not-rows_fit.false-raw in
    let f : SFits w32 c.record_at-m.result.water = record { sfits = c.struct_told-1.given.1.1.1.1.1.1.1.1.1.1.1.0.1 } in
    readings-refuse r a.i cs a.n a.reading long_is good rows c.if-i-at.false
    (with-water c.record_at-m.result (record_at cs.records a.i) c.record_at-m.ensures f c.if-m-ne-WATER.false)
