-- `repair::try_repair` meets its contract: by its number it hands back what it was given, or holds what was before, reworks the months and tells what changed.
-- Assumes nothing.
use mathlib.Core.Path.{◌≡◌, sym, ◌∙◌}
use Prim.Native.Nat.{◌≤◌}
use native.Mathlib.Omega.{arith}
use lib.ListN.{length}
use Rattle.door.specs.Outcome.{Outcome}
use Rattle.runs.specs.Progress.{run_of}
use Rattle.refusals.specs.Book.{book}
use Rattle.refusals.proofs.Refused.{columns_are}
use Rattle.adding.proofs.Readiness.{run_is}
use Rattle.reworking.specs.Reworked.{left}
use Rattle.repair.specs.Repair.{repair_refusal}
use Rattle.repair.proofs.Passes.{passes}
use Rattle.repair.proofs.Answered.{refuses, since-most, accepts}
use Rattle.repair.proofs.try_repair.Goals as goal

-- ---- refused
pub returns-then-number-ne0 : goal.returns-then-number-ne0
returns-then-number-ne0 c =
    let a = c.args in
    let r = run_of a.at a.constants.now in
    let cs = book a.x1.now a.x2.now a.x3.now a.index.now a.mark.now a.records.now a.v.now in
    let first : Outcome = record { number = a.reading; water = a.p; kind = a.kind } in
    let second : Outcome = record { number = 0; water = a.pe; kind = 0 } in
    rw c.not_repaired.ensures
    (refuses r a.i first second cs a.report.now c.repair_refusal-number.result c.repair_refusal-number.ensures c.if-number-ne0.true)

-- ---- nothing is refused
-- the run can be worked on, and the report is as long as its columns
pub hold-requires : goal.hold-requires
hold-requires c =
    let a = c.args in
    let r = run_of a.at a.constants.now in
    let cs = book a.x1.now a.x2.now a.x3.now a.index.now a.mark.now a.records.now a.v.now in
    let free : repair_refusal r a.i a.reading 0 cs (length a.report.now) ≡ 0 = sym c.repair_refusal-number.ensures ∙ c.if-number-ne0.false in
    let able = passes r a.i cs (length a.report.now) a.reading 0 free in
    let lengths = columns_are cs able.0.good.fit in
    (omega (arith, able.1, lengths.index_is), omega (arith, able.1, lengths.mark_is), omega (arith, able.1, lengths.most))

pub overflow_cast-i : goal.overflow_cast-i
overflow_cast-i c =
    let a = c.args in
    let r = run_of a.at a.constants.now in
    let cs = book a.x1.now a.x2.now a.x3.now a.index.now a.mark.now a.records.now a.v.now in
    let free : repair_refusal r a.i a.reading 0 cs (length a.report.now) ≡ 0 = sym c.repair_refusal-number.ensures ∙ c.if-number-ne0.false in
    let able = passes r a.i cs (length a.report.now) a.reading 0 free in
    let lengths = columns_are cs able.0.good.fit in
    let f = run_is r cs able.0.good in
    record { fits = omega (arith, able.0.row, f.months, lengths.most) }

pub rework-s-requires : goal.rework-s-requires
rework-s-requires c =
    let a = c.args in
    let r = run_of a.at a.constants.now in
    let cs = book a.x1.now a.x2.now a.x3.now a.index.now a.mark.now a.records.now a.v.now in
    let free : repair_refusal r a.i a.reading 0 cs (length a.report.now) ≡ 0 = sym c.repair_refusal-number.ensures ∙ c.if-number-ne0.false in
    let able = passes r a.i cs (length a.report.now) a.reading 0 free in
    record { workable = able.0; p_le_most_reading = c.requires }

pub tell-k-requires : goal.tell-k-requires
tell-k-requires c =
    let a = c.args in
    let r = run_of a.at a.constants.now in
    let cs = book a.x1.now a.x2.now a.x3.now a.index.now a.mark.now a.records.now a.v.now in
    let free : repair_refusal r a.i a.reading 0 cs (length a.report.now) ≡ 0 = sym c.repair_refusal-number.ensures ∙ c.if-number-ne0.false in
    let able = passes r a.i cs (length a.report.now) a.reading 0 free in
    let lengths = columns_are cs able.0.good.fit in
    let f = run_is r cs able.0.good in
    let n = c.hold.auto.report in
    let k = c.rework-s.auto in
    (omega (arith, able.1, n, k.index, lengths.index_is), omega (arith, able.1, n, k.mark, lengths.mark_is), omega (arith, able.1, n, lengths.most), omega (arith, n, f.months, able.1))

pub overflow_cast-result : goal.overflow_cast-result
overflow_cast-result c =
    let a = c.args in
    let r = run_of a.at a.constants.now in
    let cs = book a.x1.now a.x2.now a.x3.now a.index.now a.mark.now a.records.now a.v.now in
    let first : Outcome = record { number = a.reading; water = a.p; kind = a.kind } in
    let second : Outcome = record { number = 0; water = a.pe; kind = 0 } in
    let free : repair_refusal r a.i a.reading 0 cs (length a.report.now) ≡ 0 = sym c.repair_refusal-number.ensures ∙ c.if-number-ne0.false in
    let able = passes r a.i cs (length a.report.now) a.reading 0 free in
    let lengths = columns_are cs able.0.good.fit in
    let f = run_is r cs able.0.good in
    let months-fit : a.at.months ≤ length a.report.now = omega (arith, f.months, able.1) in
    let n = c.rework-s.new in
    let left_by = left (run_of c.rework-s.result a.constants.now) (book n.x1 n.x2 n.x3 n.index n.mark n.records n.v) in
    let m = since-most r a.i first second cs a.report.now c.hold.new.report c.hold.ensures months-fit left_by in
    record { fits = omega (arith, m, c.tell-k.ensures.value, f.months, lengths.most) }

pub returns : goal.returns
returns c =
    let a = c.args in
    let r = run_of a.at a.constants.now in
    let cs = book a.x1.now a.x2.now a.x3.now a.index.now a.mark.now a.records.now a.v.now in
    let first : Outcome = record { number = a.reading; water = a.p; kind = a.kind } in
    let second : Outcome = record { number = 0; water = a.pe; kind = 0 } in
    let free : repair_refusal r a.i a.reading 0 cs (length a.report.now) ≡ 0 = sym c.repair_refusal-number.ensures ∙ c.if-number-ne0.false in
    let able = passes r a.i cs (length a.report.now) a.reading 0 free in
    let lengths = columns_are cs able.0.good.fit in
    let f = run_is r cs able.0.good in
    let months-fit : a.at.months ≤ length a.report.now = omega (arith, f.months, able.1) in
    let n = c.rework-s.new in
    let left_by = left (run_of c.rework-s.result a.constants.now) (book n.x1 n.x2 n.x3 n.index n.mark n.records n.v) in
    accepts r a.i first second cs a.report.now c.hold.new.report c.hold.ensures months-fit free c.hold.auto.report left_by c.rework-s.ensures c.tell-k.result c.tell-k.ensures.value c.tell-k.new.report c.tell-k.ensures.report_after
