-- `reworking::add_again` meets its contract: by the record's mark the month is one of water or an added Z. Assumes nothing.
use native.Mathlib.Omega.{arith}
use borrow.Author.Rules.{rules}
use lib.Signed.{yes_non_neg}
use mir.Syntax.{w32}
use mir.Val.{SFits}
use mir.Facts.{to_z-of_z}
use Rattle.exact.proofs.Held.{held}
use Rattle.runs.specs.Progress.{run_of}
use Rattle.records.specs.Record.{record_at}
use Rattle.records.specs.declared.Record.{Record}
use Rattle.refusals.specs.Book.{book}
use Rattle.refusals.specs.Lists.{held as lent}
use Rattle.adding.specs.Taken.{result_of}
use Rattle.adding.specs.Progress.{added_of}
use Rattle.reworking.specs.Workable.{Kept}
use Rattle.reworking.proofs.Steps.{watered, ready, placed, with-water, without-water}
use Rattle.reworking.proofs.add_again.Goals as goal

-- of a record that can be worked again from: its numbers fit
z-fits : (m : Record) → Kept m → SFits w32 m.z
z-fits m k = search held

p-fits : (m : Record) → Kept m → SFits w32 m.p
p-fits m k = search held

pe-fits : (m : Record) → Kept m → SFits w32 m.pe
pe-fits m k = search held

kind_fits : (m : Record) → Kept m → SFits w32 m.kind
kind_fits m k = search held

pub record_at-m-requires : goal.record_at-m-requires
record_at-m-requires c =
    let a = c.args in
    (placed (run_of a.at a.constants.now) (book a.x1.now a.x2.now a.x3.now a.index.now a.mark.now a.records.now a.v.now) c.requires.stands c.requires.months_in_bounds.0).0

pub add_z-requires : goal.add_z-requires
add_z-requires c =
    let a = c.args in
    let r = run_of a.at a.constants.now in
    let cs = book a.x1.now a.x2.now a.x3.now a.index.now a.mark.now a.records.now a.v.now in
    let w = watered r cs c.requires.stands in
    let k : Kept c.record_at-m.result = rw c.record_at-m.ensures c.requires.months_in_bounds.1 in
    let b = c.requires.months_in_bounds.0 in
    record {
      ready = ready r cs c.requires.stands b;
      months_in_bounds = placed r cs c.requires.stands b;
      z_bound = (rw (to_z-of_z (z-fits _ k)) k.z, w.calendar, w.soil);
    }

pub returns-then-m-ne-WATER : goal.returns-then-m-ne-WATER
returns-then-m-ne-WATER c =
    let a = c.args in
    let r = run_of a.at a.constants.now in
    let cs = book a.x1.now a.x2.now a.x3.now a.index.now a.mark.now a.records.now a.v.now in
    let k : Kept c.record_at-m.result = rw c.record_at-m.ensures c.requires.months_in_bounds.1 in
    let l = c.add_z.new in
    let t = result_of (added_of c.add_z.result a.constants.now) (lent l.lists) in
    let done =
    without-water r cs c.record_at-m.result (record_at cs.records r.months) c.record_at-m.ensures (record { sfits = c.struct_told-1.given.1.1.1.1.1.1.1.1.1.1.1.0.1 }) t c.if-m-ne-WATER.true
    (rw (to_z-of_z (z-fits _ k)) at (c.add_z.ensures.outcome a.constants.now))
    in search rules

pub overflow_cast-kinds : goal.overflow_cast-kinds
overflow_cast-kinds c =
    let k : Kept c.record_at-m.result = rw c.record_at-m.ensures c.requires.months_in_bounds.1 in
    rw (to_z-of_z (kind_fits _ k)) (yes_non_neg k.kind_sign, record { fits = omega arith })

pub overflow_cast-m : goal.overflow_cast-m
overflow_cast-m c =
    let k : Kept c.record_at-m.result = rw c.record_at-m.ensures c.requires.months_in_bounds.1 in
    rw (to_z-of_z (p-fits _ k)) (yes_non_neg k.p_sign, record { fits = omega arith })

pub overflow_cast-m-2 : goal.overflow_cast-m-2
overflow_cast-m-2 c =
    let k : Kept c.record_at-m.result = rw c.record_at-m.ensures c.requires.months_in_bounds.1 in
    rw (to_z-of_z (pe-fits _ k)) (yes_non_neg k.pe_sign, record { fits = omega arith })

pub add_measured-requires : goal.add_measured-requires
add_measured-requires c =
    let a = c.args in
    let r = run_of a.at a.constants.now in
    let cs = book a.x1.now a.x2.now a.x3.now a.index.now a.mark.now a.records.now a.v.now in
    let k : Kept c.record_at-m.result = rw c.record_at-m.ensures c.requires.months_in_bounds.1 in
    let b = c.requires.months_in_bounds.0 in
    record {
      ready = ready r cs c.requires.stands b;
      months_in_bounds = placed r cs c.requires.stands b;
      watered = watered r cs c.requires.stands;
      p_le_most_reading = (rw (to_z-of_z (p-fits _ k)) k.p, rw (to_z-of_z (pe-fits _ k)) k.pe);
    }

pub returns : goal.returns
returns c =
    let a = c.args in
    let r = run_of a.at a.constants.now in
    let cs = book a.x1.now a.x2.now a.x3.now a.index.now a.mark.now a.records.now a.v.now in
    let k : Kept c.record_at-m.result = rw c.record_at-m.ensures c.requires.months_in_bounds.1 in
    let l = c.add_measured.new in
    let t = result_of (added_of c.add_measured.result a.constants.now) (lent l.lists) in
    let done =
    with-water r cs c.record_at-m.result (record_at cs.records r.months) c.record_at-m.ensures (record { sfits = c.struct_told-1.given.1.1.1.1.1.1.1.1.1.1.1.0.1 }) t c.if-m-ne-WATER.false
    (rw (to_z-of_z (p-fits _ k), to_z-of_z (pe-fits _ k), to_z-of_z (kind_fits _ k)) at c.add_measured.ensures.outcome)
    in search rules
