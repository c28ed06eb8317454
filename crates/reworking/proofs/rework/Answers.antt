-- `reworking::rework` meets its contract: what is still to come takes what has been worked again to where all months take the run before the first. Assumes
-- nothing.
use mathlib.Core.Path.{◌≡◌, refl, sym, ap, ◌∙◌}
use Prim.Native.Nat.{suc, ◌≤◌, ◌<◌}
use native.Mathlib.Omega.{arith}
use Rattle.runs.specs.Progress.{run_of}
use Rattle.runs.specs.declared.Run.{Run}
use Rattle.records.specs.Record.{record_at}
use Rattle.refusals.specs.Book.{book, long}
use Rattle.adding.specs.Progress.{added_of}
use Rattle.adding.specs.Taken.{result_of}
use Rattle.reopening.proofs.Laws.{opens-most}
use Rattle.reworking.specs.Reworked.{again, reworked_from}
use Rattle.reworking.proofs.Passes.{lengths-then, ends, stands-first, recorded-first, reworks-first, months-next, stands-next, recorded-next, reworks-next}
use Rattle.reworking.proofs.Entry.{lengths, run_fits, calendar-fits, ranges, sided, stands-begun, recorded-begun, begins}
use Rattle.reworking.proofs.rework.Goals as goal

-- ---- before the first month
pub reopen-opens-requires : goal.reopen-opens-requires
reopen-opens-requires c =
    let a = c.args in
    let r = run_of a.at a.constants.now in
    let cs = book a.x1.now a.x2.now a.x3.now a.index.now a.mark.now a.records.now a.v.now in
    let w = c.requires.workable in
    let l = lengths r cs a.i w in
    let f = run_fits r cs a.i w in
    let m = w.row in
    record {
      m_in_bounds = (omega (arith, f.months), omega (arith, f.months, l.x2_is), omega (arith, f.months, l.x3_is), omega (arith, f.months, l.index_is), omega (arith, f.months, l.mark_is), omega (arith, f.months, l.v_is), omega (arith, f.months, l.most));
      sided = sided r cs a.i w;
    }

-- as many months are open again as were open before
pub overflow_cast-opens : goal.overflow_cast-opens
overflow_cast-opens c =
    let a = c.args in
    let r = run_of a.at a.constants.now in
    let cs = book a.x1.now a.x2.now a.x3.now a.index.now a.mark.now a.records.now a.v.now in
    let w = c.requires.workable in
    let l = lengths r cs a.i w in
    let f = run_fits r cs a.i w in
    record { fits = omega (arith, c.reopen-opens.ensures.value a.records.now, opens-most cs a.i, w.row, f.months, l.most) }

pub run_before-s-requires : goal.run_before-s-requires
run_before-s-requires c =
    let a = c.args in
    let r = run_of a.at a.constants.now in
    let cs = book a.x1.now a.x2.now a.x3.now a.index.now a.mark.now a.records.now a.v.now in
    let w = c.requires.workable in
    let l = lengths r cs a.i w in
    let f = run_fits r cs a.i w in
    let m = ranges r cs a.i w a.i w.row in
    record {
      m_lt_months = (w.row, omega (arith, f.months, l.most), f.months, omega (arith, f.months, l.x2_is), omega (arith, f.months, l.x3_is), omega (arith, f.months, l.records_is), omega (arith, f.months, l.v_is));
      calendar_value = (calendar-fits r cs a.i w, m.ss_sign, m.su_sign);
    }

pub renew-requires : goal.renew-requires
renew-requires c =
    let a = c.args in
    let r = run_of a.at a.constants.now in
    let cs = book a.x1.now a.x2.now a.x3.now a.index.now a.mark.now a.records.now a.v.now in
    let w = c.requires.workable in
    let l = lengths r cs a.i w in
    let f = run_fits r cs a.i w in
    record { i_in_bounds = omega (arith, w.row, f.months, l.records_is); p_le_most_reading = c.requires.p_le_most_reading }

pub loop-init : goal.loop-init
loop-init c =
    let a = c.args in
    let r = run_of a.at a.constants.now in
    let cs = book a.x1.now a.x2.now a.x3.now a.index.now a.mark.now a.records.now a.v.now in
    let w = c.requires.workable in
    let l = lengths r cs a.i w in
    let f = run_fits r cs a.i w in
    let q = c.requires.p_le_most_reading in
    let o = c.reopen-opens.new in
    let e = c.run_before-s.ensures a.index.now a.mark.now a.constants.now (c.reopen-opens.ensures.value a.records.now) in
    let g = begins r cs a.i w a.p a.pe a.kind q o.index o.mark c.renew.new.records (c.reopen-opens.ensures.v_after a.records.now) c.renew.ensures in (
      ap (λ (r : Run). r.months) e,
      refl,
      stands-first a.at.months e g (stands-begun r cs a.i w a.p a.pe a.kind q),
      recorded-first a.at.months e g (recorded-begun r cs a.i w a.p a.pe a.kind q),
      (refl, refl, refl, refl, refl, refl, refl),
    )

-- ---- a pass
pub add_again-t-requires : goal.add_again-t-requires
add_again-t-requires c =
    let a = c.args in
    let r = run_of a.at a.constants.now in
    let cs = book a.x1.now a.x2.now a.x3.now a.index.now a.mark.now a.records.now a.v.now in
    let l = c.loop in
    let v = l.invariant in
    let q = run_of l.s a.constants.now in
    let so_far = book l.x1 l.x2 l.x3 l.index l.mark l.records l.v in
    let due : l.s.months < a.at.months = omega (arith, c.loop-test.true, v.0) in
    let places : a.at.months ≤ long so_far = omega (arith, (run_fits r cs a.i c.requires.workable).months, v.4.0) in
    record { stands = v.2; months_in_bounds = (omega (arith, due, places), v.3 l.s.months (omega arith) due) }

pub loop-preserved : goal.loop-preserved
loop-preserved c =
    let a = c.args in
    let r = run_of a.at a.constants.now in
    let cs = book a.x1.now a.x2.now a.x3.now a.index.now a.mark.now a.records.now a.v.now in
    let l = c.loop in
    let v = l.invariant in
    let q = run_of l.s a.constants.now in
    let so_far = book l.x1 l.x2 l.x3 l.index l.mark l.records l.v in
    let due : l.s.months < a.at.months = omega (arith, c.loop-test.true, v.0) in
    let places : a.at.months ≤ long so_far = omega (arith, (run_fits r cs a.i c.requires.workable).months, v.4.0) in
    let s = c.add_again-t in
    let m = added_of s.result a.constants.now in
    let then = book s.new.x1 s.new.x2 s.new.x3 s.new.index s.new.mark s.new.records s.new.v in
    let again_is : result_of m then ≡ again q (record_at l.records l.s.months) so_far = s.ensures in
    let e : s.result.progress.months ≡ suc l.s.months = months-next a.at.months q so_far v.2 due places v.3 m then again_is in
    let k = s.auto in
    let begun = book a.x1.now a.x2.now a.x3.now c.reopen-opens.new.index c.reopen-opens.new.mark c.renew.new.records a.v.now in (
      omega (arith, v.0, e),
      reworks-next a.at.months q so_far v.2 due places v.3 m then again_is v.1,
      stands-next a.at.months q so_far v.2 due places v.3 m then again_is,
      recorded-next a.at.months q so_far v.2 due places v.3 m then again_is,
      lengths-then then so_far begun (k.x1, k.x2, k.x3, k.index, k.mark, k.records, k.v) v.4,
    )

-- ---- after the last month
pub returns : goal.returns
unfolding reworked_from
returns c =
    let a = c.args in
    let r = run_of a.at a.constants.now in
    let cs = book a.x1.now a.x2.now a.x3.now a.index.now a.mark.now a.records.now a.v.now in
    let w = c.requires.workable in
    let q = c.requires.p_le_most_reading in
    let o = c.reopen-opens.new in
    let l = c.loop in
    let e = c.run_before-s.ensures a.index.now a.mark.now a.constants.now (c.reopen-opens.ensures.value a.records.now) in
    let g = begins r cs a.i w a.p a.pe a.kind q o.index o.mark c.renew.new.records (c.reopen-opens.ensures.v_after a.records.now) c.renew.ensures in
    sym (ends a.at.months (run_of l.s a.constants.now) (book l.x1 l.x2 l.x3 l.index l.mark l.records l.v) (omega (arith, c.loop-test.false, l.invariant.0))) ∙ l.invariant.1 ∙ reworks-first a.at.months e g
