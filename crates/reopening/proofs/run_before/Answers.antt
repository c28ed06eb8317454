-- `reopening::run_before` meets its contract: the month's record has the storages at its start, and the row before has the values. Assumes nothing.
use mathlib.Core.Path.{◌≡◌}
use mathlib.Core.List.{List}
use Prim.Native.Nat.{ℕ, ◌-◌}
use lib.IntN.{ℤ}
use borrow.Author.Rules.{rules}
use mir.Syntax.{w32}
use mir.Val.{SFits}
use mir.Facts.{to_z-of_z}
use Rattle.spells.specs.declared.Running.{Running}
use Rattle.runs.specs.declared.Progress.{Progress}
use Rattle.runs.specs.Progress.{run_of}
use Rattle.records.specs.declared.Record.{Record}
use Rattle.records.specs.Record.{record_at}
use Rattle.refusals.specs.Book.{Book, book}
use Rattle.ranges.proofs.RangeLaws.{countable}
use Rattle.reopening.specs.Before.{opens_before, values_before, soil_of, calendar_back, run_before}
use Rattle.reopening.proofs.run_before.Goals as goal

pub overflow_cast-start : goal.overflow_cast-start
overflow_cast-start c =
    let f : SFits w32 c.record_at-kept.result.ss = search rules in
    rw (to_z-of_z f) (countable c.record_at-kept.result.ss (rw c.record_at-kept.ensures c.requires.calendar_value.1) f)

pub overflow_cast-start-2 : goal.overflow_cast-start-2
overflow_cast-start-2 c =
    let f : SFits w32 c.record_at-kept.result.su = search rules in
    rw (to_z-of_z f) (countable c.record_at-kept.result.su (rw c.record_at-kept.ensures c.requires.calendar_value.2) f)

-- the run part by part
parts :
    (at : Progress) (k : List ℤ) (cs : Book) (m opens calendar : ℕ) (month : Record) (values : Running) →
    opens ≡ opens_before cs m →
    calendar ≡ calendar_back at.calendar (at.months - m) →
    month ≡ record_at cs.records m →
    values ≡ values_before cs m →
    run_of (record { months = m; opens = opens; calendar = calendar; soil = soil_of at.soil.capacity month; values = values }) k ≡ run_before (run_of at k) cs m
parts at k cs m opens calendar month values p q r t = rw (p, q, r, t)

pub returns : goal.returns
returns c index mark k e =
    let a = c.args in
    let f : SFits w32 c.record_at-kept.result.ss = search rules in
    let g : SFits w32 c.record_at-kept.result.su = search rules in
    rw (to_z-of_z f, to_z-of_z g)
    (parts a.at k (book a.x1.now a.x2.now a.x3.now index mark a.records.now a.v.now)
    a.m a.opens c.calendar_back-calendar.result c.record_at-kept.result c.values_before-values.result
    e c.calendar_back-calendar.ensures c.record_at-kept.ensures (c.values_before-values.ensures index mark a.records.now))
