-- `starts::start` meets its contract: a refusal with a run of all zeros, or the fresh run of what is in range. Assumes nothing.
use mathlib.Core.Path.{◌≡◌, sym, ◌∙◌}
use native.Mathlib.Omega.{arith}
use mir.Facts.{to_z-of_z}
use Rattle.outline.specs.Refusals.{not_sixty}
use Rattle.outline.specs.Refused.{refusal_number}
use Rattle.outline.proofs.Refused.{number-ne-zero}
use Rattle.starts.specs.Start.{start_refusal}
use Rattle.starts.specs.Given.{StartFits}
use Rattle.ranges.proofs.RangeLaws.{countable}
use Rattle.starts.proofs.StartLaws.{capacity-is, surface-is, underlying-is, month-is, start_fits, refused-2, refused-start, begun}
use Rattle.starts.proofs.start.Goals as goal

pub returns-then-constants-ne-MANY_CONSTANTS : goal.returns-then-constants-ne-MANY_CONSTANTS
returns-then-constants-ne-MANY_CONSTANTS c =
    let a = c.args in
    c.refused.ensures ∙ sym (refused-start a.constants.now a.capacity a.surface a.underlying a.month not_sixty (sym (refused-2 a.constants.now a.capacity a.surface a.underlying a.month c.if-constants-ne-MANY_CONSTANTS.true)) (λ h. omega arith))

pub returns-in-Err : goal.returns-in-Err
returns-in-Err c =
    let a = c.args in
    let f = c.ranges.capacity in
    let g = c.ranges.surface in
    let h = c.ranges.underlying in
    let k = c.ranges.month in
    let e : refusal_number c.in-Err.refusal ≡ start_refusal a.constants.now a.capacity a.surface a.underlying a.month = simp to_z-of_z at c.in-Err.ensures in
    c.refused-in-Err.ensures ∙ sym (refused-start a.constants.now a.capacity a.surface a.underlying a.month _ e (number-ne-zero c.in-Err.refusal))

-- where it is not refused, the number is 0
none : (c : goal.In_default) → let a = c.args in start_refusal a.constants.now a.capacity a.surface a.underlying a.month ≡ 0
none c =
    let f = c.ranges.capacity in
    let g = c.ranges.surface in
    let h = c.ranges.underlying in
    let k = c.ranges.month in
    sym (simp to_z-of_z at c.in_default.ensures)

-- and everything is in range
fits : (c : goal.In_default) → let a = c.args in StartFits a.constants.now a.capacity a.surface a.underlying a.month
fits c = let a = c.args in start_fits a.constants.now a.capacity a.surface a.underlying a.month (none c)

pub overflow_cast-soil : goal.overflow_cast-soil
overflow_cast-soil c =
    let a = c.args in
    let f = c.ranges.capacity in
    simp to_z-of_z (countable a.capacity (capacity-is a.capacity (fits c).capacity).0 f)

pub overflow_cast-soil-2 : goal.overflow_cast-soil-2
overflow_cast-soil-2 c =
    let a = c.args in
    let f = c.ranges.surface in
    simp to_z-of_z (countable a.surface (surface-is a.capacity a.surface a.underlying (fits c).storages).0 f)

pub overflow_cast-soil-3 : goal.overflow_cast-soil-3
overflow_cast-soil-3 c =
    let a = c.args in
    let f = c.ranges.underlying in
    simp to_z-of_z (countable a.underlying (underlying-is a.capacity a.surface a.underlying (fits c).storages).0 f)

pub overflow_cast-month : goal.overflow_cast-month
overflow_cast-month c =
    let a = c.args in
    let f = c.ranges.month in
    simp to_z-of_z (countable a.month (month-is a.month (fits c).month).0 f)

pub returns : goal.returns
returns c =
    let a = c.args in
    let f = c.ranges.capacity in
    let g = c.ranges.surface in
    let h = c.ranges.underlying in
    let k = c.ranges.month in
    rw c.no_months.ensures (simp (to_z-of_z, c.copied-kept.ensures) (sym (begun a.constants.now a.capacity a.surface a.underlying a.month (none c.before))))
