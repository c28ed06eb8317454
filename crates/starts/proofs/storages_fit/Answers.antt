-- `starts::storages_fit` meets its contract: each storage against its own layer. Assumes nothing.
use mathlib.Core.Path.{sym, ◌∙◌}
use mir.Facts.{to_z-of_z}
use Rattle.starts.specs.Start.{storages_fit}
use Rattle.ranges.proofs.RangeLaws.{countable}
use Rattle.starts.proofs.StartLaws.{capacity-is}
use Rattle.starts.proofs.storages_fit.Goals as goal

pub overflow_cast-capacity : goal.overflow_cast-capacity
overflow_cast-capacity c = let f = c.ranges.c in simp to_z-of_z (countable c.args.c (capacity-is c.args.c c.requires).0 f)

pub returns-then-signed_between : goal.returns-then-signed_between
unfolding storages_fit
returns-then-signed_between c =
    let f = c.ranges.c in
    let g = c.ranges.ss in
    let h = c.ranges.su in
    rw (sym (simp (c.surface_holds.ensures, to_z-of_z) at c.signed_between.ensures) ∙ c.if-signed_between.true)
    (simp (c.underlying_holds.ensures, to_z-of_z) at c.signed_between-then-signed_between.ensures)

pub returns-else-signed_between : goal.returns-else-signed_between
unfolding storages_fit
returns-else-signed_between c =
    let f = c.ranges.c in
    let g = c.ranges.ss in
    rw (sym (simp (c.surface_holds.ensures, to_z-of_z) at c.signed_between.ensures) ∙ c.if-signed_between.false) c.if-signed_between.false
