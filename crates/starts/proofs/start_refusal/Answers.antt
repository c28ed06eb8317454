-- `starts::start_refusal` meets its contract: each way out is one refusal of StartLaws. Assumes nothing.
use mathlib.Core.Path.{◌≡◌, sym, ◌∙◌}
use mathlib.Core.Bool.{true, not, ◌&&◌}
use mathlib.Core.List.{List}
use lib.IntN.{ℤ}
use lib.ListN.{length}
use mir.Facts.{to_z-of_z}
use borrow.Author.Tests.{not-true}
use Rattle.outline.specs.Numbers.{many_constants}
use Rattle.ranges.specs.Ranges.{constants_fit}
use Rattle.calendar.specs.Calendar.{some_zero_k}
use Rattle.starts.specs.Given.{ConstantsTaken}
use Rattle.outline.proofs.Tests.{each}
use Rattle.starts.proofs.StartLaws.{refused-constants, refused-4, refused-5, refused-6, not-refused, constants-taken}
use Rattle.starts.proofs.start_refusal.Goals as goal

-- the tests of the constants, where they are passed
taken : (l k : List ℤ) (c ss su m : ℤ) → length l ≡ many_constants → k ≡ l → (constants_fit k && not (some_zero_k k)) ≡ true → ConstantsTaken l
taken l k c ss su m n e h =
    let p = each (constants_fit l) (not (some_zero_k l)) (rw e at h) in
    constants-taken l c ss su m n p.0 (not-true (some_zero_k l) p.1)

pub returns-then-not-constants_serve : goal.returns-then-not-constants_serve
returns-then-not-constants_serve c =
    let a = c.args in
    rw c.constants_refusal.ensures (sym (refused-constants a.given.now a.c a.ss a.su a.m c.requires.0 (rw c.requires.1 at (sym c.constants_serve.ensures ∙ c.if-not-constants_serve.true))))

pub returns-then-not-capacity_fits : goal.returns-then-not-capacity_fits
returns-then-not-capacity_fits c =
    let a = c.args in
    let f = c.ranges.c in
    let so-far = taken a.given.now a.kept.now a.c a.ss a.su a.m c.requires.0 c.requires.1 (sym c.constants_serve.ensures ∙ c.if-not-constants_serve.false) in
    sym (refused-4 a.given.now a.c a.ss a.su a.m so-far (sym (simp to_z-of_z at c.capacity_fits.ensures) ∙ c.if-not-capacity_fits.true))

pub storages_fit-requires : goal.storages_fit-requires
storages_fit-requires c = sym c.capacity_fits.ensures ∙ c.if-not-capacity_fits.false

pub returns-then-not-storages_fit : goal.returns-then-not-storages_fit
returns-then-not-storages_fit c =
    let a = c.args in
    let f = c.ranges.c in
    let g = c.ranges.ss in
    let h = c.ranges.su in
    let t = taken a.given.now a.kept.now a.c a.ss a.su a.m c.requires.0 c.requires.1 (sym c.constants_serve.ensures ∙ c.if-not-constants_serve.false) in
    sym (refused-5 a.given.now a.c a.ss a.su a.m t (sym (simp to_z-of_z at c.capacity_fits.ensures) ∙ c.if-not-capacity_fits.false)
    (sym (simp to_z-of_z at c.storages_fit.ensures) ∙ c.if-not-storages_fit.true))

pub returns-then-not-month_fits : goal.returns-then-not-month_fits
returns-then-not-month_fits c =
    let a = c.args in
    let f = c.ranges.c in
    let g = c.ranges.ss in
    let h = c.ranges.su in
    let k = c.ranges.m in
    let t = taken a.given.now a.kept.now a.c a.ss a.su a.m c.requires.0 c.requires.1 (sym c.constants_serve.ensures ∙ c.if-not-constants_serve.false) in
    sym (refused-6 a.given.now a.c a.ss a.su a.m t (sym (simp to_z-of_z at c.capacity_fits.ensures) ∙ c.if-not-capacity_fits.false)
    (sym (simp to_z-of_z at c.storages_fit.ensures) ∙ c.if-not-storages_fit.false)
    (sym (simp to_z-of_z at c.month_fits.ensures) ∙ c.if-not-month_fits.true))

pub returns : goal.returns
returns c =
    let a = c.args in
    let f = c.ranges.c in
    let g = c.ranges.ss in
    let h = c.ranges.su in
    let k = c.ranges.m in
    sym (not-refused a.given.now a.c a.ss a.su a.m (record {
      constants = taken a.given.now a.kept.now a.c a.ss a.su a.m c.requires.0 c.requires.1 (sym c.constants_serve.ensures ∙ c.if-not-constants_serve.false);
      capacity = sym (simp to_z-of_z at c.capacity_fits.ensures) ∙ c.if-not-capacity_fits.false;
      storages = sym (simp to_z-of_z at c.storages_fit.ensures) ∙ c.if-not-storages_fit.false;
      month = sym (simp to_z-of_z at c.month_fits.ensures) ∙ c.if-not-month_fits.false;
    }))
