-- `sums::sums_of` meets its contract. The loop's invariant: the sums but PR's are those of the years passed; PR's is then what is left of the
-- capacities. Assumes nothing.
use borrow.Author.Rules.{rules}
use mathlib.Core.Path.{◌≡◌, refl, ◌∙◌}
use Prim.Native.Nat.{ℕ, ◌+◌, ◌-◌, ◌*◌, ◌<◌}
use native.Mathlib.Nat.{mul-le-mul}
use native.Mathlib.Omega.{arith}
use Rattle.given_rows.specs.Facts.{RowFits, Watered}
use Rattle.given_rows.specs.declared.WaterRow.{WaterRow}
use Rattle.sums.specs.Sums.{row_in, sums_of}
use Rattle.sums.specs.SumsFit.{without_pr, most_before}
use Rattle.sums.proofs.SumLaws.{zero-is, rows_fit, sums_none, sums-more, pr-rest, sums-fit, fit-within}
use Rattle.sums.proofs.sums_of.Goals as goal
use Rattle.sums.proofs.sums_of.Goals.{Start, After-loop-y}

-- the rows of the years, each of which fits
abbrev row : Start → ℕ → WaterRow
row c = row_in c.args.month.now.capacity c.args.month.now.records.now c.args.month.now.at

watered : (c : Start) → let m = c.args.month.now in Watered m.capacity m.records.now m.at m.years
watered c = search rules

fits : (c : Start) (y : ℕ) → y < c.args.month.now.years → RowFits (row c y)
fits c = rows_fit c.args.month.now.capacity c.args.month.now.records.now c.args.month.now.at c.args.month.now.years (watered c)

pub loop-y-init : goal.loop-y-init
loop-y-init c =
    zero-is c.default-s.result c.default-s.ensures ∙ sums_none (row (goal.at.loop-y-init c).Start)

pub row-w-requires : goal.row-w-requires
row-w-requires c = c.loop-y-test.true

pub plus-s-requires : goal.plus-s-requires
plus-s-requires c =
    let st = (goal.at.plus-s-requires c).Start in
    record {
      within = rw c.loop-y.invariant (fit-within (sums_of (row st) c.loop-y.y) c.loop-y.y most_before (omega (arith, (watered st).few)) (sums-fit (row st) c.loop-y.y (λ y b. fits st y (omega arith))));
      row_fits = rw c.row-w.ensures (fits st c.loop-y.y c.loop-y-test.true);
    }

pub loop-y-preserved : goal.loop-y-preserved
loop-y-preserved c =
    sums-more (row (goal.at.loop-y-preserved c).Start) c.loop-y.y c.loop-y.s c.plus-s.result c.loop-y.invariant (rw c.row-w.ensures at c.plus-s.ensures)

-- after the last year
done : (c : After-loop-y) → c.loop-y.s ≡ without_pr (sums_of (row_in c.args.month.now.capacity c.args.month.now.records.now c.args.month.now.at) c.args.month.now.years)
done c =
    let e : c.loop-y.y ≡ c.args.month.now.years = omega arith in
    rw e at c.loop-y.invariant

shared : (c : Start) → let t = sums_of (row c) c.args.month.now.years in t.pr + t.pro ≡ c.args.month.now.capacity * c.args.month.now.years
shared c = pr-rest (row c) c.args.month.now.capacity (λ y. refl) c.args.month.now.years (fits c)

pub overflow_mul-month : goal.overflow_mul-month
overflow_mul-month c =
    let p = (let w = watered (goal.at.overflow_mul-month c).Start in mul-le-mul w.most w.few) in
    omega arith

pub with_pr-requires : goal.with_pr-requires
with_pr-requires c =
    let at = goal.at.with_pr-requires c in
    rw (done at.After-loop-y) (omega (arith, shared at.Start))

pub returns : goal.returns
returns c =
    let at = goal.at.returns c in
    let t = sums_of (row at.Start) c.args.month.now.years in
    let e : c.args.month.now.capacity * c.args.month.now.years - t.pro ≡ t.pr = omega (arith, shared at.Start) in
    (rw (done at.After-loop-y) at c.with_pr.ensures) ∙ rw e refl
