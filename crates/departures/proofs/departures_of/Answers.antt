-- `departures::departures_of` meets its contract. The loop's invariant: the sum is that of the years passed, and so at most 350,000 for each.
-- Assumes nothing.
use borrow.Author.Rules.{rules}
use mathlib.Core.Path.{◌≡◌, sym, ap, ap₂, ◌∙◌}
use Prim.Native.Nat.{ℕ, ◌+◌, ◌<◌}
use native.Mathlib.Omega.{arith}
use Rattle.given_rows.specs.Facts.{RowFits, Watered}
use Rattle.given_rows.specs.declared.WaterRow.{WaterRow}
use Rattle.sums.specs.Sums.{row_in}
use Rattle.departures.specs.Departures.{departure_of, departures_of}
use Rattle.sums.proofs.SumLaws.{rows_fit}
use Rattle.departures.proofs.DepartureLaws.{departures-none, departures-more, departures-most}
use Rattle.departures.proofs.departures_of.Goals as goal
use Rattle.departures.proofs.departures_of.Goals.{Start, After-departure_of-sum}

-- the rows of the calendar month, each of which fits
abbrev row : Start → ℕ → WaterRow
row s = let m = s.args.month.now in row_in m.capacity m.records.now m.at

watered : (s : Start) → let m = s.args.month.now in Watered m.capacity m.records.now m.at m.years
watered s = search rules

fit : (s : Start) (y : ℕ) → y < s.args.month.now.years → RowFits (row s y)
fit s = let m = s.args.month.now in rows_fit m.capacity m.records.now m.at m.years (watered s)

-- the sum with the next year's
next-is : (c : After-departure_of-sum) → let a = c.args in c.loop-y.sum + c.departure_of-sum.result ≡ departures_of a.k (row_in a.month.now.capacity a.month.now.records.now a.month.now.at) (c.loop-y.y + 1)
next-is c =
    let a = c.args in
    ap₂ ◌+◌ c.loop-y.invariant (c.departure_of-sum.ensures ∙ ap (departure_of c.args.k) c.row-w.ensures) ∙ sym (departures-more c.args.k (row_in a.month.now.capacity a.month.now.records.now a.month.now.at) c.loop-y.y)

pub loop-y-init : goal.loop-y-init
loop-y-init c = sym (departures-none c.args.k (row (goal.at.loop-y-init c).Start))

pub row-w-requires : goal.row-w-requires
row-w-requires c = c.loop-y-test.true

pub departure_of-sum-requires : goal.departure_of-sum-requires
departure_of-sum-requires c =
    record { constants_fit = c.requires; row_fits = rw c.row-w.ensures (fit (goal.at.departure_of-sum-requires c).Start c.loop-y.y c.loop-y-test.true) }

pub overflow_add-sum : goal.overflow_add-sum
overflow_add-sum c =
    let at = goal.at.overflow_add-sum c in
    let e = next-is at.After-departure_of-sum in
    let w = watered at.Start in
    let m = departures-most c.args.k (row at.Start) (c.loop-y.y + 1) c.requires (λ i b. fit at.Start i (omega arith)) in
    omega arith

pub loop-y-preserved : goal.loop-y-preserved
loop-y-preserved c = next-is (goal.at.loop-y-preserved c).After-departure_of-sum

pub returns : goal.returns
returns c =
    let e : c.loop-y.y ≡ c.args.month.now.years = omega arith in
    rw e at c.loop-y.invariant
