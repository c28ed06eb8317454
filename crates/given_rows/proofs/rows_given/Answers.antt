-- `given_rows::rows_given` meets its contract. The loop's invariant: each row passed is given. Assumes nothing.
use mathlib.Core.Path.{◌≡◌, sym, ◌∙◌}
use mathlib.Core.Bool.{Bool}
use Prim.Native.Nat.{ℕ}
use native.Mathlib.Omega.{arith}
use Rattle.outline.proofs.Every.{all_none, all_more, all-spoilt}
use Rattle.records.specs.Record.{record_at}
use Rattle.given_rows.specs.GivenRows.{row_given}
use Rattle.given_rows.proofs.rows_given.Goals as goal
use Rattle.given_rows.proofs.rows_given.Goals.{Start, After-row_given}

abbrev test : Start → ℕ → Bool
test s = let a = s.args in λ i. row_given a.capacity (record_at a.records.now i)

row_is : (c : After-row_given) → c.row_given.result ≡ test c.before.before.before c.loop-row.row
row_is c = c.row_given.ensures

pub loop-row-init : goal.loop-row-init
loop-row-init c = all_none (test c)

pub row_given-requires : goal.row_given-requires
row_given-requires c = (c.requires.0, c.requires.1, omega arith)

pub returns-then-not-row_given : goal.returns-then-not-row_given
returns-then-not-row_given c =
    sym (all-spoilt (test c.before.before.before.before) c.args.months c.loop-row.row (omega arith) (sym (row_is c.before) ∙ c.if-not-row_given.true))

pub loop-row-preserved : goal.loop-row-preserved
loop-row-preserved c =
    all_more (test c.before.before.before.before) c.loop-row.row c.loop-row.invariant (sym (row_is c.before) ∙ c.if-not-row_given.false)

pub returns : goal.returns
returns c =
    let e : c.loop-row.row ≡ c.args.months = omega arith in
    sym (rw e at c.loop-row.invariant)
