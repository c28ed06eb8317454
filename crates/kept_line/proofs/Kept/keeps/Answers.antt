-- `kept_line::Kept::keeps`: its tests are those of the definition. Assumes nothing.
use borrow.Author.Tests.{lt-ltb, le-ltb, eq-eqb, ne_eqb}
use native.Mathlib.Omega.{arith}
use Rattle.fields.specs.Columns.{last_column}
use Rattle.kept_line.specs.Kept.{is_kept}
use Rattle.kept_line.proofs.Kept.keeps.Goals as goal

pub returns-then-self-lt-LAST_COLUMN : goal.returns-then-self-lt-LAST_COLUMN
unfolding is_kept
returns-then-self-lt-LAST_COLUMN c = rw (lt-ltb _ _ c.if-self-lt-LAST_COLUMN.true)

pub returns-then-self-gt-LAST_COLUMN : goal.returns-then-self-gt-LAST_COLUMN
unfolding is_kept
returns-then-self-gt-LAST_COLUMN c =
    let k = c.args.self.now.count in
    rw (le-ltb k last_column c.if-self-lt-LAST_COLUMN.false, ne_eqb k last_column (λ e. omega (arith, c.if-self-gt-LAST_COLUMN.true)))

pub returns : goal.returns
unfolding is_kept
returns c =
    let k = c.args.self.now.count in
    rw (le-ltb k last_column c.if-self-lt-LAST_COLUMN.false, eq-eqb k last_column (omega (arith, c.if-self-lt-LAST_COLUMN.false, c.if-self-gt-LAST_COLUMN.false)))
