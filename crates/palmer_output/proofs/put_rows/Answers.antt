-- `palmer_output::put_rows`: the rows put so far are those of the first months, laid where the lent list begins. A row has at most 72 bytes, and
-- there is room for 2,400. Assumes nothing.
use mathlib.Core.List.{List}
use Prim.Native.Nat.{ℕ, ◌+◌}
use native.Mathlib.Numerals.{add-one}
use native.Mathlib.Omega.{arith}
use Rattle.rows.specs.Text.{row_text}
use Rattle.rows.proofs.Laid.{Put, put_then, put-none}
use Rattle.refusals.specs.Book.{Book}
use Rattle.refusals.specs.Lists.{read}
use Rattle.runs.specs.declared.Run.{Run}
use Rattle.palmer_output.specs.Printed.{row_at, rows_text}
use Rattle.palmer_output.proofs.put_rows.Goals as goal

-- the row of one month more
one_more : (run : Run) (i : ℕ) (cs : Book) (ps o : List ℕ) (e r : ℕ) (p q : List ℕ) → Put (rows_text run i cs ps) 0 o e p → Put (row_text (row_at run i cs ps)) e p r q → Put (rows_text run (i + 1) cs ps) 0 o r q
unfolding rows_text
one_more run i cs ps o e r p q f g = rw (add-one i) (put_then (rows_text run i cs ps) (row_text (row_at run i cs ps)) 0 o (omega arith) e r p q f g)

pub loop-i-init : goal.loop-i-init
unfolding rows_text
loop-i-init c = (omega arith, put-none _ _)

pub loop-i-preserved : goal.loop-i-preserved
loop-i-preserved c =
    let v = c.loop-i.invariant in
    let a = c.args in
    let e = c.put_row-at.ensures in
    (omega (arith, e.upper_bound, v.0), one_more a.run.now c.loop-i.i (read a.rows.now) a.percent.now a.out.now c.loop-i.at c.put_row-at.result c.loop-i.out c.put_row-at.new.out v.1 (e.value, e.out_after))
