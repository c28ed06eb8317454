-- `palmer_output::put_output`: the rows where the number is 0, and otherwise the line that was refused. Assumes nothing.
use mathlib.Core.Path.{◌≡◌, refl}
use mathlib.Core.List.{List}
use Prim.Native.Nat.{ℕ, zero, suc}
use native.Mathlib.Omega.{arith}
use lib.ListN.{length}
use Rattle.rows.specs.Text.{refused_text}
use Rattle.rows.specs.Room.{laid}
use Rattle.rows.proofs.Laid.{Put}
use Rattle.refusals.specs.Book.{Book, book}
use Rattle.runs.specs.declared.Run.{Run}
use Rattle.palmer_output.specs.Output.{all_rows, line_after, output_of}
use Rattle.palmer_output.proofs.put_output.Goals as goal

-- a text is put where the list begins
abbrev Whole : List ℕ → List ℕ → ℕ → List ℕ → Type 0
Whole text o r q = (r ≡ length text) × (q ≡ laid text 0 o)

-- what is put is the output, where the number is 0 and where it is not
module _ (run : Run) (cs : Book) (ps o : List ℕ) (r : ℕ) (q : List ℕ) where
  rows-put : (k : ℕ) → k ≡ 0 → Whole (all_rows run cs ps) o r q → Whole (output_of k run cs ps) o r q
  unfolding output_of
  rows-put k e p = rw e p

  refusal-put : (k line : ℕ) → (k ≡ 0 → ⊥) → line ≡ line_after run.months → Put (refused_text line k) 0 o r q → Whole (output_of k run cs ps) o r q
  unfolding output_of
  refusal-put zero line h e p = absurd (h refl)
  refusal-put (suc k) line h e p = rw (← e) (omega (arith, p.0), p.1)

pub returns-then-number-eq0 : goal.returns-then-number-eq0
returns-then-number-eq0 c =
    let a = c.args in
    let e = c.put_rows.ensures in
    let p = rows-put a.run (book a.x1.now a.x2.now a.x3.now a.index.now a.mark.now a.records.now a.v.now) a.percent.now a.out.now _ _ a.number (omega arith) (e.value, e.out_after) in
    record { upper_bound = e.upper_bound; value = p.0; out_after = p.1 }

pub returns : goal.returns
returns c =
    let a = c.args in
    let e = c.lay_refusal.ensures in
    let p = refusal-put a.run (book a.x1.now a.x2.now a.x3.now a.index.now a.mark.now a.records.now a.v.now) a.percent.now a.out.now _ _ a.number _ c.if-number-eq0.false c.line_after.ensures (e.value, e.out_after) in
    record { upper_bound = omega (arith, e.upper_bound); value = p.0; out_after = p.1 }
