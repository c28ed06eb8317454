-- `starts::copied` meets its contract. Assumes nothing.
use mathlib.Core.Path.{◌≡◌, ◌∙◌}
use mathlib.Core.List.{List}
use Prim.Native.Nat.{ℕ, ◌+◌, ◌<◌}
use native.Mathlib.Omega.{arith}
use borrow.Author.Count.{below_more}
use lib.IntN.{ℤ, pos}
use lib.ListN.{length, get_or, set, length-set}
use lib.Seq.{get_or-set_same, get_or-set_other, ext_get_or}
use mir.Syntax.{w32}
use mir.Val.{SFits}
use mir.Facts.{to_z-of_z}
use Rattle.exact.proofs.Held.{held}
use Rattle.outline.specs.Numbers.{many_constants}
use Rattle.starts.proofs.copied.Goals as goal

-- one more place
stored : (l m : List ℤ) (i : ℕ) → i < length m → ((k : ℕ) → k < i → get_or m k (pos 0) ≡ get_or l k (pos 0))
    → (k : ℕ) → k < i + 1 → get_or (set m i (get_or l i (pos 0))) k (pos 0) ≡ get_or l k (pos 0)
stored l m i h old = below_more _ _ (λ k g. get_or-set_other m i k (get_or l i (pos 0)) (pos 0) (omega arith) ∙ old k g) (get_or-set_same m i (get_or l i (pos 0)) (pos 0) h)

pub loop-i-preserved : goal.loop-i-preserved
loop-i-preserved c =
    let l = c.args.constants.now in
    let f : SFits w32 (get_or l c.loop-i.i (pos 0)) = search held in
    (simp length-set c.loop-i.invariant.0, simp to_z-of_z (stored l c.loop-i.kept c.loop-i.i (omega arith) c.loop-i.invariant.1))

pub returns : goal.returns
returns c =
    let e : c.loop-i.i ≡ many_constants = omega arith in
    ext_get_or (pos 0) c.loop-i.kept c.args.constants.now (omega arith) (λ k h. c.loop-i.invariant.1 k (omega arith))
