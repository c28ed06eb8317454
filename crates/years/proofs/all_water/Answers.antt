-- `years::all_water` meets its contract. The loop's invariant: whether each month passed had water is known. Assumes nothing.
use mathlib.Core.Path.{◌≡◌, refl, ap, ◌∙◌}
use mathlib.Core.Bool.{Bool, not, not-not}
use Prim.Native.Nat.{ℕ, ◌+◌}
use native.Mathlib.Omega.{arith}
use lib.Dec.{eqb}
use mir.Syntax.{w32}
use mir.Val.{SFits, of_z}
use borrow.Author.Rules.{rules}
use Rattle.outline.proofs.Every.{all_none, bad-on}
use Rattle.records.specs.Record.{record_at}
use Rattle.records.specs.Water.{had_water}
use Rattle.records.proofs.Fitting.{water-is}
use Rattle.years.specs.Years.{all_water}
use Rattle.years.proofs.all_water.Goals as goal

abbrev had : goal.Start → ℕ → Bool
had s = let a = s.args in λ k. had_water (record_at a.records.now (a.first + k))

-- the test of its mark
test-is : (t : goal.After-struct_told-1) → eqb (of_z w32 t.record_at-m.result.water) 1 ≡ had t.before.before.before.before.before t.loop-k.k
test-is t =
    let r = t.record_at-m in
    let f : SFits w32 r.result.water = record { sfits = t.struct_told-1.given.1.1.1.1.1.1.1.1.1.1.1.0.1 } in
    water-is r.result f ∙ ap had_water r.ensures

pub loop-k-init : goal.loop-k-init
loop-k-init c = rw (all_none (had c)) refl

pub overflow_add-first : goal.overflow_add-first
overflow_add-first c = omega arith

pub overflow_cast-first : goal.overflow_cast-first
overflow_cast-first c = search rules

pub record_at-m-requires : goal.record_at-m-requires
record_at-m-requires c = omega arith

pub loop-k-preserved : goal.loop-k-preserved
loop-k-preserved c =
    bad-on (had c.before.before.before.before.before) c.loop-k.k c.loop-k.bad _ c.loop-k.invariant (ap not (test-is c))

pub returns : goal.returns
returns c =
    let e : c.loop-k.k ≡ c.args.many = omega arith in
    let b : c.loop-k.bad ≡ not (all_water c.args.records.now c.args.first c.args.many) = rw e at c.loop-k.invariant in
    rw b (not-not _)
