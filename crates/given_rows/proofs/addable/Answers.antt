-- `given_rows::addable` meets its contract: each of the four against its range; what a layer holds fits an `i32`. Assumes nothing.
use borrow.Author.Rules.{rules}
use borrow.Author.Tests.{not-true, not-false}
use mathlib.Core.Path.{◌≡◌, sym, ◌∙◌}
use mathlib.Core.Bool.{Bool, true, false, not, not-not, ◌&&◌}
use Prim.Native.Nat.{ℕ, ◌≤◌}
use native.Mathlib.Omega.{arith}
use lib.IntN.{ℤ, pos}
use lib.Signed.{le_z}
use mir.Syntax.{w32}
use mir.Val.{SFits, to_z, of_z}
use mir.Facts.{to_z-of_z}
use Rattle.door.specs.Readings.{most_reading}
use Rattle.water.specs.Layers.{most_capacity, surface_holds, underlying_holds}
use Rattle.water.proofs.LayerLaws.{layers-sum}
use Rattle.kept_rows.specs.KeptRows.{amount_fits}
use Rattle.given_rows.specs.GivenRows.{addable}
use Rattle.given_rows.proofs.addable.Goals as goal

-- what a layer holds is low
fits : (n : ℕ) → n ≤ most_capacity → SFits w32 (pos n)
fits n h = omega arith

-- a test that says "beyond"
beyond-fails : {r t : Bool} → r ≡ not t → r ≡ true → t ≡ false
beyond-fails {r} {t} e h = not-true t (sym e ∙ h)

beyond-passes : {r t : Bool} → r ≡ not t → r ≡ false → t ≡ true
beyond-passes {r} {t} e h = not-false t (sym e ∙ h)

pub limit-requires : goal.limit-requires
limit-requires c =
    rw c.surface_holds.ensures (omega (arith, layers-sum c.args.capacity, c.requires))

pub limit-requires-2 : goal.limit-requires-2
limit-requires-2 c =
    rw c.underlying_holds.ensures (omega (arith, layers-sum c.args.capacity, c.requires))

-- a test of a number that is read back, against a layer's end that is read back
read-back : {n l : ℤ} {h : ℕ} {r : Bool} → SFits w32 n → l ≡ pos h → h ≤ most_capacity → r ≡ not (le_z (pos 0) (to_z w32 (of_z w32 n)) && le_z (to_z w32 (of_z w32 n)) (to_z w32 (of_z w32 l))) → r ≡ not (amount_fits h n)
unfolding amount_fits
read-back {n} {l} {h} f e k b =
    let g : SFits w32 (pos h) = fits h k in
    rw (to_z-of_z g) at (rw e at (rw (to_z-of_z f) at b))

-- the same against the most of a reading
amount-is : {n : ℤ} {r : Bool} → SFits w32 n → r ≡ not (le_z (pos 0) (to_z w32 (of_z w32 n)) && le_z (to_z w32 (of_z w32 n)) (pos most_reading)) → r ≡ not (amount_fits most_reading n)
unfolding amount_fits
amount-is f b = rw (to_z-of_z f) at b

pub returns-then-beyond : goal.returns-then-beyond
unfolding addable
returns-then-beyond c =
    let p : SFits w32 c.args.m.p = search rules in
    rw (beyond-fails (amount-is p c.beyond.ensures) c.if-beyond.true)

pub returns-then-beyond-2 : goal.returns-then-beyond-2
unfolding addable
returns-then-beyond-2 c =
    let p : SFits w32 c.args.m.p = search rules in
    let pe : SFits w32 c.args.m.pe = search rules in
    rw (beyond-passes (amount-is p c.beyond.ensures) c.if-beyond.false, beyond-fails (amount-is pe c.beyond-2.ensures) c.if-beyond-2.true)

pub returns-then-beyond-3 : goal.returns-then-beyond-3
unfolding addable
returns-then-beyond-3 c =
    let p : SFits w32 c.args.m.p = search rules in
    let pe : SFits w32 c.args.m.pe = search rules in
    let ss : SFits w32 c.args.m.ss = search rules in
    let t_p : c.beyond.result ≡ not (amount_fits most_reading c.args.m.p) = amount-is p c.beyond.ensures in
    let t_pe : c.beyond-2.result ≡ not (amount_fits most_reading c.args.m.pe) = amount-is pe c.beyond-2.ensures in
    let t_ss : c.beyond-3.result ≡ not (amount_fits (surface_holds c.args.capacity) c.args.m.ss) =
    read-back ss (rw c.surface_holds.ensures at c.limit.ensures) (omega (arith, layers-sum c.args.capacity, c.requires)) c.beyond-3.ensures in
    rw (beyond-passes t_p c.if-beyond.false, beyond-passes t_pe c.if-beyond-2.false, beyond-fails t_ss c.if-beyond-3.true)

pub returns : goal.returns
unfolding addable
returns c =
    let p : SFits w32 c.args.m.p = search rules in
    let pe : SFits w32 c.args.m.pe = search rules in
    let ss : SFits w32 c.args.m.ss = search rules in
    let su : SFits w32 c.args.m.su = search rules in
    let t_p : c.beyond.result ≡ not (amount_fits most_reading c.args.m.p) = amount-is p c.beyond.ensures in
    let t_pe : c.beyond-2.result ≡ not (amount_fits most_reading c.args.m.pe) = amount-is pe c.beyond-2.ensures in
    let t_ss : c.beyond-3.result ≡ not (amount_fits (surface_holds c.args.capacity) c.args.m.ss) =
    read-back ss (rw c.surface_holds.ensures at c.limit.ensures) (omega (arith, layers-sum c.args.capacity, c.requires)) c.beyond-3.ensures in
    let t_su : c.beyond-4.result ≡ not (amount_fits (underlying_holds c.args.capacity) c.args.m.su) =
    read-back su (rw c.underlying_holds.ensures at c.limit-2.ensures) (omega (arith, layers-sum c.args.capacity, c.requires)) c.beyond-4.ensures in
    rw (beyond-passes t_p c.if-beyond.false, beyond-passes t_pe c.if-beyond-2.false, beyond-passes t_ss c.if-beyond-3.false, t_su) (not-not _)
