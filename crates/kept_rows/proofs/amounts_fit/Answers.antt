-- `kept_rows::amounts_fit` meets its contract: none of the first eight is beyond its range where each is in it, then the storages at the end, and
-- what a layer holds fits an `i32`. Assumes nothing.
use mathlib.Core.Path.{◌≡◌, refl, sym, ap, ◌∙◌}
use mathlib.Core.Bool.{Bool, true, false, not, ◌&&◌, ◌||◌, not-not}
use Prim.Native.Nat.{ℕ, ◌≤◌}
use native.Mathlib.Omega.{arith}
use lib.IntN.{ℤ, pos}
use lib.Signed.{le_z}
use mir.Syntax.{w32}
use mir.Val.{SFits, to_z, of_z}
use mir.Facts.{to_z-of_z}
use borrow.Author.Rules.{rules}
use borrow.Author.Tests.{not-true, not-false}
use Rattle.door.specs.Readings.{most_reading}
use Rattle.water.specs.Layers.{most_capacity, surface_holds, underlying_holds}
use Rattle.water.proofs.LayerLaws.{layers-sum}
use Rattle.records.specs.declared.Record.{Record}
use Rattle.kept_rows.specs.KeptRows.{amount_fits, water_fits, storages_fit}
use Rattle.kept_rows.proofs.Ranges.{none-of-eight}
use Rattle.kept_rows.proofs.amounts_fit.Goals as goal

-- what a layer holds
surface-low : (capacity : ℕ) → capacity ≤ most_capacity → surface_holds capacity ≤ most_capacity
surface-low capacity h = omega (arith, layers-sum capacity)

underlying-low : (capacity : ℕ) → capacity ≤ most_capacity → underlying_holds capacity ≤ most_capacity
underlying-low capacity h = omega (arith, layers-sum capacity)

fits : (n : ℕ) → n ≤ most_capacity → SFits w32 (pos n)
fits n h = omega arith

-- the two definitions, in the order of the tests
module _ (capacity : ℕ) (m : Record) where
  abbrev past-8 : Bool
  past-8 = water_fits m && amount_fits (surface_holds capacity) m.ss && amount_fits (underlying_holds capacity) m.su

  abbrev past-9 : Bool
  past-9 = past-8 && amount_fits (surface_holds capacity) m.surface

  in_order : (water_fits m && storages_fit capacity m) ≡ (past-9 && amount_fits (underlying_holds capacity) m.underlying)
  unfolding storages_fit
  in_order = regroup (water_fits m) (amount_fits (surface_holds capacity) m.ss) (amount_fits (underlying_holds capacity) m.su) (amount_fits (surface_holds capacity) m.surface) (amount_fits (underlying_holds capacity) m.underlying)
    where
      regroup : (w a b c d : Bool) → (w && (a && b && c && d)) ≡ (w && a && b && c && d)
      regroup true a b c d = refl
      regroup false a b c d = refl

-- what a test of a number answers with: the machine's number is the number
told : {b : Bool} (most : ℕ) (x : ℤ) → SFits w32 x → b ≡ not (le_z (pos 0) (to_z w32 (of_z w32 x)) && le_z (to_z w32 (of_z w32 x)) (pos most)) → b ≡ not (amount_fits most x)
unfolding amount_fits
told most x f e = rw (to_z-of_z f) at e

-- .. where its most is what a layer holds
told-layer : {b : Bool} (holds : ℕ) (limit x : ℤ) → limit ≡ pos holds → holds ≤ most_capacity → SFits w32 x
    → b ≡ not (le_z (pos 0) (to_z w32 (of_z w32 x)) && le_z (to_z w32 (of_z w32 x)) (to_z w32 (of_z w32 limit))) → b ≡ not (amount_fits holds x)
told-layer holds limit x l h f e = let g = fits holds h in told holds x f (rw (to_z-of_z g) at (rw l at e))

-- some of the first eight is beyond its range, or none is
bad-is : (k : ℕ) (m : Record) {a b c d e f g h : Bool} → a ≡ not (amount_fits most_reading m.p) → b ≡ not (amount_fits most_reading m.pe)
    → c ≡ not (amount_fits most_reading m.et) → d ≡ not (amount_fits most_reading m.r) → e ≡ not (amount_fits most_reading m.l)
    → f ≡ not (amount_fits most_reading m.ro) → g ≡ not (amount_fits (surface_holds k) m.ss) → h ≡ not (amount_fits (underlying_holds k) m.su)
    → not (a || b || c || d || e || f || g || h) ≡ past-8 k m
unfolding water_fits
bad-is k m a b c d e f g h =
    let fit = amount_fits most_reading in
    rw (a, b, c, d, e, f, g, h)
    (none-of-eight (fit m.p) (fit m.pe) (fit m.et) (fit m.r) (fit m.l) (fit m.ro) (amount_fits (surface_holds k) m.ss) (amount_fits (underlying_holds k) m.su))

pub limit-surface-requires : goal.limit-surface-requires
limit-surface-requires c = rw c.surface_holds.ensures (surface-low c.args.capacity c.requires)

pub limit-underlying-requires : goal.limit-underlying-requires
limit-underlying-requires c = rw c.underlying_holds.ensures (underlying-low c.args.capacity c.requires)

pub returns-then-bad : goal.returns-then-bad
returns-then-bad c =
    let m = c.args.m in
    let k = c.args.capacity in
    let upper = rw c.surface_holds.ensures at c.limit-surface.ensures in
    let lower = rw c.underlying_holds.ensures at c.limit-underlying.ensures in
    let bad =
    bad-is k m
    (told most_reading m.p (search rules) c.beyond.ensures)
    (told most_reading m.pe (search rules) c.beyond-2.ensures)
    (told most_reading m.et (search rules) c.beyond-3.ensures)
    (told most_reading m.r (search rules) c.beyond-4.ensures)
    (told most_reading m.l (search rules) c.beyond-5.ensures)
    (told most_reading m.ro (search rules) c.beyond-6.ensures)
    (told-layer (surface_holds k) c.limit-surface.result m.ss upper (surface-low k c.requires) (search rules) c.beyond-7.ensures)
    (told-layer (underlying_holds k) c.limit-underlying.result m.su lower (underlying-low k c.requires) (search rules) c.beyond-8.ensures) in
    rw (in_order k m, sym bad ∙ ap not c.if-bad.true)

pub returns-then-beyond : goal.returns-then-beyond
returns-then-beyond c =
    let m = c.args.m in
    let k = c.args.capacity in
    let upper = rw c.surface_holds.ensures at c.limit-surface.ensures in
    let lower = rw c.underlying_holds.ensures at c.limit-underlying.ensures in
    let bad =
    bad-is k m
    (told most_reading m.p (search rules) c.beyond.ensures)
    (told most_reading m.pe (search rules) c.beyond-2.ensures)
    (told most_reading m.et (search rules) c.beyond-3.ensures)
    (told most_reading m.r (search rules) c.beyond-4.ensures)
    (told most_reading m.l (search rules) c.beyond-5.ensures)
    (told most_reading m.ro (search rules) c.beyond-6.ensures)
    (told-layer (surface_holds k) c.limit-surface.result m.ss upper (surface-low k c.requires) (search rules) c.beyond-7.ensures)
    (told-layer (underlying_holds k) c.limit-underlying.result m.su lower (underlying-low k c.requires) (search rules) c.beyond-8.ensures) in
    let nine = told-layer (surface_holds k) c.limit-surface.result m.surface upper (surface-low k c.requires) (search rules) c.beyond-9.ensures in
    rw (in_order k m, sym bad ∙ ap not c.if-bad.false, not-true (amount_fits (surface_holds k) m.surface) (sym nine ∙ c.if-beyond.true))

pub returns : goal.returns
returns c =
    let m = c.args.m in
    let k = c.args.capacity in
    let upper = rw c.surface_holds.ensures at c.limit-surface.ensures in
    let lower = rw c.underlying_holds.ensures at c.limit-underlying.ensures in
    let bad =
    bad-is k m
    (told most_reading m.p (search rules) c.beyond.ensures)
    (told most_reading m.pe (search rules) c.beyond-2.ensures)
    (told most_reading m.et (search rules) c.beyond-3.ensures)
    (told most_reading m.r (search rules) c.beyond-4.ensures)
    (told most_reading m.l (search rules) c.beyond-5.ensures)
    (told most_reading m.ro (search rules) c.beyond-6.ensures)
    (told-layer (surface_holds k) c.limit-surface.result m.ss upper (surface-low k c.requires) (search rules) c.beyond-7.ensures)
    (told-layer (underlying_holds k) c.limit-underlying.result m.su lower (underlying-low k c.requires) (search rules) c.beyond-8.ensures) in
    let nine = told-layer (surface_holds k) c.limit-surface.result m.surface upper (surface-low k c.requires) (search rules) c.beyond-9.ensures in
    let ten = told-layer (underlying_holds k) c.limit-underlying.result m.underlying lower (underlying-low k c.requires) (search rules) c.beyond-10.ensures in
    rw (in_order k m, sym bad ∙ ap not c.if-bad.false, not-false (amount_fits (surface_holds k) m.surface) (sym nine ∙ c.if-beyond.false), ten)
    (not-not (amount_fits (underlying_holds k) m.underlying))
