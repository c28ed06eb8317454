-- `kept_rows::record_fits` meets its contract: the definition's tests in turn, with the water and the storages as one. Assumes nothing.
use mathlib.Core.Path.{◌≡◌, sym, ap, ◌∙◌}
use mathlib.Core.Bool.{Bool, not, ◌&&◌, not-not, and_assoc}
use Prim.Native.Nat.{ℕ}
use lib.IntN.{ℤ, pos}
use lib.Signed.{le_z}
use mir.Syntax.{w32}
use mir.Val.{SFits, to_z, of_z}
use mir.Facts.{to_z-of_z}
use borrow.Author.Rules.{rules}
use borrow.Author.Tests.{not-true, not-false}
use Rattle.outline.specs.Numbers.{z_fits}
use Rattle.door.specs.Outcome.{measured}
use Rattle.records.specs.declared.Record.{Record}
use Rattle.kept_rows.specs.KeptRows.{index_fits, amount_fits, water_fits, storages_fit, record_fits}
use Rattle.kept_rows.proofs.Lists.{index_is}
use Rattle.kept_rows.proofs.record_fits.Goals as goal

-- in the order of the tests
in_order : (capacity : ℕ) (m : Record)
    → record_fits capacity m ≡ (z_fits m.z && (water_fits m && storages_fit capacity m) && amount_fits 1 m.water && index_fits m.modified && amount_fits measured m.kind)
unfolding record_fits
in_order capacity m = ap (λ t. t && amount_fits 1 m.water && index_fits m.modified && amount_fits measured m.kind) (and_assoc (z_fits m.z) (water_fits m) (storages_fit capacity m))

-- what a test of an amount answers with: the machine's number is the number
told : {b : Bool} (most : ℕ) (x : ℤ) → SFits w32 x → b ≡ not (le_z (pos 0) (to_z w32 (of_z w32 x)) && le_z (to_z w32 (of_z w32 x)) (pos most)) → b ≡ not (amount_fits most x)
unfolding amount_fits
told most x f e = rw (to_z-of_z f) at e

pub returns-then-not-z_fits : goal.returns-then-not-z_fits
returns-then-not-z_fits c =
    let m = c.args.m in
    let k = c.args.capacity in
    let f : SFits w32 m.z = search rules in
    let z = sym (rw (to_z-of_z f) at c.z_fits.ensures) ∙ c.if-not-z_fits.true in
    rw (in_order k m, z)

pub returns-then-not-amounts_fit : goal.returns-then-not-amounts_fit
returns-then-not-amounts_fit c =
    let m = c.args.m in
    let k = c.args.capacity in
    let f : SFits w32 m.z = search rules in
    let z = sym (rw (to_z-of_z f) at c.z_fits.ensures) ∙ c.if-not-z_fits.false in
    let amounts = sym c.amounts_fit.ensures ∙ c.if-not-amounts_fit.true in
    rw (in_order k m, z, amounts)

pub returns-then-beyond : goal.returns-then-beyond
returns-then-beyond c =
    let m = c.args.m in
    let k = c.args.capacity in
    let f : SFits w32 m.z = search rules in
    let z = sym (rw (to_z-of_z f) at c.z_fits.ensures) ∙ c.if-not-z_fits.false in
    let amounts = sym c.amounts_fit.ensures ∙ c.if-not-amounts_fit.false in
    let water = not-true (amount_fits 1 m.water) (sym (told 1 m.water (search rules) c.beyond.ensures) ∙ c.if-beyond.true) in
    rw (in_order k m, z, amounts, water)

pub returns-then-beyond-2 : goal.returns-then-beyond-2
returns-then-beyond-2 c =
    let m = c.args.m in
    let k = c.args.capacity in
    let f : SFits w32 m.z = search rules in
    let z = sym (rw (to_z-of_z f) at c.z_fits.ensures) ∙ c.if-not-z_fits.false in
    let amounts = sym c.amounts_fit.ensures ∙ c.if-not-amounts_fit.false in
    let water = not-false (amount_fits 1 m.water) (sym (told 1 m.water (search rules) c.beyond.ensures) ∙ c.if-beyond.false) in
    let g : SFits w32 m.modified = search rules in
    let modified = not-true (index_fits m.modified) (sym (rw (index_is m.modified) at (rw (to_z-of_z g) at c.beyond-2.ensures)) ∙ c.if-beyond-2.true) in
    rw (in_order k m, z, amounts, water, modified)

pub returns : goal.returns
returns c =
    let m = c.args.m in
    let k = c.args.capacity in
    let f : SFits w32 m.z = search rules in
    let z = sym (rw (to_z-of_z f) at c.z_fits.ensures) ∙ c.if-not-z_fits.false in
    let amounts = sym c.amounts_fit.ensures ∙ c.if-not-amounts_fit.false in
    let water = not-false (amount_fits 1 m.water) (sym (told 1 m.water (search rules) c.beyond.ensures) ∙ c.if-beyond.false) in
    let g : SFits w32 m.modified = search rules in
    let modified = not-false (index_fits m.modified) (sym (rw (index_is m.modified) at (rw (to_z-of_z g) at c.beyond-2.ensures)) ∙ c.if-beyond-2.false) in
    rw (in_order k m, z, amounts, water, modified, told measured m.kind (search rules) c.beyond-3.ensures) (not-not (amount_fits measured m.kind))
