-- `kept_rows::rest_fits` meets its contract. The loop's invariant: what is left of each row passed fits. Assumes nothing.
use mathlib.Core.Path.{◌≡◌, sym, ◌∙◌}
use mathlib.Core.Bool.{true, false, and-false}
use mathlib.Core.List.{List}
use Prim.Native.Nat.{ℕ, suc}
use native.Mathlib.Numerals.{add-one}
use native.Mathlib.Omega.{arith}
use lib.IntN.{ℤ, pos}
use lib.ListN.{get_or}
use mir.Syntax.{w32, w64}
use mir.Val.{SFits}
use mir.Facts.{to_z-of_z}
use borrow.Author.Rules.{rules}
use Rattle.outline.proofs.Every.{all_none, all_more, all-spoilt}
use Rattle.outline.proofs.Tests.{both}
use Rattle.records.specs.Record.{record_at}
use Rattle.kept_rows.specs.KeptRows.{record_fits}
use Rattle.kept_rows.specs.Lists.{v_row_fits, rest_at}
use Rattle.kept_rows.proofs.rest_fits.Goals as goal

-- what is left of the row at a place, by its V and by its record
module _ (capacity : ℕ) (x3 : List ℤ) (records : List (List ℤ)) (v : List ℤ) (i : ℕ) where
  v-spoils : v_row_fits (suc i) (get_or x3 i (pos 0)) (get_or v i (pos 0)) ≡ false → rest_at capacity x3 records v i ≡ false
  unfolding rest_at
  v-spoils h = rw h

  record-spoils : record_fits capacity (record_at records i) ≡ false → rest_at capacity x3 records v i ≡ false
  unfolding rest_at
  record-spoils h = rw h (and-false (v_row_fits (suc i) (get_or x3 i (pos 0)) (get_or v i (pos 0))))

  row-passes : v_row_fits (suc i) (get_or x3 i (pos 0)) (get_or v i (pos 0)) ≡ true → record_fits capacity (record_at records i) ≡ true → rest_at capacity x3 records v i ≡ true
  unfolding rest_at
  row-passes p q = both p q

pub loop-row-init : goal.loop-row-init
loop-row-init c = let a = c.args in all_none (rest_at a.capacity a.x3.now a.records.now a.v.now)

pub overflow_add-row : goal.overflow_add-row
overflow_add-row c = omega arith

pub bounds-x3-at : goal.bounds-x3-at
bounds-x3-at c = omega arith

pub bounds-v-at : goal.bounds-v-at
bounds-v-at c = omega arith

pub returns-then-not-v_fits : goal.returns-then-not-v_fits
returns-then-not-v_fits c =
    let a = c.args in
    let i = c.loop-row.row in
    let f : SFits w32 (get_or a.x3.now i (pos 0)) = search rules in
    let g : SFits w64 (get_or a.v.now i (pos 0)) = search rules in
    let v = sym (rw (to_z-of_z f, to_z-of_z g, add-one i) at c.v_fits.ensures) ∙ c.if-not-v_fits.true in
    sym (all-spoilt (rest_at a.capacity a.x3.now a.records.now a.v.now) a.months i (omega arith) (v-spoils a.capacity a.x3.now a.records.now a.v.now i v))

pub record_at-requires : goal.record_at-requires
record_at-requires c = omega arith

pub returns-then-not-record_fits : goal.returns-then-not-record_fits
returns-then-not-record_fits c =
    let a = c.args in
    let i = c.loop-row.row in
    let r = sym (rw c.record_at.ensures at c.record_fits.ensures) ∙ c.if-not-record_fits.true in
    sym (all-spoilt (rest_at a.capacity a.x3.now a.records.now a.v.now) a.months i (omega arith) (record-spoils a.capacity a.x3.now a.records.now a.v.now i r))

pub loop-row-preserved : goal.loop-row-preserved
loop-row-preserved c =
    let a = c.args in
    let i = c.loop-row.row in
    let f : SFits w32 (get_or a.x3.now i (pos 0)) = search rules in
    let g : SFits w64 (get_or a.v.now i (pos 0)) = search rules in
    let v = sym (rw (to_z-of_z f, to_z-of_z g, add-one i) at c.v_fits.ensures) ∙ c.if-not-v_fits.false in
    let r = sym (rw c.record_at.ensures at c.record_fits.ensures) ∙ c.if-not-record_fits.false in
    all_more (rest_at a.capacity a.x3.now a.records.now a.v.now) i c.loop-row.invariant (row-passes a.capacity a.x3.now a.records.now a.v.now i v r)

pub returns : goal.returns
returns c =
    let e : c.loop-row.row ≡ c.args.months = omega arith in
    sym (rw e at c.loop-row.invariant)
