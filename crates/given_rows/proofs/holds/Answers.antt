-- `given_rows::holds` meets its contract: each of the six against the balance's. Assumes nothing.
use mathlib.Core.Path.{◌≡◌, sym, ◌∙◌}
use mathlib.Core.Bool.{Bool}
use Prim.Native.Nat.{ℕ, ◌+◌}
use borrow.Author.Rules.{rules}
use lib.IntN.{ℤ}
use mir.Syntax.{w32}
use mir.Val.{SFits, to_z, of_z}
use mir.Facts.{to_z-of_z}
use Rattle.records.specs.Record.{record_at}
use Rattle.records.specs.Ends.{amounts}
use Rattle.given_rows.specs.GivenRows.{holds}
use Rattle.given_rows.proofs.holds.Goals as goal

-- what a call answers with, of a number that is read back
read : {n : ℤ} {r : Bool} (k : ℕ) → SFits w32 n → r ≡ amounts (to_z w32 (of_z w32 n)) k → r ≡ amounts n k
read k f e = rw (to_z-of_z f) at e

pub amounts-requires-5 : goal.amounts-requires-5
amounts-requires-5 c = c.requires.surface_le_most_reading.0

pub amounts-requires-6 : goal.amounts-requires-6
amounts-requires-6 c = c.requires.surface_le_most_reading.1

pub returns-then-not-amounts : goal.returns-then-not-amounts
unfolding holds
returns-then-not-amounts c =
    let m = record_at c.args.records.now c.args.i in
    let et : SFits w32 m.et = search rules in
    rw (sym (read c.args.b.et et c.amounts.ensures) ∙ c.if-not-amounts.true)

pub returns-then-not-amounts-2 : goal.returns-then-not-amounts-2
unfolding holds
returns-then-not-amounts-2 c =
    let m = record_at c.args.records.now c.args.i in
    let et : SFits w32 m.et = search rules in
    let r : SFits w32 m.r = search rules in
    rw (sym (read c.args.b.et et c.amounts.ensures) ∙ c.if-not-amounts.false, sym (read c.args.b.r r c.amounts-2.ensures) ∙ c.if-not-amounts-2.true)

pub returns-then-not-amounts-3 : goal.returns-then-not-amounts-3
unfolding holds
returns-then-not-amounts-3 c =
    let m = record_at c.args.records.now c.args.i in
    let et : SFits w32 m.et = search rules in
    let r : SFits w32 m.r = search rules in
    let l : SFits w32 m.l = search rules in
    rw (sym (read c.args.b.et et c.amounts.ensures) ∙ c.if-not-amounts.false, sym (read c.args.b.r r c.amounts-2.ensures) ∙ c.if-not-amounts-2.false, sym (read (c.args.b.ls + c.args.b.lu) l c.amounts-3.ensures) ∙ c.if-not-amounts-3.true)

pub returns-then-not-amounts-4 : goal.returns-then-not-amounts-4
unfolding holds
returns-then-not-amounts-4 c =
    let m = record_at c.args.records.now c.args.i in
    let et : SFits w32 m.et = search rules in
    let r : SFits w32 m.r = search rules in
    let l : SFits w32 m.l = search rules in
    let ro : SFits w32 m.ro = search rules in
    rw (sym (read c.args.b.et et c.amounts.ensures) ∙ c.if-not-amounts.false, sym (read c.args.b.r r c.amounts-2.ensures) ∙ c.if-not-amounts-2.false, sym (read (c.args.b.ls + c.args.b.lu) l c.amounts-3.ensures) ∙ c.if-not-amounts-3.false, sym (read c.args.b.ro ro c.amounts-4.ensures) ∙ c.if-not-amounts-4.true)

pub returns-then-not-amounts-5 : goal.returns-then-not-amounts-5
unfolding holds
returns-then-not-amounts-5 c =
    let m = record_at c.args.records.now c.args.i in
    let et : SFits w32 m.et = search rules in
    let r : SFits w32 m.r = search rules in
    let l : SFits w32 m.l = search rules in
    let ro : SFits w32 m.ro = search rules in
    let surface : SFits w32 m.surface = search rules in
    rw (sym (read c.args.b.et et c.amounts.ensures) ∙ c.if-not-amounts.false, sym (read c.args.b.r r c.amounts-2.ensures) ∙ c.if-not-amounts-2.false, sym (read (c.args.b.ls + c.args.b.lu) l c.amounts-3.ensures) ∙ c.if-not-amounts-3.false, sym (read c.args.b.ro ro c.amounts-4.ensures) ∙ c.if-not-amounts-4.false, sym (read c.args.b.surface surface c.amounts-5.ensures) ∙ c.if-not-amounts-5.true)

pub returns : goal.returns
unfolding holds
returns c =
    let m = record_at c.args.records.now c.args.i in
    let et : SFits w32 m.et = search rules in
    let r : SFits w32 m.r = search rules in
    let l : SFits w32 m.l = search rules in
    let ro : SFits w32 m.ro = search rules in
    let surface : SFits w32 m.surface = search rules in
    let underlying : SFits w32 m.underlying = search rules in
    rw (sym (read c.args.b.et et c.amounts.ensures) ∙ c.if-not-amounts.false, sym (read c.args.b.r r c.amounts-2.ensures) ∙ c.if-not-amounts-2.false, sym (read (c.args.b.ls + c.args.b.lu) l c.amounts-3.ensures) ∙ c.if-not-amounts-3.false, sym (read c.args.b.ro ro c.amounts-4.ensures) ∙ c.if-not-amounts-4.false, sym (read c.args.b.surface surface c.amounts-5.ensures) ∙ c.if-not-amounts-5.false) (read c.args.b.underlying underlying c.amounts-6.ensures)
