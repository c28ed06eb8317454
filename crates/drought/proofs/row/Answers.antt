-- `drought::row` meets its contract: its number is the definition's, and then it shows what the lists hold. Assumes nothing.
use mathlib.Core.Path.{◌≡◌, sym, ap, ◌∙◌}
use Prim.Native.Nat.{ℕ, ◌<◌}
use native.Mathlib.Omega.{arith}
use borrow.Author.Rules.{rules}
use lib.IntN.{pos}
use lib.ListN.{length, get_or}
use mir.Syntax.{w32, w64}
use mir.Val.{SFits}
use mir.Facts.{to_z-of_z}
use Rattle.outline.specs.Numbers.{most_months}
use Rattle.outline.specs.Refusals.{unless_refused}
use Rattle.outline.specs.Refused.{refusal_number, answer_number}
use Rattle.outline.proofs.Refused.{unless-refusal}
use Rattle.refusals.specs.Book.{Book}
use Rattle.refusals.specs.Refusals.{row_refusal}
use Rattle.refusals.proofs.Refused.{row-passes, columns_are}
use Rattle.refusals.proofs.Lent.{row_number}
use Rattle.refusals.specs.Lists.{read}
use Rattle.adding.proofs.Readiness.{run_is}
use Rattle.drought.specs.Calls.{row_of_run, shown, not_shown}
use Rattle.drought.specs.declared.Shown.{Shown}
use Rattle.drought.proofs.row.Goals as goal
use Rattle.drought.proofs.row.Goals.{After-row_number}

abbrev lent : After-row_number → Book
lent c = let a = c.args in read a.rows.now

-- what is shown by a number
abbrev by : After-row_number → ℕ → Shown
by c k = unless_refused k (shown c.args.i (lent c)) (not_shown k)

-- the number is the definition's
number_is : (c : After-row_number) → answer_number c.row_number.result ≡ row_refusal c.args.run c.args.i (lent c)
number_is c = rw (← row_number (lent c) c.args.run c.args.i) (rw c.fit-fit.ensures at c.row_number.ensures)

pub returns-in-Err : goal.returns-in-Err
unfolding row_of_run
returns-in-Err c =
    let t = (goal.at.returns-in-Err c).After-row_number in
    let e = c.in-Err.refusal in
    c.not_shown.ensures ∙ sym (unless-refusal e (shown c.args.i (lent t)) (not_shown (refusal_number e))) ∙ ap (by t) (ap answer_number (sym c.in-Err.is) ∙ number_is t)

-- the place is below each length, and so below the limit
abbrev Inside : After-row_number → Type 0
Inside c =
    (c.args.i < length c.args.rows.now.x1.now)
    × (c.args.i < length c.args.rows.now.x2.now)
    × (c.args.i < length c.args.rows.now.x3.now)
    × (c.args.i < length c.args.rows.now.index.now)
    × (c.args.i < length c.args.rows.now.mark.now)
    × (c.args.i < length c.args.rows.now.records.now)
    × (c.args.i < length c.args.rows.now.v.now)
    × (c.args.i < most_months)

inside : (c : After-row_number) → answer_number c.row_number.result ≡ 0 → Inside c
inside c e =
    let cs = lent c in
    let p = row-passes c.args.run cs c.args.i (sym (number_is c) ∙ e) in
    let l = columns_are cs p.0.fit in
    let m = (run_is c.args.run cs p.0).months in
    omega arith

pub record_at-kept-requires : goal.record_at-kept-requires
record_at-kept-requires c = let h = inside (goal.at.record_at-kept-requires c).After-row_number (ap answer_number c.in-Ok.is) in omega arith

pub offset_bounds-rows-i : goal.offset_bounds-rows-i
offset_bounds-rows-i c = let h = inside (goal.at.offset_bounds-rows-i c).After-row_number (ap answer_number c.in-Ok.is) in omega arith

pub bounds-rows-i : goal.bounds-rows-i
bounds-rows-i c = let h = inside (goal.at.bounds-rows-i c).After-row_number (ap answer_number c.in-Ok.is) in omega arith

pub offset_bounds-rows-i-in-Ok : goal.offset_bounds-rows-i-in-Ok
offset_bounds-rows-i-in-Ok c = let h = inside (goal.at.offset_bounds-rows-i-in-Ok c).After-row_number (ap answer_number c.in-Ok.is) in omega arith

pub bounds-rows-i-in-Ok : goal.bounds-rows-i-in-Ok
bounds-rows-i-in-Ok c = let h = inside (goal.at.bounds-rows-i-in-Ok c).After-row_number (ap answer_number c.in-Ok.is) in omega arith

pub offset_bounds-rows-i-in-Ok-2 : goal.offset_bounds-rows-i-in-Ok-2
offset_bounds-rows-i-in-Ok-2 c = let h = inside (goal.at.offset_bounds-rows-i-in-Ok-2 c).After-row_number (ap answer_number c.in-Ok.is) in omega arith

pub bounds-rows-i-in-Ok-2 : goal.bounds-rows-i-in-Ok-2
bounds-rows-i-in-Ok-2 c = let h = inside (goal.at.bounds-rows-i-in-Ok-2 c).After-row_number (ap answer_number c.in-Ok.is) in omega arith

pub offset_bounds-rows-i-in-Ok-3 : goal.offset_bounds-rows-i-in-Ok-3
offset_bounds-rows-i-in-Ok-3 c = let h = inside (goal.at.offset_bounds-rows-i-in-Ok-3 c).After-row_number (ap answer_number c.in-Ok.is) in omega arith

pub bounds-rows-i-in-Ok-3 : goal.bounds-rows-i-in-Ok-3
bounds-rows-i-in-Ok-3 c = let h = inside (goal.at.bounds-rows-i-in-Ok-3 c).After-row_number (ap answer_number c.in-Ok.is) in omega arith

pub bounds-rows-i-in-Ok-4 : goal.bounds-rows-i-in-Ok-4
bounds-rows-i-in-Ok-4 c = let h = inside (goal.at.bounds-rows-i-in-Ok-4 c).After-row_number (ap answer_number c.in-Ok.is) in omega arith

pub offset_bounds-rows-i-in-Ok-4 : goal.offset_bounds-rows-i-in-Ok-4
offset_bounds-rows-i-in-Ok-4 c = let h = inside (goal.at.offset_bounds-rows-i-in-Ok-4 c).After-row_number (ap answer_number c.in-Ok.is) in omega arith

pub bounds-rows-i-in-Ok-5 : goal.bounds-rows-i-in-Ok-5
bounds-rows-i-in-Ok-5 c = let h = inside (goal.at.bounds-rows-i-in-Ok-5 c).After-row_number (ap answer_number c.in-Ok.is) in omega arith

pub returns-in-Ok : goal.returns-in-Ok
unfolding row_of_run
returns-in-Ok c =
    let i = c.args.i in
    let t = (goal.at.returns-in-Ok c).After-row_number in
    let f1 : SFits w32 (get_or c.args.rows.now.x1.now i (pos 0)) = search rules in
    let f2 : SFits w32 (get_or c.args.rows.now.x2.now i (pos 0)) = search rules in
    let f3 : SFits w32 (get_or c.args.rows.now.x3.now i (pos 0)) = search rules in
    let f4 : SFits w32 (get_or c.args.rows.now.index.now i (pos 0)) = search rules in
    let f5 : SFits w64 (get_or c.args.rows.now.v.now i (pos 0)) = search rules in
    rw (to_z-of_z f1, to_z-of_z f2, to_z-of_z f3, to_z-of_z f4, to_z-of_z f5, c.record_at-kept.ensures) (ap (by t) (ap answer_number (sym c.in-Ok.is) ∙ number_is t))
