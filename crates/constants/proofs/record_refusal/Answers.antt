-- `constants::record_refusal` meets its contract: 1 and 7, each way by its tests. Assumes nothing.
use Rattle.std.proofs.lemmas.Result.{err_from_is_err_and}
use mathlib.Core.Path.{◌≡◌, sym, ◌∙◌}
use Prim.Native.Nat.{ℕ}
use native.Mathlib.Omega.{arith}
use Rattle.runs.specs.Progress.{run_of}
use Rattle.runs.specs.declared.Run.{Run}
use Rattle.refusals.specs.Book.{Book}
use Rattle.refusals.specs.Lists.{read}
use Rattle.refusals.specs.Lent.{lent_long, run_refusal_for}
use Rattle.outline.proofs.Refused.{number-ne-zero}
use Rattle.refusals.specs.Good.{Good}
use Rattle.refusals.specs.Refusals.{run_refusal}
use Rattle.refusals.proofs.Refused.{run-passes, columns_are}
use Rattle.refusals.proofs.Lent.{lent-records, run_lent}
use Rattle.constants.proofs.Passes.{run-refuses, rows-refuse, rows_pass, run_is}
use Rattle.constants.proofs.record_refusal.Goals as goal
use Rattle.constants.proofs.record_refusal.Goals.{Start}

abbrev lent : Start → Book
lent s = read s.args.rows.now

abbrev given : Start → Run
given s = run_of s.args.at s.args.constants.now

pub first_refusal-requires : goal.first_refusal-requires
first_refusal-requires c = rw c.lent_length-long.ensures (lent-records (lent (goal.at.first_refusal-requires c).Start))

number_is : (s : Start) (long n : ℕ) → long ≡ lent_long (lent s) → n ≡ run_refusal_for long (given s) s.args.rows.now.records.now → n ≡ run_refusal (given s) (lent s)
number_is s long n l e = (rw l at e) ∙ run_lent (lent s) (given s)

pub returns-in_err-first_refusal : goal.returns-in_err-first_refusal
returns-in_err-first_refusal c =
    let s = (goal.at.returns-in_err-first_refusal c).Start in
    let e = number_is s c.lent_length-long.result _ c.lent_length-long.ensures c.in_err-first_refusal.ensures in
    let p = err_from_is_err_and c.from_residual.result c.from_residual.ensures.1 in
    rw (p.1, p.2) (e ∙ run-refuses (given s) (lent s) (λ z. number-ne-zero _ (e ∙ z)))

-- a run that is theirs, where none is refused
good : (s : Start) (long : ℕ) → long ≡ lent_long (lent s) → 0 ≡ run_refusal_for long (given s) s.args.rows.now.records.now → Good (given s) (lent s)
good s long l e = run-passes (given s) (lent s) (sym (number_is s long 0 l e))

pub rows_given-requires : goal.rows_given-requires
rows_given-requires c =
    let s = (goal.at.rows_given-requires c).Start in
    let g = good s c.lent_length-long.result c.lent_length-long.ensures c.in_ok-first_refusal.ensures in
    let f = run_is (given s) (lent s) g in
    (f.soil.least, f.soil.most, omega (arith, f.months, (columns_are (lent s) g.fit).records_is))

pub returns-then-not-rows_given : goal.returns-then-not-rows_given
returns-then-not-rows_given c =
    let s = (goal.at.returns-then-not-rows_given c).Start in
    rows-refuse (given s) (lent s) (good s c.lent_length-long.result c.lent_length-long.ensures c.in_ok-first_refusal.ensures) (sym c.rows_given.ensures ∙ c.if-not-rows_given.true)

pub returns : goal.returns
returns c =
    let s = (goal.at.returns c).Start in
    rows_pass (given s) (lent s) (good s c.lent_length-long.result c.lent_length-long.ensures c.in_ok-first_refusal.ensures) (sym c.rows_given.ensures ∙ c.if-not-rows_given.false)
