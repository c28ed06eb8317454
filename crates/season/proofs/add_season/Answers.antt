-- `season::add_season` meets its contract: what is still to come takes what has been added to where all months take the run at entry. Assumes
-- nothing.
use mathlib.Core.Path.{◌≡◌, refl, sym, ap, ◌∙◌}
use mathlib.Core.Bool.{cond}
use Prim.Native.Nat.{ℕ}
use native.Mathlib.Omega.{arith}
use borrow.Author.Rules.{rules}
use borrow.Author.Tests.{eqb-true}
use lib.IntN.{pos}
use lib.Dec.{eqb}
use lib.ListN.{length, get_or}
use mir.Syntax.{w32}
use mir.Val.{SFits}
use mir.Facts.{to_z-of_z}
use Rattle.std.specs.Prelude.{Result, Ok, Err}
use Rattle.outline.specs.Refused.{refusal_number, answer_number}
use Rattle.outline.specs.declared.Refusal.{Refusal}
use Rattle.outline.proofs.Refused.{number-ne-zero}
use Rattle.outline.specs.Refusals.{bad_lists}
use Rattle.outline.proofs.Tests.{cond-zero}
use Rattle.outline.proofs.Refusals.{or-zero, is-done, is-refused}
use Rattle.refusals.specs.Book.{Book}
use Rattle.refusals.specs.Good.{Good}
use Rattle.refusals.specs.Refusals.{run_refusal}
use Rattle.refusals.proofs.Refused.{run-passes}
use Rattle.refusals.specs.Lists.{held}
use Rattle.refusals.proofs.Same.{same-lists, same-then}
use Rattle.adding.specs.Taken.{result_of}
use Rattle.adding.specs.Progress.{added_of, answer_of}
use Rattle.adding.specs.declared.Added.{Added}
use Rattle.adding.specs.declared.MonthAdded.{MonthAdded}
use Rattle.runs.specs.Progress.{progress_of}
use Rattle.adding.proofs.Readiness.{run_is}
use Rattle.season.specs.Season.{SeasonResult, season_result, nothing, joined, stopped, single, add_each, season_refusal, add_season}
use Rattle.season.specs.SoFar.{begun, season_of}
use Rattle.season.specs.declared.Season.{Season}
use Rattle.season.specs.declared.SoFar.{SoFar}
use Rattle.season.proofs.Steps.{err-number, ok-number, most, ends, joins, breaks, good-joined, counts-joined}
use Rattle.season.proofs.add_season.Goals as goal
use Rattle.season.proofs.add_season.Goals.{After-season_refusal-asked, After-add_listed-month}

-- ---- before the first month
abbrev lent : After-season_refusal-asked → Book
lent c = let a = c.args in held a.lists.now

-- what is asked and where the season begins, of the run at entry
number_is : (c : After-season_refusal-asked) → answer_number c.season_refusal-asked.result ≡ season_refusal c.args.run c.args.p.now c.args.pe.now (lent c)
number_is c = rw (c.progress_of-at.ensures, c.rows.ensures) at c.season_refusal-asked.ensures

begins : (c : After-season_refusal-asked) → c.nothing_added-s.result ≡ begun (progress_of c.args.run)
begins c = c.nothing_added-s.ensures ∙ ap begun c.progress_of-at.ensures

pub returns-then-is_err-clause-outcome : goal.returns-then-is_err-clause-outcome
unfolding add_season
returns-then-is_err-clause-outcome c =
    let t = (goal.at.returns-then-is_err-clause-outcome c).After-season_refusal-asked in
    let e = number_is t in
    let n = err-number c.season_refusal-asked.result (sym c.is_err.ensures.value ∙ c.if-is_err.true) in
    rw (c.season_of.ensures, begins t) (ap (λ (k : ℕ). season_result (nothing k c.args.run) (lent t)) e ∙ sym (is-refused (season_refusal c.args.run c.args.p.now c.args.pe.now (lent t)) _ _ (λ z. n (e ∙ z))))

-- with nothing refused before the first month, the lists are of one length, the run is good, and all is what the months make
module _ (c : After-season_refusal-asked) (z : answer_number c.season_refusal-asked.result ≡ 0) where
  passes : (length c.args.p.now ≡ length c.args.pe.now) × Good c.args.run (lent c)
  unfolding season_refusal
  passes =
      let t = eqb (length c.args.p.now) (length c.args.pe.now) in
      let a = or-zero (cond t 0 bad_lists) (run_refusal c.args.run (lent c)) (sym (number_is c) ∙ z) in
      (eqb-true _ _ (cond-zero t 0 a.0), run-passes c.args.run (lent c) a.1)

  whole : (w : SeasonResult) → w ≡ add_each (season_result (season_of c.nothing_added-s.result 0 c.args.run.constants) (lent c)) c.args.p.now c.args.pe.now → w ≡ add_season c.args.run c.args.p.now c.args.pe.now (lent c)
  unfolding add_season
  whole w h = h ∙ rw (begins c) (sym (is-done _ _ _ (sym (number_is c) ∙ z)))

pub loop-i-init : goal.loop-i-init
loop-i-init c =
    let t = (goal.at.loop-i-init c).After-season_refusal-asked in
    let z = ok-number c.season_refusal-asked.result (sym c.is_err.ensures.value ∙ c.if-is_err.false) in
    let n = begins t in
    let g = (passes t z).1 in
    let f = run_is c.args.run (lent t) g in
    (refl, rw n g, rw n (omega (arith, f.opens)), rw n (omega arith), same-lists _)

pub bounds-pe-i : goal.bounds-pe-i
bounds-pe-i c =
    let z = ok-number c.season_refusal-asked.result (sym c.is_err.ensures.value ∙ c.if-is_err.false) in
    let e = (passes (goal.at.bounds-pe-i c).After-season_refusal-asked z).0 in
    omega (arith, c.loop-i-test.true)

pub add_listed-month-requires : goal.add_listed-month-requires
add_listed-month-requires c = c.loop-i.invariant.1

-- ---- a pass
abbrev so_far : After-add_listed-month → Book
so_far c = held c.loop-i.lists

-- what the single add has left
abbrev then : After-add_listed-month → Book
then c = held c.add_listed-month.new.lists

-- and what it answered
abbrev answered : After-add_listed-month → Added
answered c = answer_of c.add_listed-month.result c.loop-i.s.progress c.args.run.constants

-- the season before the pass
abbrev before : After-add_listed-month → Season
before c = season_of c.loop-i.s 0 c.args.run.constants

alone : (c : After-add_listed-month) → result_of (answered c) (then c) ≡ single (season_result (before c) (so_far c)) (get_or c.args.p.now c.loop-i.i (pos 0)) (get_or c.args.pe.now c.loop-i.i (pos 0))
alone c =
    let f : SFits w32 (get_or c.args.p.now c.loop-i.i (pos 0)) = search rules in
    let g : SFits w32 (get_or c.args.pe.now c.loop-i.i (pos 0)) = search rules in
    rw (to_z-of_z f, to_z-of_z g) at c.add_listed-month.ensures.outcome

-- a month that is refused
pub returns-in-Err-clause-outcome : goal.returns-in-Err-clause-outcome
returns-in-Err-clause-outcome c =
    let t = (goal.at.returns-in-Err-clause-outcome c).After-season_refusal-asked in
    let m = (goal.at.returns-in-Err-clause-outcome c).After-add_listed-month in
    let z = ok-number c.season_refusal-asked.result (sym c.is_err.ensures.value ∙ c.if-is_err.false) in
    let e = c.in-Err.refusal in
    let is : answered m ≡ answer_of (Err e) c.loop-i.s.progress c.args.run.constants = ap (λ (r : Result MonthAdded Refusal). answer_of r c.loop-i.s.progress c.args.run.constants) c.in-Err.is in
    let k : (answered m).number ≡ refusal_number e = ap (λ (b : Added). b.number) is in
    whole t z _
    (breaks c.args.p.now c.args.pe.now (passes t z).0 (before m) (so_far m) c.loop-i.i c.loop-i-test.true (answered m) (then m) (alone m) c.season_of-in-Err.result (λ o. number-ne-zero e (sym k ∙ o)) (c.season_of-in-Err.ensures ∙ ap (λ (n : ℕ). stopped (before m) n) (sym k)) c.loop-i.invariant.0)

-- a month that is added
number-zero : (c : After-add_listed-month) (m : MonthAdded) → c.add_listed-month.result ≡ Ok m → (answered c).number ≡ 0
number-zero c m h = ap (λ (r : Result MonthAdded Refusal). (answer_of r c.loop-i.s.progress c.args.run.constants).number) h

as-added : (c : After-add_listed-month) (m : MonthAdded) → c.add_listed-month.result ≡ Ok m → answered c ≡ added_of m c.args.run.constants
as-added c m h = ap (λ (r : Result MonthAdded Refusal). answer_of r c.loop-i.s.progress c.args.run.constants) h

pub joined_by-s-requires : goal.joined_by-s-requires
joined_by-s-requires c =
    let a = c.args in
    let t = (goal.at.joined_by-s-requires c).After-season_refusal-asked in
    let k = (goal.at.joined_by-s-requires c).After-add_listed-month in
    let z = ok-number c.season_refusal-asked.result (sym c.is_err.ensures.value ∙ c.if-is_err.false) in
    let n = rw (as-added k c.in-Ok.m c.in-Ok.is) at (counts-joined a.p.now a.pe.now (passes t z).0 (before k) (so_far k) c.loop-i.i c.loop-i-test.true (answered k) (then k) (alone k) (number-zero k c.in-Ok.m c.in-Ok.is)) in
    let m = most (before k).run (so_far k) c.loop-i.invariant.1 in
    (omega (arith, c.loop-i.invariant.3, m), omega (arith, c.loop-i.invariant.2, n.1, m))

pub loop-i-preserved : goal.loop-i-preserved
loop-i-preserved c =
    let a = c.args in
    let t = (goal.at.loop-i-preserved c).After-season_refusal-asked in
    let k = (goal.at.loop-i-preserved c).After-add_listed-month in
    let z = ok-number c.season_refusal-asked.result (sym c.is_err.ensures.value ∙ c.if-is_err.false) in
    let e = (passes t z).0 in
    let o = number-zero k c.in-Ok.m c.in-Ok.is in
    let w = as-added k c.in-Ok.m c.in-Ok.is in
    let n = rw w at (counts-joined a.p.now a.pe.now e (before k) (so_far k) c.loop-i.i c.loop-i-test.true (answered k) (then k) (alone k) o) in
    let u = c.joined_by-s.ensures in (
      joins a.p.now a.pe.now e (before k) (so_far k) c.loop-i.i c.loop-i-test.true (answered k) (then k) (alone k) (season_of c.joined_by-s.result 0 a.run.constants) o (ap (λ (g : SoFar). season_of g 0 a.run.constants) u ∙ ap (joined (before k)) (sym w)) c.loop-i.invariant.0,
      rw u (rw w at (good-joined a.p.now a.pe.now e (before k) (so_far k) c.loop-i.i c.loop-i-test.true (answered k) (then k) (alone k) o)),
      rw u (omega (arith, c.loop-i.invariant.2, n.0, n.1)),
      rw u (omega (arith, c.loop-i.invariant.3, n.0)),
      same-then c.loop-i.invariant.4 c.add_listed-month.ensures.same,
    )

pub returns-clause-outcome : goal.returns-clause-outcome
returns-clause-outcome c =
    let a = c.args in
    let l = c.loop-i in
    let t = (goal.at.returns-clause-outcome c).After-season_refusal-asked in
    let z = ok-number c.season_refusal-asked.result (sym c.is_err.ensures.value ∙ c.if-is_err.false) in
    let now = held l.lists in
    whole t z _ (ap (λ (s : Season). season_result s now) c.season_of-2.ensures ∙ sym (ends a.p.now a.pe.now (passes t z).0 (season_result (season_of l.s 0 a.run.constants) now) l.i c.loop-i-test.false) ∙ l.invariant.0)
