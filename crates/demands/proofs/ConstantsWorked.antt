-- Station constants from the station's own record, as specs/WorkedOut.antt states it. Assumes nothing.
use mathlib.Core.Path.{◌≡◌, refl, sym, ◌∙◌}
use mathlib.Core.Bool.{true}
use mathlib.Core.List.{List, []}
use Prim.Native.Nat.{ℕ}
use native.Mathlib.Omega.{arith}
use lib.IntN.{ℤ}
use lib.ListN.{length}
use Rattle.runs.specs.declared.Run.{Run}
use Rattle.refusals.specs.Book.{Book, columns_fit}
use Rattle.constants.specs.WorkOut.{work_out, sum_month}
use Rattle.demands.specs.Demands.{Fresh, first, now, Honest}
use Rattle.demands.specs.Repairs.{Call, now_by, months_by}
use Rattle.demands.specs.WorkedOut.{Given, NotGiven, no_run, no_add, WorkOutGives, work-0, work-1, work-7, work-2, work-3, work-18, work-19, work-20, work-21, SumGives, sum-0, sum-1, sum-7, sum-6, sum-18, WorkingOut}
use Rattle.demands.proofs.Sequence.{months-all}
use Rattle.demands.proofs.Given.{not-both-ways}
use Rattle.demands.proofs.Honest.{good-now}
use Rattle.demands.proofs.Corrected.{calls-fresh}
use Rattle.demands.proofs.ConstantsYears.{whole_years, started}
use Rattle.demands.proofs.ConstantsOwn.{own-rows}
use Rattle.demands.proofs.ConstantsGiven.{refused, works-exactly, refused_sums, sums-exactly}
use Rattle.demands.proofs.ConstantsRange.{shares, room, starts}
use Rattle.demands.proofs.ConstantsReached.{none_empty, gamma-needed}
use Rattle.demands.proofs.ConstantsMade.{made}
use Rattle.demands.proofs.ConstantsLost.{lost}

-- ---- neither 1 nor 7
module _ (r : Run) (cs : Book) (g : Given r cs) where
  is-given : NotGiven r cs → ⊥
  is-given (no_run h) = not-both-ways g.good.run h
  is-given (no_add i l h) = not-both-ways (g.rows i l) h

  work-honest : (weights : List ℤ) (n : ℕ) → WorkOutGives r weights cs n → Honest n
  work-honest weights n (work-1 f) = absurd (not-both-ways g.good.fit f)
  work-honest weights n (work-7 f h) = absurd (is-given h)
  work-honest weights n (work-0 w i k z) = ((λ e. omega arith), (λ e. omega arith))
  work-honest weights n (work-2 h e) = ((λ e. omega arith), (λ e. omega arith))
  work-honest weights n (work-3 h e m l o) = ((λ e. omega arith), (λ e. omega arith))
  work-honest weights n (work-18 h w t) = ((λ e. omega arith), (λ e. omega arith))
  work-honest weights n (work-19 w m l o) = ((λ e. omega arith), (λ e. omega arith))
  work-honest weights n (work-20 w i k) = ((λ e. omega arith), (λ e. omega arith))
  work-honest weights n (work-21 w i k z) = ((λ e. omega arith), (λ e. omega arith))

  sum-honest : (month : ℤ) (n : ℕ) → SumGives r month cs n → Honest n
  sum-honest month n (sum-1 f) = absurd (not-both-ways g.good.fit f)
  sum-honest month n (sum-7 f h) = absurd (is-given h)
  sum-honest month n (sum-0 h o t) = ((λ e. omega arith), (λ e. omega arith))
  sum-honest month n (sum-6 h o) = ((λ e. omega arith), (λ e. omega arith))
  sum-honest month n (sum-18 h o t) = ((λ e. omega arith), (λ e. omega arith))

  both-honest : ((weights : List ℤ) → Honest (work_out r weights cs).number) × ((month : ℤ) → Honest (sum_month r month cs).number)
  both-honest = (λ weights. work-honest weights _ ((works-exactly r weights cs _).0 refl), λ month. sum-honest month _ ((sums-exactly r month cs _).0 refl))

honest : (f : Fresh) → columns_fit f.columns ≡ true → (calls : List Call)
    → let s = now_by f calls in
    ((weights : List ℤ) → Honest (work_out s.run weights s.columns).number) × ((month : ℤ) → Honest (sum_month s.run month s.columns).number)
honest f fit calls =
    let m = months_by f calls in
    let q = calls-fresh f [] tt calls in
    let s = now f m in
    let n : s.run.months ≡ length m = omega (arith, months-all (first f) m q.0) in
    rw q.1 (both-honest s.run s.columns (record { good = good-now f fit m; rows = λ i l. own-rows f m q.0 i (omega arith) }))

pub working-out : WorkingOut
working-out =
    record {
      whole_years = whole_years;
      started = started;
      shares = shares;
      needed = gamma-needed;
      room = room;
      made = made;
      exactly = works-exactly;
      exactly_sums = sums-exactly;
      none_empty = none_empty;
      refused = refused;
      refused_sums = refused_sums;
      one = λ r weights cs a b p q. p ∙ sym q;
      one_sums = λ r month cs a b p q. p ∙ sym q;
      lost = lost;
      starts = starts;
      honest = honest;
    }
