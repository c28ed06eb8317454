-- Repairing a wrong month, as specs/Repairs.antt states it. Assumes nothing.
use mathlib.Core.Path.{◌≡◌, refl, sym, ◌∙◌, subst}
use mathlib.Core.Bool.{true}
use mathlib.Core.Logic.{◌↔◌}
use mathlib.Core.List.{List, []}
use Prim.Native.Nat.{ℕ, ◌<◌}
use native.Mathlib.Omega.{arith}
use lib.IntN.{ℤ}
use lib.ListN.{length}
use Rattle.door.specs.declared.Reading.{Reading}
use Rattle.hindsight.specs.Rule.{forward}
use Rattle.hindsight_laws.specs.Counts.{NoneFrom}
use Rattle.runs.specs.declared.Run.{Run}
use Rattle.refusals.specs.Book.{Book, long, columns_fit}
use Rattle.refusals.specs.Good.{Good}
use Rattle.kept_rows.specs.KeptRows.{rows_fit}
use Rattle.demands.specs.Months.{Ask, State, after_all, Accepted}
use Rattle.demands.specs.Demands.{Fresh, first, now, Honest, index_at, mark_at, rows_so_far}
use Rattle.demands.specs.Recorded.{month_at}
use Rattle.demands.specs.Repairs.{RepairGives, repair-0, repair-1, repair-1-report, repair-7, repair-7-row, repair-11, repair-17, repair-8, repair-9, Call, repair_in, now_by, months_by, Stand, Repairs}
use Rattle.demands.proofs.Sequence.{long-all}
use Rattle.demands.proofs.Shown.{settled-is-hindsight, open-exactly-when, settled-stays-settled}
use Rattle.demands.proofs.Given.{not-both-ways}
use Rattle.demands.proofs.Honest.{good-now}
use Rattle.demands.proofs.RepairGiven.{refused, repairs-exactly}
use Rattle.demands.proofs.Corrected.{calls-fresh}
use Rattle.demands.proofs.Earlier.{earlier}
use Rattle.demands.proofs.SameAgain.{Unchanged, nothing-changes}
use Rattle.demands.proofs.InRange.{rows_in}
use Rattle.demands.proofs.NoStart.{start-needed}

-- ---- any mix of calls from a start
module _ (f : Fresh) (calls : List Call) where
  abbrev asks : List Ask
  asks = months_by f calls

  fresh : Accepted (first f) asks × (now_by f calls ≡ now f asks)
  fresh = calls-fresh f [] tt calls

  hindsight : (i : ℕ) → i < length asks → (index_at (now_by f calls) i ≡ (forward (rows_so_far f asks) i).index) × (mark_at (now_by f calls) i ≡ (forward (rows_so_far f asks) i).mark)
  hindsight i l = rw fresh.1 (settled-is-hindsight f asks fresh.0 i l)

  opens : (i : ℕ) → i < length asks → (mark_at (now_by f calls) i ≡ 1) ↔ NoneFrom (rows_so_far f asks) i
  opens i l = rw fresh.1 (open-exactly-when f asks fresh.0 i l)

  stays : (more : List Ask) → Accepted (now_by f calls) more → (i : ℕ) → i < length asks → mark_at (now_by f calls) i ≡ 2
      → (mark_at (after_all (now_by f calls) more) i ≡ 2) × (index_at (after_all (now_by f calls) more) i ≡ index_at (now_by f calls) i)
  stays more k i l m =
      subst (λ (s : State). Accepted s more → mark_at s i ≡ 2 → (mark_at (after_all s more) i ≡ 2) × (index_at (after_all s more) i ≡ index_at s i)) (sym fresh.1)
      (λ k m. settled-stays-settled f asks more fresh.0 k i l m) k m

  again : (i : ℕ) (p pe : Reading) (report : List (List ℤ)) → Stand p pe (month_at (now_by f calls) i) → (repair_in (now_by f calls) i p pe report).answer.number ≡ 0 → Unchanged (now_by f calls) i p pe report
  again i p pe report =
      subst (λ (s : State). Stand p pe (month_at s i) → (repair_in s i p pe report).answer.number ≡ 0 → Unchanged s i p pe report) (sym fresh.1)
      (nothing-changes f asks fresh.0 i p pe report)

-- ---- neither 1 nor 7
gives-honest : (r : Run) (i : ℕ) (p pe : Reading) (cs : Book) (report : List (List ℤ)) → Good r cs → length report ≡ long cs → rows_fit r.soil.capacity cs r.months ≡ true
    → (n : ℕ) → RepairGives r i p pe cs report n → Honest n
gives-honest r i p pe cs report g e o n (repair-1 h) = absurd (not-both-ways g.fit h)
gives-honest r i p pe cs report g e o n (repair-1-report h) = absurd (h e)
gives-honest r i p pe cs report g e o n (repair-7 h k l) = absurd (not-both-ways g.run l)
gives-honest r i p pe cs report g e o n (repair-7-row h k l) = absurd (not-both-ways o l)
gives-honest r i p pe cs report g e o n (repair-0 w m) = ((λ e. omega arith), (λ e. omega arith))
gives-honest r i p pe cs report g e o n (repair-11 k l) = ((λ e. omega arith), (λ e. omega arith))
gives-honest r i p pe cs report g e o n (repair-17 k l h) = ((λ e. omega arith), (λ e. omega arith))
gives-honest r i p pe cs report g e o n (repair-8 w m) = ((λ e. omega arith), (λ e. omega arith))
gives-honest r i p pe cs report g e o n (repair-9 w m) = ((λ e. omega arith), (λ e. omega arith))

honest : (f : Fresh) → columns_fit f.columns ≡ true → (calls : List Call) (i : ℕ) (p pe : Reading) (report : List (List ℤ)) → length report ≡ long f.columns
    → Honest (repair_in (now_by f calls) i p pe report).answer.number
honest f fit calls i p pe report e =
    let m = months_by f calls in
    let q = fresh f calls in
    let s = now f m in
    let g = good-now f fit m in
    let l = long-all (first f) m q.0 in
    rw q.1
    (gives-honest s.run i p pe s.columns report g (e ∙ sym l) (rows_in f m q.0) _ ((repairs-exactly s.run i p pe s.columns report _).0 refl))

pub repairs : Repairs
repairs =
    record {
      exactly = repairs-exactly;
      refused = refused;
      fresh = fresh;
      before = earlier;
      hindsight = hindsight;
      opens = opens;
      stays = stays;
      honest = honest;
      again = again;
      needed = start-needed;
    }
