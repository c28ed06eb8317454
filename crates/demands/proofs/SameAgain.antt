-- A repair with the readings that stand there reports nothing and changes nothing, from a start: what a record holds of an ask is all that its month hangs on.
-- Assumes nothing.
use mathlib.Core.Path.{◌≡◌, sym, ap, ap₂, ◌∙◌, subst, subst₂}
use mathlib.Core.List.{List, [], ◌∷◌, ◌++◌}
use Prim.Native.Nat.{ℕ, suc, ◌-◌, ◌<◌}
use native.Mathlib.Omega.{arith}
use lib.IntN.{ℤ}
use lib.ListN.{length, get_or, take, drop}
use lib.Seq.{split_at, length-take-le}
use Rattle.door.specs.declared.Reading.{Reading}
use Rattle.runs.specs.declared.Run.{Run}
use Rattle.records.specs.Record.{record_at}
use Rattle.records.specs.declared.Record.{Record}
use Rattle.records.proofs.Meeting.{amounts-to}
use Rattle.refusals.specs.Book.{Book}
use Rattle.adding.specs.Taken.{Result}
use Rattle.report.specs.Report.{changes, reported}
use Rattle.report.proofs.Changes.{changes-none}
use Rattle.reworking.specs.Reworked.{left}
use Rattle.repair.specs.Repair.{repair_result, repaired}
use Rattle.demands.specs.Months.{Ask, water, State, standing, after, after_all, Accepted, station_of}
use Rattle.demands.specs.Demands.{Fresh, first, now}
use Rattle.demands.specs.Repairs.{Stand, blank, repaired_to, repair_in}
use Rattle.demands.proofs.Took.{took}
use Rattle.demands.proofs.Sequence.{months-all, after-append}
use Rattle.demands.proofs.Reopened.{record-there}
use Rattle.demands.proofs.Reworks.{Holds, holds-own, again-is}
use Rattle.demands.proofs.RepairGiven.{done, is-repaired, repairs-exactly}
use Rattle.demands.proofs.Corrected.{watery, accepted-anew, repaired-anew, accepted-parts}

-- two asks of which one record holds what they gave leave the same
pub one-record : (s : State) (a b : Ask) (m : Record) → Holds m a → Holds m b → Accepted s (a ∷ []) → Accepted s (b ∷ []) → after s b ≡ after s a
one-record s a b m h k p q =
    let t = took s.run s.columns a p.0 in
    let u = took s.run s.columns b q.0 in
    let v = again-is s.run s.columns a m h in
    let w = again-is s.run s.columns b m k in
    ap₂ standing
    (ap (λ (x : Result). x.answer.run) u.did ∙ sym w.0 ∙ v.0 ∙ ap (λ (x : Result). x.answer.run) (sym t.did))
    (ap (λ (x : Result). x.columns) u.did ∙ sym w.1 ∙ v.1 ∙ ap (λ (x : Result). x.columns) (sym t.did))

-- a report of nothing
nothing-told : (n : ℕ) (cs : Book) (k : ℕ) → reported n (changes cs.index cs.index cs.mark cs.mark k) ≡ blank n
unfolding reported
nothing-told n cs k = let e : n - 0 ≡ n = omega arith in rw (changes-none cs.index cs.mark k, e)

unchanged : (months : ℕ) (r : Run) (cs : Book) (report : List (List ℤ)) → repaired months cs report (left r cs) ≡ repair_result (record { number = 0; changed = 0; run = r }) cs (blank (length report))
unchanged months r cs report = rw (nothing-told (length report) cs months, changes-none cs.index cs.mark months)

-- all that a call hands back and leaves
abbrev pub Unchanged : State → ℕ → Reading → Reading → List (List ℤ) → Type 0
Unchanged s i p pe report = repair_in s i p pe report ≡ repair_result (record { number = 0; changed = 0; run = s.run }) s.columns (blank (length report))

module _ (f : Fresh) (before : List Ask) (h : Accepted (first f) before) (a : Ask) (later : List Ask) (k : Accepted (now f before) (a ∷ later)) (p pe : Reading) (report : List (List ℤ))
    (z : (repair_in (after_all (now f before) (a ∷ later)) (now f before).run.months p pe report).answer.number ≡ 0)
    (stand : Stand p pe (record_at (after_all (now f before) (a ∷ later)).columns.records (now f before).run.months)) where
  abbrev s : State
  s = now f before

  abbrev t : State
  t = after_all s (a ∷ later)

  abbrev m : Record
  m = record_at t.columns.records s.run.months

  holds-new : Holds m (water p pe)
  holds-new =
      let w = (watery t.run s.run.months p pe t.columns report ((repairs-exactly t.run s.run.months p pe t.columns report 0).0 z)).0 in
      (amounts-to m.water 1 w.water, stand.0, stand.1, stand.2)

  holds-old : Holds m a
  holds-old = subst (λ (x : Record). Holds x a) (sym (record-there f before h a later k)) (holds-own (station_of s.run) a)

  same-state : repaired_to (repair_in t s.run.months p pe report) ≡ t
  same-state =
      repaired-anew f before h a later k p pe report z
      ∙ ap (λ (u : State). after_all u later) (one-record s a (water p pe) m holds-old holds-new (k.0, tt) ((accepted-anew f before h a later k p pe report z).0, tt))

  pub unchanged-at : Unchanged t s.run.months p pe report
  unchanged-at =
      let e = is-repaired t.run s.run.months p pe t.columns report z in
      let d : done t.run s.run.months p pe t.columns report ≡ left t.run t.columns = ap (λ (u : State). left u.run u.columns) (sym (ap repaired_to e) ∙ same-state) in
      e ∙ ap (repaired t.run.months t.columns report) d ∙ unchanged t.run.months t.run t.columns report

-- wherever it stands among the months
at_place : (f : Fresh) (before : List Ask) (a : Ask) (later : List Ask) → Accepted (first f) (before ++ (a ∷ later)) → (i : ℕ) → i ≡ length before → (p pe : Reading) (report : List (List ℤ))
    → let s = now f (before ++ (a ∷ later)) in
    Stand p pe (record_at s.columns.records i) → (repair_in s i p pe report).answer.number ≡ 0 → Unchanged s i p pe report
at_place f before a later h i e p pe report =
    let q = accepted-parts (first f) before (a ∷ later) h in
    let j : i ≡ (now f before).run.months = e ∙ sym (months-all (first f) before q.0 ∙ omega arith) in
    subst₂ (λ (u : State) (n : ℕ). Stand p pe (record_at u.columns.records n) → (repair_in u n p pe report).answer.number ≡ 0 → Unchanged u n p pe report) (sym (after-append (first f) before (a ∷ later))) (sym j)
    (λ stand z. unchanged-at f before q.0 a later q.1 p pe report z stand)

pub nothing-changes : (f : Fresh) (asks : List Ask) → Accepted (first f) asks → (i : ℕ) (p pe : Reading) (report : List (List ℤ))
    → let s = now f asks in
    Stand p pe (record_at s.columns.records i) → (repair_in s i p pe report).answer.number ≡ 0 → Unchanged s i p pe report
nothing-changes f asks h i p pe report stand z =
    let r = (now f asks).run in
    let w = (watery r i p pe (now f asks).columns report ((repairs-exactly r i p pe (now f asks).columns report 0).0 z)).0 in
    let l : i < length asks = omega (arith, w.row, months-all (first f) asks h) in
    let e = split_at asks i (water p pe) l in
    subst (λ (old : List Ask). Accepted (first f) old → let s = now f old in Stand p pe (record_at s.columns.records i) → (repair_in s i p pe report).answer.number ≡ 0 → Unchanged s i p pe report) (sym e)
    (λ g. at_place f (take i asks) (get_or asks i (water p pe)) (drop (suc i) asks) g i (sym (length-take-le i asks (omega arith))) p pe report) h stand z
