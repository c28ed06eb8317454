-- A repair of a fresh run's month leaves a fresh run over the corrected months (`repair-fresh`), and so does any mix of adds, seasons and repairs
-- (`calls-fresh`). Assumes nothing.
use mathlib.Core.Path.{◌≡◌, refl, sym, ap, ap₂, ◌∙◌, subst, subst₂}
use mathlib.Core.Logic.{⊎_elim}
use mathlib.Core.List.{List, [], ◌∷◌, ◌++◌}
use Prim.Native.Nat.{ℕ, suc, ◌+◌, ◌-◌, ◌≤◌, ◌<◌}
use native.Mathlib.Omega.{arith}
use lib.IntN.{ℤ, pos}
use lib.ListN.{length, get_or, take, drop, set, replicate, length-replicate}
use lib.Seq.{get_or-set_same, get_or-set_other, split_at, set_split, length-take-le}
use Rattle.outline.proofs.Refusals.{is-done, is-refused}
use Rattle.door.specs.Readings.{reading}
use Rattle.door.specs.declared.Reading.{Reading}
use Rattle.runs.specs.declared.Run.{Run}
use Rattle.records.specs.Record.{numbers_of, record_at, record_in}
use Rattle.records.proofs.Meeting.{amounts-to}
use Rattle.refusals.specs.Book.{Book}
use Rattle.refusals.proofs.Refused.{columns_are}
use Rattle.adding.proofs.Readiness.{run_is}
use Rattle.reopening.specs.Before.{shown_from, reopened}
use Rattle.reopening.proofs.Laws.{shown-long}
use Rattle.reworking.specs.Reworked.{Left, left, renewed, renewed_in, reworked, reworked_from}
use Rattle.demands.specs.Months.{Ask, water, asked, State, standing, after, after_all, Accepted}
use Rattle.demands.specs.Given.{MonthGives}
use Rattle.demands.specs.Demands.{Fresh, first, now}
use Rattle.demands.specs.Seasons.{SameFrom}
use Rattle.demands.specs.Longer.{SameMonths}
use Rattle.demands.specs.Repairs.{Watery, RepairGives, repair-0, Call, adds, seasons, repairs, repaired_to, repair_in, after_call, after_calls, corrected, corrected_all}
use Rattle.demands.proofs.Sequence.{months-all, after-append, accepted-append}
use Rattle.demands.proofs.Shown.{refused-add}
use Rattle.demands.proofs.Given.{zero_or}
use Rattle.demands.proofs.Seasons.{all-beyond, more}
use Rattle.demands.proofs.Longer.{number-of}
use Rattle.demands.proofs.Reopened.{good-then, good-last, run-back, long-then, opened-is, ready, months-back, few, index-room, mark-room, spliced-beyond}
use Rattle.demands.proofs.Reworks.{Holds, HoldsFrom, holds_same, holds-all, reworked-is, themselves, room_for, copied_all, books-same}
use Rattle.demands.proofs.RepairGiven.{done, refused, is-repaired, repairs-exactly}

-- what a repair that is done was given
pub watery : (r : Run) (i : ℕ) (p pe : Reading) (cs : Book) (report : List (List ℤ)) → RepairGives r i p pe cs report 0 → Watery r i cs report × MonthGives p pe 0
watery r i p pe cs report (repair-0 w m) = (w, m)

-- ---- one month of a fresh run
module _ (f : Fresh) (before : List Ask) (h : Accepted (first f) before) (a : Ask) (later : List Ask) (k : Accepted (now f before) (a ∷ later)) (p pe : Reading) (report : List (List ℤ))
    (z : (repair_in (after_all (now f before) (a ∷ later)) (now f before).run.months p pe report).answer.number ≡ 0) where
  abbrev s : State
  s = now f before

  abbrev t : State
  t = after_all s (a ∷ later)

  abbrev n : ℕ
  n = s.run.months

  -- the months from the repaired one on
  abbrev anew : List Ask
  anew = water p pe ∷ later

  was : Watery t.run n t.columns report × MonthGives p pe 0
  was = watery t.run n p pe t.columns report ((repairs-exactly t.run n p pe t.columns report 0).0 z)

  months-are : t.run.months ≡ n + suc (length later)
  months-are = months-all s (a ∷ later) k

  pub accepted-anew : Accepted s anew
  accepted-anew =
      room_for s anew (good-then f before h a later k) (was.1, themselves (after s a) later k.1)
      (omega (arith, months-are, (run_is t.run t.columns (good-last f before h a later k)).months, long-then f before h a later k))

  -- the columns that are reworked
  abbrev made : Book
  made = ready f before h a later k (reading p).water (reading pe).water (reading p).kind

  abbrev own : List ℤ
  own = numbers_of (renewed (record_at t.columns.records n) (reading p).water (reading pe).water (reading p).kind)

  copied : let u = after_all s anew in let w = after_all (standing s.run made) anew in
      Accepted (standing s.run made) anew × (w.run ≡ u.run) × SameMonths u.run u.columns w.columns
  copied = copied_all anew s.run s.columns made (months-back f before h a later k (reading p).water (reading pe).water (reading p).kind) accepted-anew

  -- each record holds its ask's readings, the repaired month's the new ones
  place-there : n < length t.columns.records
  place-there = omega (arith, was.0.row, (run_is t.run t.columns (good-last f before h a later k)).months, (columns_are t.columns (good-last f before h a later k).fit).records_is)

  records-hold : HoldsFrom made.records n anew
  records-hold =
      let e = get_or-set_same t.columns.records n own [] place-there in (
        subst (λ (u : List ℤ). Holds (record_in u) (water p pe)) (sym e) (amounts-to _ 1 was.0.water, refl, refl, refl),
        holds_same t.columns.records made.records (suc n) later (λ j g. get_or-set_other t.columns.records n j own [] (λ e. omega arith)) (holds-all s (a ∷ later) k).1,
      )

  reworks : done t.run n p pe t.columns report ≡ left (after_all (standing s.run made) anew).run (after_all (standing s.run made) anew).columns
  unfolding reworked_from
  reworks =
      let m : t.run.months - n ≡ length anew = omega (arith, months-are) in
      ap (λ (q : Run). reworked (t.run.months - n) q (renewed_in (reopened t.columns n) n (reading p).water (reading pe).water (reading p).kind)) (run-back f before h a later k)
      ∙ ap₂ (λ (j : ℕ) (b : Book). reworked j s.run (renewed_in b n (reading p).water (reading pe).water (reading p).kind)) m (opened-is f before h a later k)
      ∙ reworked-is anew s.run made copied.0 records-hold

  -- a place after the last month
  beyond : SameFrom (after_all s anew).run.months (after_all s anew).columns (after_all (standing s.run made) anew).columns
  beyond =
      let o = all-beyond s anew in
      let q = all-beyond s (a ∷ later) in
      let w = all-beyond (standing s.run made) anew in
      let c = months-all s anew accepted-anew in
      let d = months-all (standing s.run made) anew copied.0 in
      let there : (i : ℕ) → (after_all s anew).run.months ≤ i → (t.run.months ≤ i) × ((after_all (standing s.run made) anew).run.months ≤ i) = λ i l. (omega (arith, months-are), omega arith) in
      let op = few f before h a later k in
      record {
        x1 = λ i l. w.x1 i (there i l).1 ∙ q.x1 i (there i l).0 ∙ sym (o.x1 i l);
        x2 = λ i l. w.x2 i (there i l).1 ∙ q.x2 i (there i l).0 ∙ sym (o.x2 i l);
        x3 = λ i l. w.x3 i (there i l).1 ∙ q.x3 i (there i l).0 ∙ sym (o.x3 i l);
        index = λ i l. w.index i (there i l).1 ∙ index_beyond i (omega arith) ∙ q.index i (there i l).0 ∙ sym (o.index i l);
        mark = λ i l. w.mark i (there i l).1 ∙ mark-beyond i (omega arith) ∙ q.mark i (there i l).0 ∙ sym (o.mark i l);
        records = λ i l. w.records i (there i l).1 ∙ get_or-set_other t.columns.records n i own [] (λ e. omega arith) ∙ q.records i (there i l).0 ∙ sym (o.records i l);
        v = λ i l. w.v i (there i l).1 ∙ q.v i (there i l).0 ∙ sym (o.v i l);
      }
    where
      opens : s.run.opens ≤ n
      opens = few f before h a later k

      index_beyond : (i : ℕ) → n ≤ i → get_or made.index i (pos 0) ≡ get_or t.columns.index i (pos 0)
      index_beyond i l =
          spliced-beyond t.columns.index (shown_from t.columns (n - s.run.opens) s.run.opens) (pos 0) (n - s.run.opens) n (omega arith) (index-room f before h a later k) (shown-long t.columns (n - s.run.opens) s.run.opens ∙ omega (arith, opens)) i l

      mark-beyond : (i : ℕ) → n ≤ i → get_or made.mark i 0 ≡ get_or t.columns.mark i 0
      mark-beyond i l =
          spliced-beyond t.columns.mark (replicate s.run.opens 1) 0 (n - s.run.opens) n (omega arith) (mark-room f before h a later k) (length-replicate {A = ℕ} s.run.opens 1 ∙ omega (arith, opens)) i l

  -- A FRESH RUN OVER THE CORRECTED MONTHS
  pub repaired-anew : repaired_to (repair_in t n p pe report) ≡ after_all s anew
  repaired-anew =
      let b = books-same (after_all s anew).run.months (after_all s anew).run (after_all s anew).columns (after_all (standing s.run made) anew).columns refl copied.2 beyond in
      ap repaired_to (is-repaired t.run n p pe t.columns report z)
      ∙ ap (λ (u : Left). standing u.run u.columns) reworks
      ∙ ap₂ standing copied.1 b

-- ---- wherever it stands among the months
pub accepted-parts : (s : State) (asks later : List Ask) → Accepted s (asks ++ later) → Accepted s asks × Accepted (after_all s asks) later
accepted-parts s [] later h = (tt, h)
accepted-parts s (a ∷ asks) later h = let i = accepted-parts (after s a) asks later h.1 in ((h.0, i.0), i.1)

abbrev Anew : Fresh → List Ask → List Ask → ℕ → Reading → Reading → List (List ℤ) → Type 0
Anew f asks new i p pe report =
    (repair_in (now f asks) i p pe report).answer.number ≡ 0 → Accepted (first f) new × (repaired_to (repair_in (now f asks) i p pe report) ≡ now f new)

at_place : (f : Fresh) (before : List Ask) (a : Ask) (later : List Ask) → Accepted (first f) (before ++ (a ∷ later)) → (i : ℕ) → i ≡ length before → (p pe : Reading) (report : List (List ℤ))
    → Anew f (before ++ (a ∷ later)) (before ++ (water p pe ∷ later)) i p pe report
at_place f before a later h i e p pe report z =
    let q = accepted-parts (first f) before (a ∷ later) h in
    let m : i ≡ (now f before).run.months = e ∙ sym (months-all (first f) before q.0 ∙ omega arith) in
    let y = subst₂ (λ (u : State) (j : ℕ). (repair_in u j p pe report).answer.number ≡ 0) (after-append (first f) before (a ∷ later)) m z in (
      accepted-append (first f) before (water p pe ∷ later) q.0 (accepted-anew f before q.0 a later q.1 p pe report y),
      ap₂ (λ (u : State) (j : ℕ). repaired_to (repair_in u j p pe report)) (after-append (first f) before (a ∷ later)) m
          ∙ repaired-anew f before q.0 a later q.1 p pe report y
          ∙ sym (after-append (first f) before (water p pe ∷ later)),
    )

pub repair-fresh : (f : Fresh) (asks : List Ask) → Accepted (first f) asks → (i : ℕ) (p pe : Reading) (report : List (List ℤ)) → Anew f asks (set asks i (water p pe)) i p pe report
repair-fresh f asks h i p pe report z =
    let r = (now f asks).run in
    let w = (watery r i p pe (now f asks).columns report ((repairs-exactly r i p pe (now f asks).columns report 0).0 z)).0 in
    let l : i < length asks = omega (arith, w.row, months-all (first f) asks h) in
    let e = split_at asks i (water p pe) l in
    let d = set_split asks i (water p pe) l in
    subst (λ (new : List Ask). Accepted (first f) new × (repaired_to (repair_in (now f asks) i p pe report) ≡ now f new)) (sym d)
    (subst (λ (old : List Ask). Accepted (first f) old → Anew f old (take i asks ++ (water p pe ∷ drop (suc i) asks)) i p pe report) (sym e)
    (λ g. at_place f (take i asks) (get_or asks i (water p pe)) (drop (suc i) asks) g i (sym (length-take-le i asks (omega arith))) p pe report) h z)

-- ---- any mix of calls
module _ (f : Fresh) (asks : List Ask) (h : Accepted (first f) asks) where
  one-call : (c : Call) → Accepted (first f) (corrected (now f asks) asks c) × (after_call (now f asks) c ≡ now f (corrected (now f asks) asks c))
  one-call (adds a) =
      let s = now f asks in
      let k = (asked s.run a s.columns).answer.number in
      ⊎_elim
      (λ z. rw (is-done k (asks ++ (a ∷ [])) asks z) (accepted-append (first f) asks (a ∷ []) h (z, tt), sym (after-append (first f) asks (a ∷ []))))
      (λ n. let b = (refused-add s.run a s.columns).1 (λ z. n (number-of s.run a s.columns ∙ z)) in
      rw (is-refused k (asks ++ (a ∷ [])) asks n) (h, ap₂ standing b.0 b.1))
      (zero_or k)
  one-call (seasons ps pes) = more (first f) asks ps pes h
  one-call (repairs i p pe report) =
      let s = now f asks in
      let k = (repair_in s i p pe report).answer.number in
      ⊎_elim
      (λ z. rw (is-done k (set asks i (water p pe)) asks z) (repair-fresh f asks h i p pe report z))
      (λ n. rw (is-refused k (set asks i (water p pe)) asks n) (h, ap repaired_to (refused s.run i p pe s.columns report n)))
      (zero_or k)

pub calls-fresh : (f : Fresh) (asks : List Ask) → Accepted (first f) asks → (calls : List Call)
    → Accepted (first f) (corrected_all (now f asks) asks calls) × (after_calls (now f asks) calls ≡ now f (corrected_all (now f asks) asks calls))
calls-fresh f asks h [] = (h, refl)
calls-fresh f asks h (c ∷ later) =
    let o = one-call f asks h c in
    let new = corrected (now f asks) asks c in
    subst (λ (u : State). Accepted (first f) (corrected_all u new later) × (after_calls u later ≡ now f (corrected_all u new later))) (sym o.1) (calls-fresh f new o.0 later)
