-- The months before a repaired one: none of them keeps less than all but its index and mark, and those before the months that were open then keep these too, on any
-- columns. Assumes nothing.
use mathlib.Core.Path.{◌≡◌, refl, sym, ap, ◌∙◌, subst}
use mathlib.Core.Bool.{Bool, true, false, cond}
use mathlib.Core.List.{List, [], ◌++◌}
use Prim.Native.Nat.{ℕ, zero, suc, ◌+◌, ◌-◌, ◌≤◌, ◌<◌}
use native.Mathlib.Omega.{arith}
use lib.IntN.{ℤ, pos}
use lib.ListN.{length, get_or, take, drop, replicate, get_or-append, length-append, length-set, length-replicate}
use lib.Seq.{get_or-set_other, get_or-take, length-take-le}
use Rattle.door.specs.Readings.{reading}
use Rattle.door.specs.declared.Reading.{Reading}
use Rattle.door.proofs.Bounds.{reading-most}
use Rattle.water.specs.Layers.{SoilFits}
use Rattle.water.specs.declared.Soil.{Soil}
use Rattle.spells.specs.Spells.{step_of}
use Rattle.hindsight.specs.Adding.{add_as}
use Rattle.hindsight.specs.Columns.{x_at}
use Rattle.hindsight.specs.Months.{row_for}
use Rattle.history.proofs.Adding.{length-xs}
use Rattle.runs.specs.declared.Run.{Run}
use Rattle.records.specs.Record.{numbers_of, record_at}
use Rattle.records.specs.declared.Record.{Record}
use Rattle.refusals.specs.Book.{Book, long}
use Rattle.refusals.proofs.Refused.{AllLong, columns_are}
use Rattle.adding.specs.Taken.{Result, held_by, taken, taken_water}
use Rattle.adding.specs.declared.WaterFigures.{WaterFigures}
use Rattle.adding.proofs.Readiness.{run_is}
use Rattle.reopening.specs.Before.{opens_before, run_before, shown_from, reopened}
use Rattle.reopening.proofs.Laws.{opens-most, shown-long}
use Rattle.records.specs.Water.{had_water}
use Rattle.reworking.specs.Reworked.{Left, again, renewed, renewed_in, reworked, reworked_from}
use Rattle.reworking.specs.Workable.{Workable, Stands, Kept as Workable-record}
use Rattle.reworking.proofs.Steps.{next-again}
use Rattle.reworking.proofs.Passes.{Recorded}
use Rattle.reworking.proofs.Entry.{stands-begun, recorded-begun}
use Rattle.repair.specs.Repair.{repair}
use Rattle.demands.specs.Months.{State, standing}
use Rattle.demands.specs.Modified.{Kept}
use Rattle.demands.specs.Repairs.{Watery, repaired_to, KeptWhole}
use Rattle.demands.proofs.Backed.{put-before}
use Rattle.demands.proofs.Reopened.{spliced-before}
use Rattle.demands.proofs.RepairGiven.{done, is-repaired, repairs-exactly}
use Rattle.repair.proofs.ReadingKinds.{kind-most}
use Rattle.demands.proofs.Corrected.{watery}
use Rattle.std.specs.Prelude.{Option, None, Some}
use Rattle.spells.specs.declared.With.{With}

-- ---- one month more
-- what it leaves of the months before it
record Leaves (r : Run) (cs : Book) (b : Result) : Type 0 where
  long_is : long b.columns ≡ long cs
  floor : r.months - r.opens ≤ b.answer.run.months - b.answer.run.opens
  kept : (j : ℕ) → j < r.months → Kept (standing r cs) (standing b.answer.run b.columns) j
  index : (j : ℕ) → j < r.months - r.opens → get_or b.columns.index j (pos 0) ≡ get_or cs.index j (pos 0)
  mark : (j : ℕ) → j < r.months - r.opens → get_or b.columns.mark j 0 ≡ get_or cs.mark j 0

-- a place among the first k of a list's first n, before whatever comes after them
first-at : {A : Type 0} (l m rest : List A) (d : A) (k n j : ℕ) → k ≤ n → n ≤ length l → j < k → get_or ((take k (take n l) ++ m) ++ rest) j d ≡ get_or l j d
first-at l m rest d k n j h g i =
    let a = length-take-le n l g in
    let b = length-take-le k (take n l) (omega arith) in
    get_or-append (take k (take n l) ++ m) rest d j (omega (arith, length-append (take k (take n l)) m))
    ∙ get_or-append (take k (take n l)) m d j (omega arith)
    ∙ get_or-take k (take n l) j d i
    ∙ get_or-take n l j d (omega arith)

module _ (r : Run) (cs : Book) (c : AllLong cs) (few : r.opens ≤ r.months) (room : r.months < long cs) (soil : Soil) (w : WaterFigures) (z : ℤ) (kept : Record) where
  abbrev month : Result
  month = taken r soil w z kept cs

  abbrev d : Option With
  d = (step_of r.values z).decision

  past-long : length (held_by r cs).past ≡ r.months
  past-long = length-xs (x_at cs.x1 cs.x2 cs.x3) 0 r.months

  index-by : (u : Option With) → d ≡ u → month.columns.index ≡ (add_as u (held_by r cs) (row_for (step_of r.values z))).index ++ drop (suc r.months) cs.index
  unfolding taken
  index-by u e = ap (λ (x : Option With). (add_as x (held_by r cs) (row_for (step_of r.values z))).index ++ drop (suc r.months) cs.index) e

  mark-by : (u : Option With) → d ≡ u → month.columns.mark ≡ (add_as u (held_by r cs) (row_for (step_of r.values z))).mark ++ drop (suc r.months) cs.mark
  unfolding taken
  mark-by u e = ap (λ (x : Option With). (add_as x (held_by r cs) (row_for (step_of r.values z))).mark ++ drop (suc r.months) cs.mark) e

  opens_by : (u : Option With) → d ≡ u → month.answer.run.opens ≡ (add_as u (held_by r cs) (row_for (step_of r.values z))).opens
  unfolding taken
  opens_by u e = ap (λ (x : Option With). (add_as x (held_by r cs) (row_for (step_of r.values z))).opens) e

  months-is : month.answer.run.months ≡ suc r.months
  unfolding taken
  months-is = refl

  index-front : (u : Option With) → d ≡ u → (j : ℕ) → j < r.months - r.opens → get_or month.columns.index j (pos 0) ≡ get_or cs.index j (pos 0)
  index-front None e j h = ap (λ (l : List ℤ). get_or l j (pos 0)) (index-by None e) ∙ put-before cs.index _ _ (pos 0) r.months j (omega (arith, c.index_is)) (omega arith)
  index-front (Some v) e j h =
      ap (λ (l : List ℤ). get_or l j (pos 0)) (index-by (Some v) e)
      ∙ first-at cs.index _ _ (pos 0) (length (held_by r cs).past - r.opens) r.months j (omega (arith, past-long)) (omega (arith, c.index_is)) (omega (arith, past-long))

  mark-front : (u : Option With) → d ≡ u → (j : ℕ) → j < r.months - r.opens → get_or month.columns.mark j 0 ≡ get_or cs.mark j 0
  mark-front None e j h = ap (λ (l : List ℕ). get_or l j 0) (mark-by None e) ∙ put-before cs.mark _ _ 0 r.months j (omega (arith, c.mark_is)) (omega arith)
  mark-front (Some v) e j h =
      ap (λ (l : List ℕ). get_or l j 0) (mark-by (Some v) e)
      ∙ first-at cs.mark _ _ 0 (length (held_by r cs).past - r.opens) r.months j (omega (arith, past-long)) (omega (arith, c.mark_is)) (omega (arith, past-long))

  floor-by : (u : Option With) → d ≡ u → r.months - r.opens ≤ month.answer.run.months - month.answer.run.opens
  floor-by None e = let o = opens_by None e in omega (arith, months-is)
  floor-by (Some v) e = let o = opens_by (Some v) e in omega (arith, months-is)

  leaves-taken : Leaves r cs month
  unfolding taken
  leaves-taken =
      let s = step_of r.values z in
      record {
        long_is = length-set cs.x1 r.months s.after.x1;
        floor = floor-by d refl;
        kept = λ j h. let ne : j ≡ r.months → ⊥ = λ e. omega arith in
            record {
              x1 = get_or-set_other cs.x1 r.months j s.after.x1 (pos 0) ne;
              x2 = get_or-set_other cs.x2 r.months j s.after.x2 (pos 0) ne;
              x3 = get_or-set_other cs.x3 r.months j s.after.x3 (pos 0) ne;
              numbers = get_or-set_other cs.records r.months j (numbers_of kept) [] ne;
              v = get_or-set_other cs.v r.months j s.after.v (pos 0) ne;
            };
        index = index-front d refl;
        mark = mark-front d refl;
      }

-- of two results, whichever it is
either : (P : Result → Type 0) (t : Bool) {a b : Result} → P a → P b → P (cond t a b)
either P true p q = p
either P false p q = q

leaves-again : (r : Run) (cs : Book) → Stands r cs → r.months < long cs → (m : Record) → Leaves r cs (again r m cs)
unfolding again taken_water
leaves-again r cs s room m =
    let c = columns_are cs s.fit in
    either (Leaves r cs) (had_water m) (leaves-taken r cs c s.run.opens room _ _ _ _) (leaves-taken r cs c s.run.opens room _ _ _ _)

-- ---- all months from there on
kept_then : (s t u : State) (j : ℕ) → Kept s t j → Kept t u j → Kept s u j
kept_then s t u j a b = record { x1 = b.x1 ∙ a.x1; x2 = b.x2 ∙ a.x2; x3 = b.x3 ∙ a.x3; numbers = b.numbers ∙ a.numbers; v = b.v ∙ a.v }

record Earlier (s t : State) : Type 0 where
  kept : (j : ℕ) → j < s.run.months → Kept s t j
  index : (j : ℕ) → j < s.run.months - s.run.opens → get_or t.columns.index j (pos 0) ≡ get_or s.columns.index j (pos 0)
  mark : (j : ℕ) → j < s.run.months - s.run.opens → get_or t.columns.mark j 0 ≡ get_or s.columns.mark j 0

abbrev state : Left → State
state t = standing t.run t.columns

reworked-keeps : (k : ℕ) (r : Run) (cs : Book) → Stands r cs → r.months + k ≤ long cs → Recorded (r.months + k) r cs → Earlier (standing r cs) (state (reworked k r cs))
unfolding reworked
reworked-keeps zero r cs s l o =
    record { kept = λ j h. record { x1 = refl; x2 = refl; x3 = refl; numbers = refl; v = refl }; index = λ j h. refl; mark = λ j h. refl }
reworked-keeps (suc k) r cs s l o =
    let m = record_at cs.records r.months in
    let b = again r m cs in
    let n = next-again r cs s (omega arith) m (o r.months (omega arith) (omega arith)) in
    let q = leaves-again r cs s (omega arith) m in
    let t = state (reworked k b.answer.run b.columns) in
    let i = reworked-keeps k b.answer.run b.columns n.stands (omega (arith, n.months, q.long_is)) (λ j g h. subst Workable-record (sym (n.others j (λ e. omega (arith, n.months)))) (o j (omega (arith, n.months)) (omega (arith, n.months)))) in
    record {
      kept = λ j h. kept_then (standing r cs) (standing b.answer.run b.columns) t j (q.kept j h) (i.kept j (omega (arith, n.months)));
      index = λ j h. i.index j (omega (arith, q.floor)) ∙ q.index j h;
      mark = λ j h. i.mark j (omega (arith, q.floor)) ∙ q.mark j h;
    }

-- what stands, stands when they are done
reworked-stands : (k : ℕ) (r : Run) (cs : Book) → Stands r cs → r.months + k ≤ long cs → Recorded (r.months + k) r cs → let t = reworked k r cs in Stands t.run t.columns
unfolding reworked
reworked-stands zero r cs s l o = s
reworked-stands (suc k) r cs s l o =
    let m = record_at cs.records r.months in
    let b = again r m cs in
    let n = next-again r cs s (omega arith) m (o r.months (omega arith) (omega arith)) in
    let q = leaves-again r cs s (omega arith) m in
    reworked-stands k b.answer.run b.columns n.stands (omega (arith, n.months, q.long_is)) (λ j g h. subst Workable-record (sym (n.others j (λ e. omega (arith, n.months)))) (o j (omega (arith, n.months)) (omega (arith, n.months))))

-- ---- a repair
module _ (r : Run) (i : ℕ) (p pe : Reading) (cs : Book) (report : List (List ℤ)) (z : (repair r i p pe cs report).answer.number ≡ 0) where
  was : Watery r i cs report
  was = (watery r i p pe cs report ((repairs-exactly r i p pe cs report 0).0 z)).0

  work : Workable r cs i
  work = record { good = was.repairable.good; rows = was.repairable.rows; row = was.row }

  abbrev begun : Book
  begun = renewed_in (reopened cs i) i (reading p).water (reading pe).water (reading p).kind

  reads : ((reading p).water ≤ 100000) × ((reading pe).water ≤ 100000) × ((reading p).kind ≤ 2)
  reads = (reading-most p, reading-most pe, kind-most p)

  fits : Stands (run_before r cs i) begun
  fits = stands-begun r cs i work (reading p).water (reading pe).water (reading p).kind reads

  all : i + (r.months - i) ≡ r.months
  all = omega (arith, work.row)

  enough : i + (r.months - i) ≤ long cs
  enough = omega (arith, all, (run_is r cs work.good).months)

  records : Recorded (i + (r.months - i)) (run_before r cs i) begun
  records j g h = recorded-begun r cs i work (reading p).water (reading pe).water (reading p).kind reads j g (omega (arith, all))

  after : Earlier (standing (run_before r cs i) begun) (state (done r i p pe cs report))
  unfolding reworked_from
  after = reworked-keeps (r.months - i) (run_before r cs i) begun fits enough records

  -- the soil that is handed back is one
  pub soil-left : SoilFits (repair r i p pe cs report).answer.run.soil
  unfolding reworked_from
  soil-left = rw (is-repaired r i p pe cs report z) (reworked-stands (r.months - i) (run_before r cs i) begun fits enough records).run.soil

  -- what is written before the first month: nothing of a month before it, but index and mark of those that were open
  first-kept : (j : ℕ) → j < i → Kept (standing r cs) (standing (run_before r cs i) begun) j
  first-kept j h =
      record {
        x1 = refl;
        x2 = refl;
        x3 = refl;
        numbers = get_or-set_other cs.records i j (numbers_of (renewed (record_at cs.records i) (reading p).water (reading pe).water (reading p).kind)) [] (λ e. omega arith);
        v = refl;
      }

  abbrev k : ℕ
  k = opens_before cs i

  open-few : k ≤ i
  open-few = opens-most cs i

  room-there : (i ≤ length cs.index) × (i ≤ length cs.mark)
  room-there = let l = columns_are cs work.good.fit in let m = (run_is r cs work.good).months in (omega (arith, l.index_is, work.row), omega (arith, l.mark_is, work.row))

  first-index : (j : ℕ) → j < i - k → get_or begun.index j (pos 0) ≡ get_or cs.index j (pos 0)
  first-index j h = spliced-before cs.index (shown_from cs (i - k) k) (pos 0) (i - k) i (omega arith) room-there.0 (shown-long cs (i - k) k ∙ omega (arith, open-few)) j h

  first-mark : (j : ℕ) → j < i - k → get_or begun.mark j 0 ≡ get_or cs.mark j 0
  first-mark j h = spliced-before cs.mark (replicate {A = ℕ} k 1) 0 (i - k) i (omega arith) room-there.1 (length-replicate {A = ℕ} k 1 ∙ omega (arith, open-few)) j h

  pub earlier : let t = repaired_to (repair r i p pe cs report) in
      ((j : ℕ) → j < i → Kept (standing r cs) t j) × ((j : ℕ) → j < i - opens_before cs i → KeptWhole (standing r cs) t j)
  earlier =
      let e = is-repaired r i p pe cs report z in
      let t = state (done r i p pe cs report) in
      let kept : (j : ℕ) → j < i → Kept (standing r cs) t j = λ j h. kept_then (standing r cs) (standing (run_before r cs i) begun) t j (first-kept j h) (after.kept j h) in
      rw e (kept, λ j h. (kept j (omega arith), after.index j h ∙ first-index j h, after.mark j h ∙ first-mark j h))
