-- Months worked again one after the other: what is still to come takes what has been done to where all months take what was there at first, the
-- run and the columns stand, and the records to come are as they were. Assumes nothing.
use mathlib.Core.Path.{◌≡◌, sym, ap, ap₂, ◌∙◌, subst}
use Prim.Native.Nat.{ℕ, suc, ◌-◌, ◌≤◌, ◌<◌}
use native.Mathlib.Omega.{arith}
use lib.ListN.{length}
use Rattle.runs.specs.declared.Run.{Run}
use Rattle.records.specs.Record.{record_at}
use Rattle.refusals.specs.Book.{Book, long}
use Rattle.adding.specs.Taken.{Result, result_of}
use Rattle.adding.specs.declared.Added.{Added}
use Rattle.reworking.specs.Reworked.{Left, left, again, reworked}
use Rattle.reworking.specs.Workable.{Stands, Kept}
use Rattle.reworking.proofs.Steps.{Next, next-again}

-- ---- the months of a run, up to n of them
module _ (n : ℕ) (r : Run) (cs : Book) where
  -- the records of the months to come
  abbrev pub Recorded : Type 0
  Recorded = (j : ℕ) → r.months ≤ j → j < n → Kept (record_at cs.records j)

  abbrev month : Result
  month = again r (record_at cs.records r.months) cs

  goes_on : r.months < n → reworked (n - r.months) r cs ≡ reworked (n - suc r.months) month.answer.run month.columns
  unfolding reworked
  goes_on h = let e : n - r.months ≡ suc (n - suc r.months) = omega arith in rw e

  pub ends : n ≤ r.months → reworked (n - r.months) r cs ≡ left r cs
  unfolding reworked
  ends h = let e : n - r.months ≡ 0 = omega arith in rw e

-- ---- the first of them, in the code's terms
module _ (n : ℕ) {r q : Run} {cs ds : Book} (e : r ≡ q) (f : cs ≡ ds) where
  pub stands-first : Stands q ds → Stands r cs
  stands-first s = rw (e, f) s

  pub recorded-first : Recorded n q ds → Recorded n r cs
  recorded-first k = subst (λ (x : Run). Recorded n x cs) (sym e) (subst (λ (b : Book). Recorded n q b) (sym f) k)

  pub reworks-first : reworked (n - r.months) r cs ≡ reworked (n - q.months) q ds
  reworks-first = ap₂ (λ (x : Run) (b : Book). reworked (n - x.months) x b) e f

-- ---- a pass: what the month has left, in the code's terms
module _ (n : ℕ) (r : Run) (cs : Book) (s : Stands r cs) (h : r.months < n) (b : n ≤ long cs) (k : Recorded n r cs) (a : Added) (ds : Book)
    (e : result_of a ds ≡ again r (record_at cs.records r.months) cs) where
  next : Next r cs (result_of a ds)
  next = rw e (next-again r cs s (omega arith) (record_at cs.records r.months) (k r.months (omega arith) h))

  pub months-next : a.run.months ≡ suc r.months
  months-next = next.months

  pub stands-next : Stands a.run ds
  stands-next = next.stands

  pub recorded-next : Recorded n a.run ds
  recorded-next j l m =
      let u = months-next in
      rw (next.others j (λ q. omega (arith, q))) (k j (omega arith) m)

  pub reworks-next : {w : Left} → reworked (n - r.months) r cs ≡ w → reworked (n - a.run.months) a.run ds ≡ w
  reworks-next o =
      ap (λ (m : ℕ). reworked (n - m) a.run ds) months-next ∙ ap (λ (x : Result). reworked (n - suc r.months) x.answer.run x.columns) e ∙ sym (goes_on n r cs h) ∙ o

-- ---- the lists keep their lengths
abbrev pub SameLengths : Book → Book → Type 0
SameLengths cs ds =
    (length cs.x1 ≡ length ds.x1)
    × (length cs.x2 ≡ length ds.x2)
    × (length cs.x3 ≡ length ds.x3)
    × (length cs.index ≡ length ds.index)
    × (length cs.mark ≡ length ds.mark)
    × (length cs.records ≡ length ds.records)
    × (length cs.v ≡ length ds.v)

pub lengths-then : (bs cs ds : Book) → SameLengths bs cs → SameLengths cs ds → SameLengths bs ds
lengths-then bs cs ds p q = (p.0 ∙ q.0, p.1 ∙ q.1, p.2 ∙ q.2, p.3 ∙ q.3, p.4 ∙ q.4, p.5 ∙ q.5, p.6 ∙ q.6)
