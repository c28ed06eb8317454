-- The second edition: the modified index of every accepted month is its rule's, in the answer, in the record and in the row; later adds leave it; and it lies
-- between X3 and the side that it leans to. Assumes nothing.
use mathlib.Core.Path.{◌≡◌, refl, ap, subst, ◌∙◌}
use mathlib.Core.Bool.{Bool, true, false}
use mathlib.Core.List.{List, [], ◌∷◌}
use Prim.Native.Nat.{ℕ, zero, suc, ◌<◌}
use native.Mathlib.Omega.{arith}
use lib.IntN.{ℤ, pos, neg_ℤ}
use lib.Signed.{◌≤ℤ◌}
use lib.ListN.{length, get_or}
use Rattle.exact.proofs.Z.{zs, is-Z}
use Rattle.ending.specs.Ending.{turn, abating}
use Rattle.spells.specs.Spells.{step_of}
use Rattle.spells.specs.ValuesFit.{ValuesFit}
use Rattle.spell_laws.specs.Cases.{ending_in}
use Rattle.modified.specs.Modified.{side, modified_of}
use Rattle.modified.proofs.Laws.{by-v}
use Rattle.modified.proofs.Abating.{lies-between}
use Rattle.runs.specs.declared.Run.{Run}
use Rattle.records.specs.Record.{no_record}
use Rattle.records.specs.declared.Record.{Record}
use Rattle.refusals.specs.Book.{Book}
use Rattle.adding.specs.Figures.{figures_of}
use Rattle.adding.specs.declared.Figures.{Figures}
use Rattle.adding.proofs.Readiness.{ready}
use Rattle.drought.specs.Calls.{row_of_run}
use Rattle.drought.specs.declared.Shown.{Shown}
use Rattle.demands.specs.Months.{Ask, water, inches, anomaly, asked, after_all, Accepted, Station, station_of, station_next, z_for, water_for, modified_for, record_for, records_of_months}
use Rattle.demands.specs.Demands.{Fresh, first, now}
use Rattle.demands.specs.Recorded.{month_at}
use Rattle.demands.specs.Modified.{modified_of_months, modified_so_far, AbatesIn, Kept, SecondEdition}
use Rattle.demands.proofs.Took.{took}
use Rattle.demands.proofs.Sequence.{values-stay, months-all}
use Rattle.demands.proofs.Shown.{figures-are}
use Rattle.demands.proofs.Given.{row_shows}
use Rattle.demands.proofs.Recorded.{recorded}

-- ---- one month
module _ (r : Run) (a : Ask) (cs : Book) (h : (asked r a cs).answer.number ≡ 0) where
  abbrev figures : Figures
  figures = (asked r a cs).answer.figures

  abbrev z : ℤ
  z = z_for (station_of r) a

  are : figures ≡ figures_of (water_for (station_of r) a) z (step_of r.values z) (modified_of r.values z)
  are = figures-are r a cs h

  fit : ValuesFit r.values
  fit = let t = took r cs a h in (ready r cs t.good t.room).values_fit

  answered : figures.modified ≡ modified_of r.values figures.z
  answered = rw are

  between : (wet : Bool) → AbatesIn wet r figures.z → let m = (step_of r.values z).after in
      (turn wet m.x3 ≤ℤ turn wet (modified_of r.values z)) × (turn wet (modified_of r.values z) ≤ℤ turn wet (side wet m))
  between wet k =
      let e = subst (λ (f : Figures). ending_in wet r.values f.z ≡ abating) are k.1 in
      lies-between wet r.values z fit (took r cs a h).z k.0 e

  drought : AbatesIn false r figures.z → (figures.x3 ≤ℤ figures.modified) × (figures.modified ≤ℤ figures.x1)
  unfolding turn side
  drought k = rw are (between false k)

  wet : AbatesIn true r figures.z → (figures.x2 ≤ℤ figures.modified) × (figures.modified ≤ℤ figures.x3)
  unfolding turn side
  wet k = let b = between true k in let m = (step_of r.values z).after in rw are (flip (modified_of r.values z) m.x2 b.1, flip m.x3 (modified_of r.values z) b.0)
    where
      flip : (x y : ℤ) → neg_ℤ x ≤ℤ neg_ℤ y → y ≤ℤ x
      flip x y = rw (is-Z x, is-Z y) (simp zs (omega arith))

  elsewhere : ((wet : Bool) → AbatesIn wet r figures.z → ⊥) → figures.modified ≡ figures.index
  elsewhere n =
      let k = subst (λ (f : Figures). (wet : Bool) → AbatesIn wet r f.z → ⊥) are n in
      rw are (by-v r.values z (modified_of r.values z ≡ (step_of r.values z).index) (λ e i. i) (λ wet f e m i. absurd (k wet (f, e))))

-- ---- months one after another
modified-for : (s : Station) (a : Ask) → (record_for s a).modified ≡ modified_for s a
modified-for s (water p pe) = refl
modified-for s (inches q) = refl
modified-for s (anomaly z) = refl

modified-all : (s : Station) (asks : List Ask) (i : ℕ) → (get_or (records_of_months s asks) i no_record).modified ≡ get_or (modified_of_months s asks) i (pos 0)
modified-all s [] i = refl
modified-all s (a ∷ later) zero = modified-for s a
modified-all s (a ∷ later) (suc i) = modified-all (station_next s a) later i

module _ (f : Fresh) (asks : List Ask) (h : Accepted (first f) asks) (i : ℕ) (l : i < length asks) where
  in-record : (month_at (now f asks) i).modified ≡ get_or (modified_so_far f asks) i (pos 0)
  in-record = ap (λ (m : Record). m.modified) (recorded.each f asks h i l).0 ∙ modified-all (station_of (first f).run) asks i

  in_row : let s = row_of_run (now f asks).run i (now f asks).columns in
      (s.index ≡ get_or (now f asks).columns.index i (pos 0)) × (s.month.modified ≡ get_or (modified_so_far f asks) i (pos 0))
  in_row =
      let s = recorded.shown f asks h i l in
      let e = (row_shows (now f asks).run i (now f asks).columns).0 s.0 in
      (ap (λ (s : Shown). s.index) e, ap (λ (m : Record). m.modified) s.1 ∙ modified-all (station_of (first f).run) asks i)

  kept : (more : List Ask) → Accepted (now f asks) more → Kept (now f asks) (after_all (now f asks) more) i
  kept more k =
      let w = values-stay (now f asks) more k i (omega (arith, months-all (first f) asks h)) in
      record { x1 = w.0; x2 = w.1; x3 = w.2; numbers = w.3; v = w.4 }

pub second_edition : SecondEdition
second_edition =
    record {
      answered = answered;
      recorded = in-record;
      shown = in_row;
      fixed = λ f asks more h k i l. kept f asks h i l more k;
      drought = drought;
      wet = wet;
      elsewhere = elsewhere;
    }
