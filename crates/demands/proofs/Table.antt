-- The table of refusals, number by number, as specs/Table.antt states it: at each number a call's type has one case, which is taken apart and put
-- together again. Assumes nothing.
use mathlib.Core.Path.{◌≡◌, refl}
use mathlib.Core.Bool.{true, false}
use mathlib.Core.Logic.{◌↔◌, ◌⊎◌, inl, inr, ⊎_elim}
use mathlib.Core.List.{List}
use Prim.Native.Nat.{ℕ, ◌≤◌, ◌<◌}
use native.Mathlib.Omega.{arith}
use lib.IntN.{ℤ, nat_abs}
use lib.ListN.{length}
use Rattle.outline.specs.Numbers.{many_constants, most_z}
use Rattle.door.specs.declared.Reading.{Reading}
use Rattle.door.specs.declared.Reading.TheVariants.{Inches, Missing}
use Rattle.ranges.specs.Ranges.{constants_fit}
use Rattle.calendar.specs.Calendar.{ZeroK}
use Rattle.runs.specs.declared.Run.{Run}
use Rattle.starts.specs.Start.{capacity_fits, storages_fit, month_fits}
use Rattle.starts.specs.Given.{ConstantsTaken, StartFits, StartGives, gives_0, gives_2, gives_3, gives_4, gives_5, gives_6, gives_21}
use Rattle.series.specs.Series.{all_z_fit, lists_fit}
use Rattle.refusals.specs.Book.{Book, long, columns_fit}
use Rattle.refusals.specs.Refusals.{is_run_of}
use Rattle.refusals.specs.Good.{Good}
use Rattle.demands.specs.Months.{Ask, water, inches, anomaly, standing, Accepted, months_of}
use Rattle.demands.specs.Given.{Acceptable, ReadingGives, reading_0, reading_8, reading_9, MonthGives, by_precipitation, by_pe, ZGives, z_0, z_12, ItselfGives, AddGives, add_0, add_1, add_7, add_8, add_9, add_10, add_12, RowGives, row_0, row_1, row_7, row_11, SeriesGives, series_0, series_1, series_12, Begins, StopsWith, SeasonGives, season-0, season-1-lists, season-1, season-7, season-8, season-9, season-10}
use Rattle.demands.specs.Table.{NotAcceptable, WaterTable, Table}
use Rattle.demands.proofs.Given.{readings_exactly, adds_exactly, rows_exactly, series_exactly}
use Rattle.demands.proofs.SeasonGiven.{seasons_exactly}
use Rattle.demands.proofs.ZeroK.{starts_exactly}

-- a case and what it says
by : {K G C : Type 0} → K ↔ G → (G → C) → (C → G) → K ↔ C
by e from to = (λ k. from (e.0 k), λ c. e.1 (to c))

-- ---- a reading
from-reading-0 : (r : Reading) → ReadingGives r 0 → Acceptable r
from-reading-0 r (reading_0 h) = h

from-reading-8 : (r : Reading) → ReadingGives r 8 → r ≡ Missing
from-reading-8 r (reading_8 h) = h

from-reading-9 : (r : Reading) → ReadingGives r 9 → NotAcceptable r
from-reading-9 r (reading_9 h k) = (h, k)

to-reading-9 : (r : Reading) → NotAcceptable r → ReadingGives r 9
to-reading-9 r h = reading_9 h.0 h.1

-- ---- a start
module _ (cs : List ℤ) (c ss su m : ℤ) where
  from-start-0 : StartGives cs c ss su m 0 → StartFits cs c ss su m
  from-start-0 (gives_0 f) = f

  from-start-2 : StartGives cs c ss su m 2 → length cs ≡ many_constants → ⊥
  from-start-2 (gives_2 h) = h

  from-start-3 : StartGives cs c ss su m 3 → (length cs ≡ many_constants) × (constants_fit cs ≡ false)
  from-start-3 (gives_3 l h) = (l, h)

  from-start-4 : StartGives cs c ss su m 4 → ConstantsTaken cs × (capacity_fits c ≡ false)
  from-start-4 (gives_4 t h) = (t, h)

  from-start-5 : StartGives cs c ss su m 5 → ConstantsTaken cs × (capacity_fits c ≡ true) × (storages_fit c ss su ≡ false)
  from-start-5 (gives_5 t k h) = (t, k, h)

  from-start-6 : StartGives cs c ss su m 6 → ConstantsTaken cs × (capacity_fits c ≡ true) × (storages_fit c ss su ≡ true) × (month_fits m ≡ false)
  from-start-6 (gives_6 t k s h) = (t, k, s, h)

  from-start-21 : StartGives cs c ss su m 21 → (length cs ≡ many_constants) × (constants_fit cs ≡ true) × ZeroK cs
  from-start-21 (gives_21 l f z) = (l, f, z)

-- ---- a month by itself
module _ (p pe : Reading) where
  from-month-0 : MonthGives p pe 0 → Acceptable p × Acceptable pe
  from-month-0 (by_precipitation h g) = absurd (h refl)
  from-month-0 (by_pe g k) = (from-reading-0 p g, from-reading-0 pe k)

  from-month-8 : MonthGives p pe 8 → (p ≡ Missing) ⊎ (Acceptable p × (pe ≡ Missing))
  from-month-8 (by_precipitation h g) = inl (from-reading-8 p g)
  from-month-8 (by_pe g k) = inr (from-reading-0 p g, from-reading-8 pe k)

  to-month-8 : (p ≡ Missing) ⊎ (Acceptable p × (pe ≡ Missing)) → MonthGives p pe 8
  to-month-8 h = ⊎_elim (λ e. by_precipitation (λ z. omega arith) (reading_8 e)) (λ q. by_pe (reading_0 q.0) (reading_8 q.1)) h

  from-month-9 : MonthGives p pe 9 → NotAcceptable p ⊎ (Acceptable p × NotAcceptable pe)
  from-month-9 (by_precipitation h g) = inl (from-reading-9 p g)
  from-month-9 (by_pe g k) = inr (from-reading-0 p g, from-reading-9 pe k)

  to-month-9 : NotAcceptable p ⊎ (Acceptable p × NotAcceptable pe) → MonthGives p pe 9
  to-month-9 h = ⊎_elim (λ e. by_precipitation (λ z. omega arith) (to-reading-9 p e)) (λ q. by_pe (reading_0 q.0) (to-reading-9 pe q.1)) h

from-z-0 : (z : ℤ) → ZGives z 0 → nat_abs z ≤ most_z
from-z-0 z (z_0 h) = h

from-z-12 : (z : ℤ) → ZGives z 12 → most_z < nat_abs z
from-z-12 z (z_12 h) = h

-- ---- an add
module _ (r : Run) (a : Ask) (cs : Book) where
  from-add-0 : AddGives r a cs 0 → Good r cs × ItselfGives a 0 × (r.months < long cs)
  from-add-0 (add_0 g o l) = (g, o, l)

  from-add-1 : AddGives r a cs 1 → columns_fit cs ≡ false
  from-add-1 (add_1 f) = f

  from-add-7 : AddGives r a cs 7 → (columns_fit cs ≡ true) × (is_run_of cs r ≡ false)
  from-add-7 (add_7 f h) = (f, h)

  from-add-8 : AddGives r a cs 8 → Good r cs × ItselfGives a 8
  from-add-8 (add_8 g o) = (g, o)

  from-add-9 : AddGives r a cs 9 → Good r cs × ItselfGives a 9
  from-add-9 (add_9 g o) = (g, o)

  from-add-10 : AddGives r a cs 10 → Good r cs × ItselfGives a 0 × (r.months ≡ long cs)
  from-add-10 (add_10 g o e) = (g, o, e)

  from-add-12 : AddGives r a cs 12 → Good r cs × ItselfGives a 12
  from-add-12 (add_12 g o) = (g, o)

-- of water, whichever call it came by: what it is refused with by itself is what its two readings are
waters : (r : Run) (a : Ask) (p pe : Reading) (cs : Book) (k : ℕ) → ((n : ℕ) → (k ≡ n) ↔ AddGives r a cs n) → ((n : ℕ) → ItselfGives a n ↔ MonthGives p pe n) → WaterTable r p pe cs k
waters r a p pe cs k e same =
    record {
      gives_0 =
          by (e 0) (λ g. let f = from-add-0 r a cs g in let m = from-month-0 p pe ((same 0).0 f.1) in (f.0, m.0, m.1, f.2))
          (λ q. add_0 q.0 ((same 0).1 (by_pe (reading_0 q.1) (reading_0 q.2))) q.3);
      gives_1 = by (e 1) (from-add-1 r a cs) add_1;
      gives_7 = by (e 7) (from-add-7 r a cs) (λ q. add_7 q.0 q.1);
      gives_8 = by (e 8) (λ g. let f = from-add-8 r a cs g in (f.0, from-month-8 p pe ((same 8).0 f.1))) (λ q. add_8 q.0 ((same 8).1 (to-month-8 p pe q.1)));
      gives_9 = by (e 9) (λ g. let f = from-add-9 r a cs g in (f.0, from-month-9 p pe ((same 9).0 f.1))) (λ q. add_9 q.0 ((same 9).1 (to-month-9 p pe q.1)));
      gives_10 =
          by (e 10) (λ g. let f = from-add-10 r a cs g in let m = from-month-0 p pe ((same 0).0 f.1) in (f.0, m.0, m.1, f.2))
          (λ q. add_10 q.0 ((same 0).1 (by_pe (reading_0 q.1) (reading_0 q.2))) q.3);
    }

-- ---- a row, the whole series and a season
module _ (r : Run) (i : ℕ) (cs : Book) where
  from-row-0 : RowGives r i cs 0 → Good r cs × (i < r.months)
  from-row-0 (row_0 g l) = (g, l)

  from-row-1 : RowGives r i cs 1 → columns_fit cs ≡ false
  from-row-1 (row_1 f) = f

  from-row-7 : RowGives r i cs 7 → (columns_fit cs ≡ true) × (is_run_of cs r ≡ false)
  from-row-7 (row_7 f h) = (f, h)

  from-row-11 : RowGives r i cs 11 → Good r cs × (r.months ≤ i)
  from-row-11 (row_11 g l) = (g, l)

module _ (z index : List ℤ) (mark : List ℕ) where
  from-series-0 : SeriesGives z index mark 0 → (lists_fit (length z) (length index) (length mark) ≡ true) × (all_z_fit z ≡ true)
  from-series-0 (series_0 f h) = (f, h)

  from-series-1 : SeriesGives z index mark 1 → lists_fit (length z) (length index) (length mark) ≡ false
  from-series-1 (series_1 f) = f

  from-series-12 : SeriesGives z index mark 12 → (lists_fit (length z) (length index) (length mark) ≡ true) × (all_z_fit z ≡ false)
  from-series-12 (series_12 f h) = (f, h)

module _ (r : Run) (ps pes : List ℤ) (cs : Book) where
  from-season-0 : SeasonGives r ps pes cs 0 → Begins r ps pes cs × Accepted (standing r cs) (months_of ps pes)
  from-season-0 (season-0 b h) = (b, h)

  from-season-1 : SeasonGives r ps pes cs 1 → (length ps ≡ length pes → ⊥) ⊎ (columns_fit cs ≡ false)
  from-season-1 (season-1-lists h) = inl h
  from-season-1 (season-1 f) = inr f

  from-season-7 : SeasonGives r ps pes cs 7 → (length ps ≡ length pes) × (columns_fit cs ≡ true) × (is_run_of cs r ≡ false)
  from-season-7 (season-7 e f h) = (e, f, h)

  from-season-8 : SeasonGives r ps pes cs 8 → Begins r ps pes cs × StopsWith 8 (standing r cs) (months_of ps pes)
  from-season-8 (season-8 b w) = (b, w)

  from-season-9 : SeasonGives r ps pes cs 9 → Begins r ps pes cs × StopsWith 9 (standing r cs) (months_of ps pes)
  from-season-9 (season-9 b w) = (b, w)

  from-season-10 : SeasonGives r ps pes cs 10 → Begins r ps pes cs × StopsWith 10 (standing r cs) (months_of ps pes)
  from-season-10 (season-10 b w) = (b, w)

-- ---- the table
pub table : Table
table =
    record {
      readings = λ r. let e = readings_exactly r in
          record {
            gives_0 = by (e 0) (from-reading-0 r) reading_0;
            gives_8 = by (e 8) (from-reading-8 r) reading_8;
            gives_9 = by (e 9) (from-reading-9 r) (to-reading-9 r);
          };
      starts = λ cs c ss su m. let e = starts_exactly cs c ss su m in
          record {
            gives_0 = by (e 0) (from-start-0 cs c ss su m) gives_0;
            gives_2 = by (e 2) (from-start-2 cs c ss su m) gives_2;
            gives_3 = by (e 3) (from-start-3 cs c ss su m) (λ q. gives_3 q.0 q.1);
            gives_4 = by (e 4) (from-start-4 cs c ss su m) (λ q. gives_4 q.0 q.1);
            gives_5 = by (e 5) (from-start-5 cs c ss su m) (λ q. gives_5 q.0 q.1 q.2);
            gives_6 = by (e 6) (from-start-6 cs c ss su m) (λ q. gives_6 q.0 q.1 q.2 q.3);
            gives_21 = by (e 21) (from-start-21 cs c ss su m) (λ q. gives_21 q.0 q.1 q.2);
          };
      waters = λ r p pe cs. waters r (water p pe) p pe cs _ (adds_exactly r (water p pe) cs) (λ n. (λ g. g, λ g. g));
      inches_too = λ r q cs. waters r (inches q) (Inches q.p) (Inches q.pe) cs _ (adds_exactly r (inches q) cs) (λ n. (λ g. g, λ g. g));
      anomalies = λ r z cs. let e = adds_exactly r (anomaly z) cs in
          record {
            gives_0 = by (e 0) (λ g. let f = from-add-0 r (anomaly z) cs g in (f.0, from-z-0 z f.1, f.2)) (λ q. add_0 q.0 (z_0 q.1) q.2);
            gives_1 = by (e 1) (from-add-1 r (anomaly z) cs) add_1;
            gives_7 = by (e 7) (from-add-7 r (anomaly z) cs) (λ q. add_7 q.0 q.1);
            gives_10 = by (e 10) (λ g. let f = from-add-10 r (anomaly z) cs g in (f.0, from-z-0 z f.1, f.2)) (λ q. add_10 q.0 (z_0 q.1) q.2);
            gives_12 = by (e 12) (λ g. let f = from-add-12 r (anomaly z) cs g in (f.0, from-z-12 z f.1)) (λ q. add_12 q.0 (z_12 q.1));
          };
      seasons = λ r ps pes cs. let e = seasons_exactly r ps pes cs in
          record {
            gives_0 = by (e 0) (from-season-0 r ps pes cs) (λ q. season-0 q.0 q.1);
            gives_1 = by (e 1) (from-season-1 r ps pes cs) (λ h. ⊎_elim season-1-lists season-1 h);
            gives_7 = by (e 7) (from-season-7 r ps pes cs) (λ q. season-7 q.0 q.1 q.2);
            gives_8 = by (e 8) (from-season-8 r ps pes cs) (λ q. season-8 q.0 q.1);
            gives_9 = by (e 9) (from-season-9 r ps pes cs) (λ q. season-9 q.0 q.1);
            gives_10 = by (e 10) (from-season-10 r ps pes cs) (λ q. season-10 q.0 q.1);
          };
      rows = λ r i cs. let e = rows_exactly r i cs in
          record {
            gives_0 = by (e 0) (from-row-0 r i cs) (λ q. row_0 q.0 q.1);
            gives_1 = by (e 1) (from-row-1 r i cs) row_1;
            gives_7 = by (e 7) (from-row-7 r i cs) (λ q. row_7 q.0 q.1);
            gives_11 = by (e 11) (from-row-11 r i cs) (λ q. row_11 q.0 q.1);
          };
      series = λ z index mark. let e = series_exactly z index mark in
          record {
            gives_0 = by (e 0) (from-series-0 z index mark) (λ q. series_0 q.0 q.1);
            gives_1 = by (e 1) (from-series-1 z index mark) series_1;
            gives_12 = by (e 12) (from-series-12 z index mark) (λ q. series_12 q.0 q.1);
          };
    }
