-- TRACE RAIN (document 02, E7): "Observers write a trace when rain fell but too little to measure, and our sheets printed it as dry. The reading answer must tell
-- three things apart: none, trace (above zero, nearest thousandth 0), and measured. A trace counts as no water. Reading, month, list and row answers all carry it,
-- one more column keeps precipitation's, and every caller's promise is restated. A whole-number reading of 0 is none, as is a Z-only month." What a reading answers
-- is `reading`, in the crate `door`, specs/Readings.antt; the kinds of a month's two readings are `kinds_for`, in Months.antt beside this file. That later months leave
-- a month's kind as it is stands in Modified.antt, `SecondEdition.fixed`, which is over the whole record. `trace_rain` of proofs/Traces.antt proves it. Assumes nothing.
use Rattle.std.specs.Prelude.{◌≡◌, false, ◌↔◌, List, [], ◌∷◌, map, ℕ, ◌*◌, ◌≤◌, ◌<◌, ℤ, pos, Float, length, get_or, take}
use Rattle.std.specs.Float.{nan, inf, fin}
use Rattle.std.specs.Float.Ieee.{up, down}
use Rattle.door.specs.Outcome.{Outcome, none, trace, measured, no_kinds}
use Rattle.door.specs.Readings.{reading, month}
use Rattle.door.specs.declared.Reading.{Reading}
use Rattle.door.specs.declared.Reading.TheVariants.{Whole, Inches, Millimetres, Missing}
use Rattle.door.specs.declared.MonthInches.{MonthInches}
use Rattle.runs.specs.declared.Run.{Run}
use Rattle.refusals.specs.Book.{Book, book}
use Rattle.adding.specs.Taken.{Result, result_of}
use Rattle.adding.specs.declared.WaterFigures.{WaterFigures}
use Rattle.adding.specs.declared.Figures.{Figures}
use Rattle.drought.specs.Calls.{row_of_run}
use Rattle.season.specs.Season.{add_season}
use Rattle.demands.specs.Months.{Ask, water, inches, anomaly, asked, State, after_all, Accepted, kinds_for}
use Rattle.demands.specs.Demands.{Fresh, first, now}
use Rattle.demands.specs.Recorded.{month_at}

-- ---- the words

-- above zero and less than half of a thousandth, where one is per / of thousandths: the exact value of the number is (m * up e) / (down e)
abbrev pub Little : ℕ → ℕ → Float → Type 0
Little per of nan = ⊥
Little per of (inf s) = ⊥
Little per of (fin s m e) = (s ≡ false) × (1 ≤ m) × (2 * (m * up e * per) < down e * of)

-- a reading that is a trace: so little in inches or in millimetres
abbrev pub IsTrace : Reading → Type 0
IsTrace (Whole n) = ⊥
IsTrace (Inches x) = Little 1000 1 x
IsTrace (Millimetres x) = Little 5000 127 x
IsTrace Missing = ⊥

-- ---- all but the kinds: figures with none, a record's numbers but its last, and so what a call answers and leaves
abbrev pub plain_water : WaterFigures → WaterFigures
plain_water w =
    record {
      p = w.p;
      pe = w.pe;
      ls = w.ls;
      lu = w.lu;
      et = w.et;
      r = w.r;
      ro = w.ro;
      pr = w.pr;
      pro = w.pro;
      pl = w.pl;
      cafec = w.cafec;
      kinds = no_kinds;
    }

abbrev pub plain_figures : Figures → Figures
plain_figures f =
    record {
      water = plain_water f.water;
      z = f.z;
      percent = f.percent;
      x1 = f.x1;
      x2 = f.x2;
      x3 = f.x3;
      index = f.index;
      mark = f.mark;
      modified = f.modified;
    }

abbrev pub plain_numbers : List ℤ → List ℤ
plain_numbers n = take 13 n

abbrev pub plain_book : Book → Book
plain_book cs = book cs.x1 cs.x2 cs.x3 cs.index cs.mark (map plain_numbers cs.records) cs.v

abbrev pub plain_result : Result → Result
plain_result b =
    result_of (record { number = b.answer.number; settled = b.answer.settled; figures = plain_figures b.answer.figures; run = b.answer.run })
    (plain_book b.columns)

-- ---- readings of one number and one water, whatever their kinds; months of such readings; and lists of such months
abbrev pub OneWater : Outcome → Outcome → Type 0
OneWater o u = (o.number ≡ u.number) × (o.water ≡ u.water)

abbrev pub Alike : Ask → Ask → Type 0
Alike (water p pe) (water q qe) = OneWater (reading p) (reading q) × OneWater (reading pe) (reading qe)
Alike (water p pe) (inches q) = OneWater (reading p) (month q).p × OneWater (reading pe) (month q).pe
Alike (water p pe) (anomaly z) = ⊥
Alike (inches m) (water q qe) = OneWater (month m).p (reading q) × OneWater (month m).pe (reading qe)
Alike (inches m) (inches q) = OneWater (month m).p (month q).p × OneWater (month m).pe (month q).pe
Alike (inches m) (anomaly z) = ⊥
Alike (anomaly y) (water q qe) = ⊥
Alike (anomaly y) (inches q) = ⊥
Alike (anomaly y) (anomaly z) = y ≡ z

abbrev pub AllAlike : List Ask → List Ask → Type 0
AllAlike [] [] = Unit {0}
AllAlike [] (b ∷ others) = ⊥
AllAlike (a ∷ asks) [] = ⊥
AllAlike (a ∷ asks) (b ∷ others) = Alike a b × AllAlike asks others

pub record TraceRain : Type 0 where
  -- "none, trace .., and measured": each exactly when, for every bit pattern; no reading has another kind,
  pub a_trace : (r : Reading) → ((reading r).kind ≡ trace) ↔ IsTrace r
  pub is_measured : (r : Reading) → ((reading r).kind ≡ measured) ↔ (1 ≤ (reading r).water)
  pub is_none : (r : Reading) → ((reading r).kind ≡ none) ↔ (((reading r).water ≡ 0) × (IsTrace r → ⊥))
  -- "A trace counts as no water": it is done, and its water is 0
  pub no_water : (r : Reading) → IsTrace r → ((reading r).number ≡ 0) × ((reading r).water ≡ 0)
  -- two inches that arrive together are told apart as each by itself
  pub together : (q : MonthInches) → ((month q).p ≡ reading (Inches q.p)) × ((month q).pe ≡ reading (Inches q.pe))
  -- "month .. answers": on any lists, an accepted add answers with the kinds of its two readings, a Z-only month's none
  pub answered : (r : Run) (a : Ask) (cs : Book) → (asked r a cs).answer.number ≡ 0 → (asked r a cs).answer.figures.water.kinds ≡ kinds_for a
  -- "list .. answers": a season's figures are the last month's, as ever; its lists are of whole thousandths, and never say trace
  pub seasons : (r : Run) (ps pes : List ℤ) (cs : Book) → let k = (add_season r ps pes cs).answer.figures.water.kinds in (k.p ≡ trace → ⊥) × (k.pe ≡ trace → ⊥)
  -- "one more column keeps precipitation's",
  pub recorded :
      (f : Fresh) (asks : List Ask) → Accepted (first f) asks → (i : ℕ) → i < length asks
      → (month_at (now f asks) i).kind ≡ pos (get_or (map (λ (a : Ask). (kinds_for a).p) asks) i none)
  -- and "row answers" carry it
  pub shown :
      (f : Fresh) (asks : List Ask) → Accepted (first f) asks → (i : ℕ) → i < length asks
      → (row_of_run (now f asks).run i (now f asks).columns).month.kind ≡ pos (get_or (map (λ (a : Ask). (kinds_for a).p) asks) i none)
  -- WHAT A MONTH IS DOES NOT DEPEND ON THE KIND: adds of one number and one water, to lists that differ in no more than kinds, refused or not, answer and
  -- leave the same but for the kinds. So no water figure, index, mark or refusal of any call is another than it was
  pub plain :
      (r : Run) (a b : Ask) (cs ds : Book) → Alike a b → plain_book cs ≡ plain_book ds
      → plain_result (asked r a cs) ≡ plain_result (asked r b ds)
  -- month after month
  pub plain-months :
      (s t : State) (asks others : List Ask) → AllAlike asks others → s.run ≡ t.run → plain_book s.columns ≡ plain_book t.columns
      → ((after_all s asks).run ≡ (after_all t others).run) × (plain_book (after_all s asks).columns ≡ plain_book (after_all t others).columns)
