-- What each helper of a statement rules out, so that none of them can be weakened unseen: `agree` of the worked table; `Honest`, `Answers`,
-- `Balances`, `Accepted`, the answers and the figures month after month, `calendar_after`, `marks_with`, `Existing`, `SoilFits`, `NoneFrom` and
-- `count` of the demands; `SameFrom` of a season; `Excepted` and `TurnsAbout` of the mirror; `first_places`, `longer` and `resumed` of longer columns;
-- the records and V month after month, `RecordBalances`, `ZOnly`, `water_mark`, `record_by` and `LastRowEnds` of rows that show the water; `Little`, `plain_figures`,
-- `plain_numbers` and `OneWater` of trace rain. Where a
-- helper is about numbers, one month that it lets through stands beside those that it does not. The cases of specs/Given.antt want no such lemma:
-- each call gives a number exactly where they have it. Assumes nothing.
use mathlib.Core.Path.{◌≡◌, refl, sym, ap, subst}
use mathlib.Core.Bool.{Bool, true, false, ◌&&◌}
use mathlib.Core.Logic.{◌↔◌}
use mathlib.Core.List.{List, [], ◌∷◌, ◌++◌}
use Prim.Native.Nat.{ℕ, ◌+◌, ◌≤◌, ◌<◌}
use native.Mathlib.Omega.{arith}
use lib.IntN.{ℤ, pos, negsuc, nat_abs}
use lib.Ieee.{fin}
use lib.Dec.{lit≤, lit<}
use lib.Signed.{le_z, ◌<ℤ◌, <ℤ_irrefl}
use lib.ListN.{length, get_or}
use Rattle.outline.proofs.Tests.{each}
use Rattle.exact.specs.Worked.{Row as Line, ◌gives◌, minus, agree}
use Rattle.exact.proofs.Z.{le_yes, le-no, ≤ℤ-antisym}
use Rattle.water.specs.Layers.{surface_holds, underlying_holds, SoilFits}
use Rattle.door.specs.Outcome.{no_kinds, accepted, traced, refused}
use Rattle.door.specs.declared.Reading.{Reading}
use Rattle.door.specs.declared.MonthInches.{MonthInches}
use Rattle.ending.specs.Ending.{turn, u_of, v_of, e_of, ending_of}
use Rattle.spells.specs.Spells.{step_of}
use Rattle.spells.specs.declared.With.{With}
use Rattle.modified.specs.Modified.{modified_of}
use Rattle.hindsight.specs.Rule.{X, Row, Shown}
use Rattle.hindsight.specs.Coded.{state_of}
use Rattle.hindsight_laws.specs.Counts.{NoneFrom, count}
use Rattle.starts.specs.Start.{run_for_z}
use Rattle.runs.specs.declared.Run.{Run}
use Rattle.records.specs.Record.{numbers_of}
use Rattle.records.specs.declared.Record.{Record}
use Rattle.refusals.specs.Book.{Book, book}
use Rattle.adding.specs.Figures.{no_figures}
use Rattle.adding.specs.Taken.{Result, result_of, refusal}
use Rattle.adding.specs.declared.Figures.{Figures}
use Rattle.adding.specs.declared.Added.{Added}
use Rattle.season.specs.Season.{SeasonResult}
use Rattle.season.specs.declared.Season.{Season}
use Rattle.demands.specs.Months.{Ask, asked, State, standing, after, after_all, Accepted, answers_to, figures_answered, left_of, water, inches, anomaly, Station, z_for, station_next, figures_for, figures_of_months, record_for, records_of_months, v_of_months, no_row}
use Rattle.demands.specs.Demands.{Answers, Honest, calendar_after, Balances, Existing, by_add, marks_with}
use Rattle.demands.specs.Seasons.{SameFrom}
use Rattle.demands.specs.Mirror.{Excepted, TurnsAbout}
use Rattle.demands.specs.Longer.{first_places, longer, resumed}
use Rattle.demands.specs.Recorded.{RecordBalances, water_mark, ZOnly, record_by, LastRowEnds}
use Rattle.demands.specs.Modified.{modified_of_months, AbatesIn, Kept}
use Rattle.demands.specs.Traces.{Little, plain_figures, plain_numbers, OneWater}
use Rattle.demands.specs.Pinned.{ending_in, soil}
use Rattle.std.specs.Prelude.{Some}

-- two numbers of which the first is above the second
pub apart : {a b : ℤ} → le_z a b ≡ false → a ≡ b → ⊥
apart {a} {b} f e = <ℤ_irrefl (subst (λ (x : ℤ). b <ℤ x) e (le-no a b f))

-- ---- `agree`
abbrev same : Line → Bool
same r = le_z r.given r.said && le_z r.said r.given

-- a table that agrees has the two numbers of every row equal
pub agrees : (before : List Line) (r : Line) (later : List Line) → agree (before ++ (r ∷ later)) ≡ true → r.given ≡ r.said
agrees [] r later h =
    let p = each (le_z r.given r.said) (le_z r.said r.given) (each (same r) (agree later) h).0 in
    ≤ℤ-antisym r.given r.said (le_yes r.given r.said p.0) (le_yes r.said r.given p.1)
agrees (b ∷ before) r later h = agrees before r later (each (same b) (agree (before ++ (r ∷ later))) h).1

-- so 1 and 2 do not agree, either way round, first or behind a row that does
pub disagrees :
    (agree ((pos 1 gives pos 2) ∷ []) ≡ false)
    × (agree ((pos 2 gives pos 1) ∷ []) ≡ false)
    × (agree ((pos 0 gives pos 0) ∷ (pos 1 gives pos 2) ∷ []) ≡ false)
    × (agree ((pos 0 gives pos 0) ∷ (pos 2 gives pos 1) ∷ []) ≡ false)
disagrees = (refl, refl, refl, refl)

-- ---- `Honest`: neither 1 nor 7, and every other number
pub not-honest : (Honest 1 → ⊥) × (Honest 7 → ⊥)
not-honest = ((λ h. h.0 refl), (λ h. h.1 refl))

pub honest : (k : ℕ) → (k ≡ 1 → ⊥) → (k ≡ 7 → ⊥) → Honest k
honest k a b = (a, b)

-- what an add leaves, of its parts
abbrev of : ℕ → ℕ → Figures → Run → Book → Result
of number settled figures run cs = result_of (record { number = number; settled = settled; figures = figures; run = run }) cs

-- ---- `Answers`: no other number; and of a refused call nothing but its refusal, with the run and the columns given
module _ (r : Run) (cs : Book) (k : ℕ) (b : Result) where
  pub answers_number : Answers r cs k b → b.answer.number ≡ k
  answers_number h = h.0

  pub answers-refused : (k ≡ 0 → ⊥) → Answers r cs k b → b ≡ result_of (refusal k r) cs
  answers-refused n h =
      let f = h.1 n in
      let e : of b.answer.number b.answer.settled b.answer.figures b.answer.run b.columns ≡ of k 0 no_figures r cs = rw (h.0, f.0, f.1, f.2, f.3) in
      e

-- ---- `Balances`: P 1,000 with 500 and 2,000 before is ET 400 and RO 300 with 600 and 2,200 after, and none of them is a thousandth more or less
abbrev storing : ℕ → ℕ → Run
storing ss su =
    record {
      months = 1;
      opens = 0;
      calendar = 1;
      soil = record { capacity = 6000; surface = ss; underlying = su };
      values = run_for_z.values;
      constants = run_for_z.constants;
    }

abbrev month : ℕ → ℕ → ℕ → ℕ → ℕ → Result
month p et ro ss su =
    result_of
    (record {
      number = 0;
      settled = 0;
      figures = record {
        water = record { p = p; pe = 0; ls = 0; lu = 0; et = et; r = 0; ro = ro; pr = 0; pro = 0; pl = 0; cafec = pos 0; kinds = no_kinds };
        z = pos 0;
        percent = 0;
        x1 = pos 0;
        x2 = pos 0;
        x3 = pos 0;
        index = pos 0;
        mark = 0;
        modified = pos 0;
      };
      run = storing ss su;
    })
    (book [] [] [] [] [] [] [])

pub balances : Balances (storing 500 2000) (month 1000 400 300 600 2200)
balances = refl

pub loses :
    (Balances (storing 501 2000) (month 1000 400 300 600 2200) → ⊥)
    × (Balances (storing 500 2001) (month 1000 400 300 600 2200) → ⊥)
    × (Balances (storing 500 2000) (month 1001 400 300 600 2200) → ⊥)
    × (Balances (storing 500 2000) (month 1000 399 300 600 2200) → ⊥)
    × (Balances (storing 500 2000) (month 1000 400 299 600 2200) → ⊥)
    × (Balances (storing 500 2000) (month 1000 400 300 599 2200) → ⊥)
    × (Balances (storing 500 2000) (month 1000 400 300 600 2199) → ⊥)
loses = ((λ e. omega arith), (λ e. omega arith), (λ e. omega arith), (λ e. omega arith), (λ e. omega arith), (λ e. omega arith), (λ e. omega arith))

pub gains :
    (Balances (storing 499 2000) (month 1000 400 300 600 2200) → ⊥)
    × (Balances (storing 500 1999) (month 1000 400 300 600 2200) → ⊥)
    × (Balances (storing 500 2000) (month 999 400 300 600 2200) → ⊥)
    × (Balances (storing 500 2000) (month 1000 401 300 600 2200) → ⊥)
    × (Balances (storing 500 2000) (month 1000 400 301 600 2200) → ⊥)
    × (Balances (storing 500 2000) (month 1000 400 300 601 2200) → ⊥)
    × (Balances (storing 500 2000) (month 1000 400 300 600 2201) → ⊥)
gains = ((λ e. omega arith), (λ e. omega arith), (λ e. omega arith), (λ e. omega arith), (λ e. omega arith), (λ e. omega arith), (λ e. omega arith))

-- ---- `Accepted`: no list with a refused month, wherever it stands
pub accepted-each :
    (s : State) (asks : List Ask) (a : Ask) (later : List Ask) → Accepted s (asks ++ (a ∷ later))
    → (asked (after_all s asks).run a (after_all s asks).columns).answer.number ≡ 0
accepted-each s [] a later h = h.0
accepted-each s (b ∷ asks) a later h = accepted-each (after s b) asks a later h.1

-- ---- `answers_to`: of each month its own answer, from what the months before it left, refused or not
pub answers_at : (s : State) (asks : List Ask) (a : Ask) (later : List Ask) (d : Added)
    → get_or (answers_to s (asks ++ (a ∷ later))) (length asks) d ≡ (asked (after_all s asks).run a (after_all s asks).columns).answer
answers_at s [] a later d = refl
answers_at s (b ∷ asks) a later d = answers_at (after s b) asks a later d

-- ---- `figures_answered` and `figures_of_months`: of each month its own, from what the months before it left
pub answered-at : (s : State) (asks : List Ask) (a : Ask) (later : List Ask) (d : Figures)
    → get_or (figures_answered s (asks ++ (a ∷ later))) (length asks) d ≡ (asked (after_all s asks).run a (after_all s asks).columns).answer.figures
answered-at s [] a later d = refl
answered-at s (b ∷ asks) a later d = answered-at (after s b) asks a later d

pub chained-at : (s : Station) (asks : List Ask) (a : Ask) (later : List Ask) (d : Figures)
    → get_or (figures_of_months s (asks ++ (a ∷ later))) (length asks) d ≡ figures_for (state_of station_next s asks) a
chained-at s [] a later d = refl
chained-at s (b ∷ asks) a later d = chained-at (station_next s b) asks a later d

-- ---- `records_of_months` and `v_of_months`: likewise of each month its own
pub record-at : (s : Station) (asks : List Ask) (a : Ask) (later : List Ask) (d : Record)
    → get_or (records_of_months s (asks ++ (a ∷ later))) (length asks) d ≡ record_for (state_of station_next s asks) a
record-at s [] a later d = refl
record-at s (b ∷ asks) a later d = record-at (station_next s b) asks a later d

pub v-at : (s : Station) (asks : List Ask) (a : Ask) (later : List Ask) (d : ℤ)
    → get_or (v_of_months s (asks ++ (a ∷ later))) (length asks) d ≡ (step_of (state_of station_next s asks).values (z_for (state_of station_next s asks) a)).after.v
v-at s [] a later d = refl
v-at s (b ∷ asks) a later d = v-at (station_next s b) asks a later d

-- ---- `modified_of_months`: likewise
pub modified-at : (s : Station) (asks : List Ask) (a : Ask) (later : List Ask) (d : ℤ)
    → get_or (modified_of_months s (asks ++ (a ∷ later))) (length asks) d ≡ modified_of (state_of station_next s asks).values (z_for (state_of station_next s asks) a)
modified-at s [] a later d = refl
modified-at s (b ∷ asks) a later d = modified-at (station_next s b) asks a later d

-- ---- `calendar_after`: after December comes January, and a year later the same month
pub turns-of-the-year : (calendar_after 11 1 ≡ 12) × (calendar_after 12 1 ≡ 1) × (calendar_after 3 0 ≡ 3) × (calendar_after 3 12 ≡ 3) × (calendar_after 1 11999 ≡ 12)
turns-of-the-year = (refl, refl, refl, refl, refl)

-- ---- `marks_with`: the fourth month is added, none, itself, itself and two before it are settled; the fifth place is as it was
pub marks-written :
    (marks_with 0 3 (2 ∷ 1 ∷ 1 ∷ 7 ∷ 8 ∷ []) ≡ 2 ∷ 1 ∷ 1 ∷ 1 ∷ 8 ∷ [])
    × (marks_with 1 3 (2 ∷ 1 ∷ 1 ∷ 7 ∷ 8 ∷ []) ≡ 2 ∷ 1 ∷ 1 ∷ 2 ∷ 8 ∷ [])
    × (marks_with 3 3 (2 ∷ 1 ∷ 1 ∷ 7 ∷ 8 ∷ []) ≡ 2 ∷ 2 ∷ 2 ∷ 2 ∷ 8 ∷ [])
marks-written = (refl, refl, refl)

-- ---- `Existing`: every run that a call hands back, the given one too
pub exists-on : (r : Run) (asks : List Ask) (cs : Book) → Existing r → Existing (after_all (standing r cs) asks).run
exists-on r [] cs e = e
exists-on r (a ∷ later) cs e = let b = asked r a cs in exists-on b.answer.run later b.columns (by_add r a cs e)

-- ---- `SoilFits`: layers that are full, and none a thousandth above its size; a capacity of 100 to 30,000
pub soils-fit : SoilFits (soil 6000 1000 5000) × SoilFits (soil 100 100 0) × SoilFits (soil 30000 1000 29000)
unfolding surface_holds underlying_holds
soils-fit = (
  record { least = omega arith; most = omega arith; surface = omega arith; underlying = omega arith },
  record { least = omega arith; most = omega arith; surface = omega arith; underlying = omega arith },
  record { least = omega arith; most = omega arith; surface = omega arith; underlying = omega arith },
)

pub soils-pass :
    (SoilFits (soil 6000 1001 0) → ⊥)
    × (SoilFits (soil 6000 0 5001) → ⊥)
    × (SoilFits (soil 100 101 0) → ⊥)
    × (SoilFits (soil 100 0 1) → ⊥)
    × (SoilFits (soil 99 0 0) → ⊥)
    × (SoilFits (soil 30001 0 0) → ⊥)
unfolding surface_holds underlying_holds
soils-pass = ((λ f. omega arith), (λ f. omega arith), (λ f. omega arith), (λ f. omega arith), (λ f. omega arith), (λ f. omega arith))

-- ---- `NoneFrom`: no month from there on that decides; `count`: so often, and no other number
pub one-decides : (rows : List Row) (i j : ℕ) (w : With) → i ≤ j → j < length rows → (get_or rows j no_row).decision ≡ Some w → NoneFrom rows i → ⊥
one-decides rows i j w p q e h = let n = h j no_row p q in let k : ◌≡◌ {A = ℕ} 0 1 = cc in omega arith

pub counts : (count 2 (2 ∷ 1 ∷ 2 ∷ 0 ∷ []) ≡ 2) × (count 1 (2 ∷ 1 ∷ 2 ∷ 0 ∷ []) ≡ 1) × (count 3 (2 ∷ 1 ∷ 2 ∷ 0 ∷ []) ≡ 0)
counts = (refl, refl, refl)

-- ---- `SameFrom`: none of the five columns, no number of a record and no V changed at the place itself
abbrev two : ℤ → ℤ → ℤ → ℤ → ℕ → ℤ → ℤ → Book
two x1 x2 x3 index mark number v =
    book (pos 0 ∷ x1 ∷ []) (pos 0 ∷ x2 ∷ []) (pos 0 ∷ x3 ∷ []) (pos 0 ∷ index ∷ []) (0 ∷ mark ∷ []) ((pos 0 ∷ []) ∷ (number ∷ []) ∷ []) (pos 0 ∷ v ∷ [])

abbrev Changed : ℤ → ℤ → ℤ → ℤ → ℕ → ℤ → ℤ → Type 0
Changed x1 x2 x3 index mark number v = SameFrom 1 (two (pos 0) (pos 0) (pos 0) (pos 0) 0 (pos 0) (pos 0)) (two x1 x2 x3 index mark number v) → ⊥

pub changed :
    Changed (pos 1) (pos 0) (pos 0) (pos 0) 0 (pos 0) (pos 0)
    × Changed (pos 0) (pos 1) (pos 0) (pos 0) 0 (pos 0) (pos 0)
    × Changed (pos 0) (pos 0) (pos 1) (pos 0) 0 (pos 0) (pos 0)
    × Changed (pos 0) (pos 0) (pos 0) (pos 1) 0 (pos 0) (pos 0)
    × Changed (pos 0) (pos 0) (pos 0) (pos 0) 1 (pos 0) (pos 0)
    × Changed (pos 0) (pos 0) (pos 0) (pos 0) 0 (pos 1) (pos 0)
    × Changed (pos 0) (pos 0) (pos 0) (pos 0) 0 (pos 0) (pos 1)
changed = (
  (λ h. apart refl (h.x1 1 (omega arith))),
  (λ h. apart refl (h.x2 1 (omega arith))),
  (λ h. apart refl (h.x3 1 (omega arith))),
  (λ h. apart refl (h.index 1 (omega arith))),
  (λ h. let e = h.mark 1 (omega arith) in omega arith),
  (λ h. apart refl (ap (λ (n : List ℤ). get_or n 0 (pos 0)) (h.records 1 (omega arith)))),
  (λ h. apart refl (h.v 1 (omega arith))),
)

-- ---- `Excepted`: an open month with X1 224, X2 -224 and X3 0; not a settled one, nor with an X3, nor with sizes that differ, nor with both 0
abbrev x : ℤ → ℤ → ℤ → X
x x1 x2 x3 = record { x1 = x1; x2 = x2; x3 = x3 }

abbrev shown : ℕ → ℤ → Shown
shown mark index = record { mark = mark; index = index }

abbrev tie : X
tie = x (pos 224) (minus 224) (pos 0)

pub excepted : Excepted tie (shown 1 (minus 224))
excepted = record { is_open = refl; no_x3 = refl; one_size = refl; not_zero = apart refl }

pub not-excepted :
    (Excepted tie (shown 2 (minus 224)) → ⊥)
    × (Excepted (x (pos 224) (minus 224) (pos 1)) (shown 1 (minus 224)) → ⊥)
    × (Excepted (x (pos 224) (minus 225) (pos 0)) (shown 1 (minus 225)) → ⊥)
    × (Excepted (x (pos 0) (pos 0) (pos 0)) (shown 1 (pos 0)) → ⊥)
not-excepted = ((λ h. let e = h.is_open in omega arith), (λ h. apart refl h.no_x3), (λ h. let e = h.one_size in omega arith), (λ h. h.not_zero refl))

-- ---- `TurnsAbout`: no other mark, no settled index that stays, no open one that stays unexcepted, and no excepted one that turns
pub stays-as-it-was :
    (TurnsAbout (x (pos 0) (minus 563) (pos 0)) (shown 2 (minus 563)) (shown 1 (pos 563)) → ⊥)
    × (TurnsAbout (x (pos 0) (minus 563) (pos 0)) (shown 2 (minus 563)) (shown 2 (minus 563)) → ⊥)
    × (TurnsAbout (x (pos 0) (minus 50) (minus 947)) (shown 1 (minus 947)) (shown 1 (minus 947)) → ⊥)
    × (TurnsAbout tie (shown 1 (minus 224)) (shown 1 (pos 224)) → ⊥)
stays-as-it-was = (
  (λ h. let e = h.mark_kept in omega arith),
  (λ h. apart refl (sym (h.settled_turns refl))),
  (λ h. apart refl (sym (h.exactly.1 (λ e. apart refl (sym e.no_x3))))),
  (λ h. apart refl (h.stays excepted).1),
)

-- ---- `first_places` and `longer`: of all seven lists, each its own places, those of the first in front
abbrev one_place : ℕ → Book
one_place n =
    book (pos n ∷ []) (pos (n + 1) ∷ []) (pos (n + 2) ∷ []) (pos (n + 3) ∷ []) ((n + 4) ∷ []) ((pos (n + 5) ∷ []) ∷ []) (pos (n + 6) ∷ [])

abbrev two-places : Book
two-places =
    book (pos 10 ∷ pos 20 ∷ []) (pos 11 ∷ pos 21 ∷ []) (pos 12 ∷ pos 22 ∷ []) (pos 13 ∷ pos 23 ∷ []) (14 ∷ 24 ∷ []) ((pos 15 ∷ []) ∷ (pos 25 ∷ []) ∷ []) (pos 16 ∷ pos 26 ∷ [])

pub places : (longer (one_place 10) (one_place 20) ≡ two-places) × (first_places 1 two-places ≡ one_place 10) × (first_places 2 two-places ≡ two-places)
places = (refl, refl, refl)

-- ---- `resumed`: months added and settled are summed, and all else is the second season's
pub resumes : (s : Season) (u : SeasonResult)
    → ((resumed s u).answer.added ≡ s.added + u.answer.added)
    × ((resumed s u).answer.settled ≡ s.settled + u.answer.settled)
    × ((resumed s u).answer.number ≡ u.answer.number)
    × ((resumed s u).answer.figures ≡ u.answer.figures)
    × (left_of (resumed s u) ≡ left_of u)
resumes s u = (refl, refl, refl, refl, refl)

-- ---- `RecordBalances`: of amounts it is the balance itself, so that `balances`, `loses` and `gains` above are of a record too
abbrev water-record : ℕ → ℕ → ℕ → ℕ → ℕ → ℕ → ℕ → Record
water-record p et ro ss su surface underlying =
    record {
      z = pos 0;
      p = pos p;
      pe = pos 0;
      et = pos et;
      r = pos 0;
      l = pos 0;
      ro = pos ro;
      ss = pos ss;
      su = pos su;
      surface = pos surface;
      underlying = pos underlying;
      water = pos 1;
      modified = pos 0;
      kind = pos 0;
    }

pub record-balances : (p et ro ss su surface underlying : ℕ)
    → RecordBalances (water-record p et ro ss su surface underlying) ↔ Balances (storing ss su) (month p et ro surface underlying)
record-balances p et ro ss su surface underlying = (ap nat_abs, ap pos)

-- ---- `ZOnly`: all of a record but the storages, which are carried, and the modified index, which is the spells'; and no kind of rain
pub z-only-is : (z : ℤ) (m : Record) → ZOnly z m → numbers_of m ≡ z ∷ pos 0 ∷ pos 0 ∷ pos 0 ∷ pos 0 ∷ pos 0 ∷ pos 0 ∷ m.ss ∷ m.su ∷ m.ss ∷ m.su ∷ pos 0 ∷ m.modified ∷ pos 0 ∷ []
z-only-is z m h = rw (h.its_z, h.p, h.pe, h.et, h.r, h.l, h.ro, h.surface, h.underlying, h.no_water, h.no_kind)

-- ---- `water_mark`: of water by either call, and of a Z
pub marks : (p pe : Reading) (q : MonthInches) (z : ℤ) → (water_mark (water p pe) ≡ pos 1) × (water_mark (inches q) ≡ pos 1) × (water_mark (anomaly z) ≡ pos 0)
marks p pe q z = (refl, refl, refl)

-- ---- `record_by`: each number of an answer that a record has, of numbers that all differ
abbrev numbered : Added
numbered =
    record {
      number = 1;
      settled = 2;
      figures = record {
        water = record { p = 11; pe = 12; ls = 13; lu = 14; et = 15; r = 16; ro = 17; pr = 18; pro = 19; pl = 20; cafec = pos 21; kinds = record { p = 35; pe = 36 } };
        z = pos 10;
        percent = 22;
        x1 = pos 23;
        x2 = pos 24;
        x3 = pos 25;
        index = pos 26;
        mark = 28;
        modified = pos 29;
      };
      run = storing 33 34;
    }

pub by_answer :
    numbers_of (record_by (storing 31 32) (anomaly (pos 0)) numbered)
    ≡ pos 10 ∷ pos 11 ∷ pos 12 ∷ pos 15 ∷ pos 16 ∷ pos 27 ∷ pos 17 ∷ pos 31 ∷ pos 32 ∷ pos 33 ∷ pos 34 ∷ pos 0 ∷ pos 29 ∷ pos 35 ∷ []
by_answer = refl

-- ---- `LastRowEnds`: the run of one month stands at 600 and 2,200; its record ends there, and no other amount, nor a negative one, does
abbrev keeping : ℤ → ℤ → Book
keeping surface underlying = book [] [] [] [] [] (ending_in surface underlying ∷ ending_in (pos 0) (pos 0) ∷ []) []

pub ends_there : LastRowEnds (storing 600 2200) (keeping (pos 600) (pos 2200))
ends_there n e = let z : n ≡ 0 = omega arith in rw z (refl, refl)

pub ends-elsewhere :
    (LastRowEnds (storing 600 2200) (keeping (pos 599) (pos 2200)) → ⊥)
    × (LastRowEnds (storing 600 2200) (keeping (pos 601) (pos 2200)) → ⊥)
    × (LastRowEnds (storing 600 2200) (keeping (pos 600) (pos 2199)) → ⊥)
    × (LastRowEnds (storing 600 2200) (keeping (pos 600) (pos 2201)) → ⊥)
    × (LastRowEnds (storing 600 2200) (keeping (minus 600) (pos 2200)) → ⊥)
    × (LastRowEnds (storing 600 2200) (keeping (pos 600) (minus 2200)) → ⊥)
ends-elsewhere = (
  (λ h. apart refl (sym (h 0 refl).0)),
  (λ h. apart refl (h 0 refl).0),
  (λ h. apart refl (sym (h 0 refl).1)),
  (λ h. apart refl (h 0 refl).1),
  (λ h. apart refl (sym (h 0 refl).0)),
  (λ h. apart refl (sym (h 0 refl).1)),
)

-- ---- `AbatesIn`: S2's and S3's months. A drought of -1,000 abates with Z -149 and 1,040, not with -150, steady, or 1,041, ended; and it is no wet spell
abbrev dry : Run
dry =
    record {
      months = 1;
      opens = 0;
      calendar = 1;
      soil = run_for_z.soil;
      values = record { x1 = pos 0; x2 = pos 0; x3 = minus 1000; v = pos 0 };
      constants = [];
    }

pub abates-in : AbatesIn false dry (minus 149) × AbatesIn false dry (pos 1040)
unfolding turn u_of v_of e_of ending_of
abates-in = ((record { lt = tt }, refl), (record { lt = tt }, refl))

pub abates-not : (AbatesIn false dry (minus 150) → ⊥) × (AbatesIn false dry (pos 1041) → ⊥) × (AbatesIn true dry (minus 149) → ⊥)
unfolding turn u_of v_of e_of ending_of
abates-not = ((λ h. let k : ◌≡◌ {A = ℕ} 0 1 = cc in omega arith), (λ h. let k : ◌≡◌ {A = ℕ} 0 1 = cc in omega arith), (λ h. absurd h.0.lt))

-- ---- `Kept`: no other X1, X2, X3, record or V; of index and mark it says nothing
abbrev holding : ℤ → ℤ → ℤ → ℤ → ℕ → List ℤ → ℤ → State
holding x1 x2 x3 index mark numbers v = standing dry (book (x1 ∷ []) (x2 ∷ []) (x3 ∷ []) (index ∷ []) (mark ∷ []) (numbers ∷ []) (v ∷ []))

abbrev held : State
held = holding (pos 1) (pos 2) (pos 3) (pos 4) 5 (pos 6 ∷ []) (pos 7)

pub keeps : Kept held (holding (pos 1) (pos 2) (pos 3) (pos 14) 15 (pos 6 ∷ []) (pos 7)) 0
keeps = record { x1 = refl; x2 = refl; x3 = refl; numbers = refl; v = refl }

pub keeps-not :
    (Kept held (holding (pos 11) (pos 2) (pos 3) (pos 4) 5 (pos 6 ∷ []) (pos 7)) 0 → ⊥)
    × (Kept held (holding (pos 1) (pos 12) (pos 3) (pos 4) 5 (pos 6 ∷ []) (pos 7)) 0 → ⊥)
    × (Kept held (holding (pos 1) (pos 2) (pos 13) (pos 4) 5 (pos 6 ∷ []) (pos 7)) 0 → ⊥)
    × (Kept held (holding (pos 1) (pos 2) (pos 3) (pos 4) 5 (pos 16 ∷ []) (pos 7)) 0 → ⊥)
    × (Kept held (holding (pos 1) (pos 2) (pos 3) (pos 4) 5 (pos 6 ∷ []) (pos 17)) 0 → ⊥)
keeps-not = (
  (λ h. apart refl h.x1),
  (λ h. apart refl h.x2),
  (λ h. apart refl h.x3),
  (λ h. apart refl (ap (λ (n : List ℤ). get_or n 0 (pos 0)) h.numbers)),
  (λ h. apart refl h.v),
)

-- ---- `Little`: the largest trace of each unit, and neither the next number nor zero nor a negative one
pub little : Little 1000 1 (fin false 8589934 (negsuc 33)) × Little 5000 127 (fin false 13636521 (negsuc 29))
little = ((refl, lit≤ tt, lit< tt), (refl, lit≤ tt, lit< tt))

pub not-little :
    (Little 1000 1 (fin false 8589935 (negsuc 33)) → ⊥)
    × (Little 5000 127 (fin false 13636522 (negsuc 29)) → ⊥)
    × (Little 1000 1 (fin false 0 (pos 0)) → ⊥)
    × (Little 1000 1 (fin true 1 (negsuc 33)) → ⊥)
not-little = ((λ h. omega arith), (λ h. omega arith), (λ h. omega arith), (λ h. let k : ◌≡◌ {A = ℕ} 0 1 = cc in omega arith))

-- ---- `plain_figures` and `plain_numbers` leave out the kinds and nothing else
abbrev with_kinds : Figures → ℕ → ℕ → Figures
with_kinds f p pe =
    record {
      water =
          record {
            p = f.water.p;
            pe = f.water.pe;
            ls = f.water.ls;
            lu = f.water.lu;
            et = f.water.et;
            r = f.water.r;
            ro = f.water.ro;
            pr = f.water.pr;
            pro = f.water.pro;
            pl = f.water.pl;
            cafec = f.water.cafec;
            kinds = record { p = p; pe = pe };
          };
      z = f.z;
      percent = f.percent;
      x1 = f.x1;
      x2 = f.x2;
      x3 = f.x3;
      index = f.index;
      mark = f.mark;
      modified = f.modified;
    }

pub plain-but-kinds : (f : Figures) (m : Record)
    → (with_kinds (plain_figures f) f.water.kinds.p f.water.kinds.pe ≡ f) × (plain_numbers (numbers_of m) ++ (m.kind ∷ []) ≡ numbers_of m)
plain-but-kinds f m = (refl, refl)

-- ---- `OneWater`: a trace is alike to none; a thousandth, or a refusal, is not
pub one-water : OneWater traced (accepted 0) × (OneWater traced (accepted 1) → ⊥) × (OneWater traced (refused 8) → ⊥)
one-water = ((refl, refl), (λ h. omega arith), (λ h. omega arith))
