-- WET AND DRY ARE MIRRORS (document 02, E13): "Show that for any list of accepted Z, changing every sign swaps X1 with X2 in size, turns X3 and
-- each settled index about, and keeps each percent and mark. Along the way show that, from a fresh run, a drought that ends never leaves X2 at
-- or below -1,000. Provisional indexes are excepted when X1 and X2 tie in size." Said of adds one by one (`Mirrors`, `Anywhere`), of the
-- whole series (`SeriesMirrors`) and of spells that end (`Ends`); proofs/Mirror.antt and, of the last, proofs/Ends.antt prove them. Laws that tempt and do not hold are refuted in proofs/Tempting.antt. The words `asked`, `after_all` and `Accepted` are in Months.antt
-- beside this file. Assumes nothing.
use Rattle.std.specs.Prelude.{◌≡◌, true, ◌↔◌, List, ◌∷◌, map, ℕ, suc, ◌≤◌, ◌<◌, ℤ, pos, neg_ℤ, nat_abs, ◌≤ℤ◌, ◌<ℤ◌, length, get_or, replicate}
use Rattle.outline.specs.Numbers.{in_force_beyond}
use Rattle.spell_laws.specs.Months.{x1_of, x2_of}
use Rattle.spell_laws.specs.Mirror.{mirror}
use Rattle.hindsight.specs.Rule.{X, Shown}
use Rattle.hindsight.specs.Columns.{x_at}
use Rattle.hindsight.specs.Months.{rows_of_z}
use Rattle.runs.specs.declared.Run.{Run}
use Rattle.series.specs.Series.{whole_series}
use Rattle.refusals.specs.Book.{long, columns_fit}
use Rattle.adding.specs.declared.Figures.{Figures}
use Rattle.adding.specs.declared.Added.{Added}
use Rattle.demands.specs.Months.{Ask, anomaly, asked, State, Accepted, no_row}
use Rattle.demands.specs.Demands.{Fresh, first, now}

-- ---- the words

-- "changing every sign"
abbrev pub turned : List ℤ → List ℤ
turned zs = map neg_ℤ zs

-- "swaps X1 with X2 in size, turns X3 .. about"
abbrev pub mirror_x : X → X
mirror_x x = record { x1 = neg_ℤ x.x2; x2 = neg_ℤ x.x1; x3 = neg_ℤ x.x3 }

-- the run that holds the same, with V about as well (`mirror`). Nothing else of it changes: months, open months, calendar, soil and constants
abbrev pub mirror_run : Run → Run
mirror_run r =
    record {
      months = r.months;
      opens = r.opens;
      calendar = r.calendar;
      soil = r.soil;
      values = mirror r.values;
      constants = r.constants;
    }

-- "Provisional indexes are excepted when X1 and X2 tie in size": a month with the values x that shows mark and index a is open, its X3 is 0,
-- and its X1 and X2 are of one size and not 0
pub record Excepted (x : X) (a : Shown) : Type 0 where
  pub is_open : a.mark ≡ 1
  pub no_x3 : x.x3 ≡ pos 0
  pub one_size : nat_abs x.x1 ≡ nat_abs x.x2
  pub not_zero : x.x1 ≡ pos 0 → ⊥

-- a month with the values x shows a, and with every sign changed it shows b
pub record TurnsAbout (x : X) (a b : Shown) : Type 0 where
  -- "keeps each .. mark"
  pub mark_kept : b.mark ≡ a.mark
  -- "turns .. each settled index about"
  pub settled_turns : a.mark ≡ 2 → b.index ≡ neg_ℤ a.index
  -- a provisional one too: the index turns about exactly where the month is not excepted,
  pub exactly : (b.index ≡ neg_ℤ a.index) ↔ (Excepted x a → ⊥)
  -- and where it is, the index stays, and is X2
  pub stays : Excepted x a → (a.index ≡ x.x2) × (b.index ≡ x.x2)

-- what an add's figures have of its month: X1, X2 and X3; mark and index
abbrev pub values_in : Figures → X
values_in f = record { x1 = f.x1; x2 = f.x2; x3 = f.x3 }

abbrev pub shown_in : Figures → Shown
shown_in f = record { mark = f.mark; index = f.index }

-- an add answers a, and with every sign changed it answers b: all that an answer has
pub record AnswersTurned (a b : Added) : Type 0 where
  -- taken or refused alike
  pub number : b.number ≡ a.number
  -- "keeps each percent", and each settled count; no column has them
  pub percent : b.figures.percent ≡ a.figures.percent
  pub settled : b.settled ≡ a.settled
  pub z : b.figures.z ≡ neg_ℤ a.figures.z
  pub water : b.figures.water ≡ a.figures.water
  pub values : values_in b.figures ≡ mirror_x (values_in a.figures)
  pub shown : TurnsAbout (values_in a.figures) (shown_in a.figures) (shown_in b.figures)
  pub run : b.run ≡ mirror_run a.run

-- ---- a list of Z added one by one to a fresh run
module _ (f : Fresh) where
  -- the run and the columns after them
  abbrev pub given : List ℤ → State
  given zs = now f (map anomaly zs)

  -- "accepted Z"
  abbrev pub Given : List ℤ → Type 0
  Given zs = Accepted (first f) (map anomaly zs)

  -- what the add of one Z more answers
  abbrev pub answer : List ℤ → ℤ → Added
  answer zs z = (asked (given zs).run (anomaly z) (given zs).columns).answer

  -- what the columns hold of the month at place i: X1, X2 and X3; mark and index
  abbrev pub values_at : List ℤ → ℕ → X
  values_at zs i = x_at (given zs).columns.x1 (given zs).columns.x2 (given zs).columns.x3 i

  abbrev pub shown_at : List ℤ → ℕ → Shown
  shown_at zs i = record { mark = get_or (given zs).columns.mark i 0; index = get_or (given zs).columns.index i (pos 0) }

  pub record Mirrors : Type 0 where
    -- "for any list of accepted Z, changing every sign": no Z of the turned list is refused either
    pub accepted : (zs : List ℤ) → Given zs → Given (turned zs)
    -- "swaps X1 with X2 in size, turns X3 .. about": of every month, in the columns
    pub values : (zs : List ℤ) → Given zs → (i : ℕ) → i < length zs → values_at (turned zs) i ≡ mirror_x (values_at zs i)
    -- "and each settled index", and provisional ones but those excepted, "and keeps each .. mark"
    pub shown : (zs : List ℤ) → Given zs → (i : ℕ) → i < length zs → TurnsAbout (values_at zs i) (shown_at zs i) (shown_at (turned zs) i)
    -- V, in the run that the last of them handed back
    pub run : (zs : List ℤ) → Given zs → (given (turned zs)).run ≡ mirror_run (given zs).run
    -- "keeps each percent": and all that the add of one Z more answers, accepted or not
    pub answers : (zs : List ℤ) (z : ℤ) → Given zs → AnswersTurned (answer zs z) (answer (turned zs) (neg_ℤ z))

-- the two lists need not be given to one station: on any two fresh runs, whatever the constants, the soil, the month and the columns, a list of Z
-- leaves the same months and the same running values
pub record Anywhere : Type 0 where
  pub months :
      (f g : Fresh) (zs : List ℤ)
      → Given f zs → Given g zs → (i : ℕ) → i < length zs
      → (values_at g zs i ≡ values_at f zs i)
      × (shown_at g zs i ≡ shown_at f zs i)
  pub values :
      (f g : Fresh) (zs : List ℤ)
      → Given f zs → Given g zs
      → (given g zs).run.values ≡ (given f zs).run.values

-- ---- the whole series, from lists that hold anything

-- X1, X2 and X3 of the month at place i, by the rules of spells
abbrev pub values_of : List ℤ → ℕ → X
values_of zs i = (get_or (rows_of_z zs) i no_row).x

-- what the two lists hold of it afterwards
abbrev pub filled_at : List ℤ → List ℤ → List ℕ → ℕ → Shown
filled_at zs index mark i = record { mark = get_or (whole_series zs index mark).mark i 0; index = get_or (whole_series zs index mark).index i (pos 0) }

pub record SeriesMirrors : Type 0 where
  -- the same number, refused or not, and the same marks, all of them
  pub number : (zs index : List ℤ) (mark : List ℕ) → (whole_series (turned zs) index mark).number ≡ (whole_series zs index mark).number
  pub marks : (zs index : List ℤ) (mark : List ℕ) → (whole_series (turned zs) index mark).mark ≡ (whole_series zs index mark).mark
  pub shown :
      (zs index : List ℤ) (mark : List ℕ) → (whole_series zs index mark).number ≡ 0 → (i : ℕ) → i < length zs
      → TurnsAbout (values_of zs i) (filled_at zs index mark i) (filled_at (turned zs) index mark i)

-- ---- "from a fresh run, a drought that ends never leaves X2 at or below -1,000"

-- 46 months: Z -6,000 founds a drought of -2,000, 3,700 abates it to -561, 43 times -180 draws X2 to X3, and -94 ends it
abbrev pub reaching : List ℤ
reaching = neg_ℤ (pos 6000) ∷ pos 3700 ∷ replicate 43 (neg_ℤ (pos 180))

abbrev pub ending : ℤ
ending = neg_ℤ (pos 94)

module _ (f : Fresh) where
  -- the run after months of water or of Z, and what the add of one more answers
  abbrev before : List Ask → Run
  before asks = (now f asks).run

  abbrev next : List Ask → Ask → Added
  next asks a = (asked (before asks) a (now f asks).columns).answer

  pub record Ends : Type 0 where
    -- a drought was in force and the percent is 100: X2 of the month, before it may found a spell, is -550 or above. So it founds none, and
    -- neither X2 nor X3 that the month leaves is further down
    pub drought :
        (asks : List Ask) (a : Ask) → Accepted (first f) asks → (next asks a).number ≡ 0
        → (before asks).values.x3 <ℤ neg_ℤ (pos in_force_beyond) → (next asks a).figures.percent ≡ 100
        → (neg_ℤ (pos 550) ≤ℤ x2_of (before asks).values (next asks a).figures.z)
        × (neg_ℤ (pos 550) ≤ℤ (next asks a).figures.x2)
        × (pos 0 ≤ℤ (next asks a).figures.x3)
    -- "Wet spell: the mirror"
    pub wet :
        (asks : List Ask) (a : Ask) → Accepted (first f) asks → (next asks a).number ≡ 0
        → pos in_force_beyond <ℤ (before asks).values.x3 → (next asks a).figures.percent ≡ 100
        → (x1_of (before asks).values (next asks a).figures.z ≤ℤ pos 550)
        × ((next asks a).figures.x1 ≤ℤ pos 550)
        × ((next asks a).figures.x3 ≤ℤ pos 0)
    -- -550 is reached, on any columns that have the room
    pub reached :
        columns_fit f.columns ≡ true → suc (length reaching) ≤ long f.columns
        → let r = before (map anomaly reaching) in let n = next (map anomaly reaching) (anomaly ending) in
        Accepted (first f) (map anomaly reaching)
        × (n.number ≡ 0)
        × (r.values.x3 <ℤ neg_ℤ (pos in_force_beyond))
        × (n.figures.percent ≡ 100)
        × (n.figures.x2 ≡ neg_ℤ (pos 550))
