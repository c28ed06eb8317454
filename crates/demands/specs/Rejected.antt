-- PROGRAMS THAT MUST BE REJECTED (document 01, "What the promises are held to"). A program that adds months is any function from what is handed
-- in, a run, a month and all that is lent, to what it leaves. It keeps the promise of its call where it gives what the promise's definition
-- gives, for every input (`Keeps`). `Rejects` says of a program that it is wrong in none of the ways that the document names: each field takes
-- that the program is wrong so, and comes to a contradiction. `z-rejects`, `water-rejects` and `inches-rejects` of proofs/Rejected.antt
-- prove it of every program that keeps the promise of an added Z, of water by two readings, and of water by two binary32 inches. Wrong seasons
-- stand in proofs/SeasonRejected.antt. Assumes nothing.
use Rattle.std.specs.Prelude.{◌≡◌, true, List, [], ◌∷◌, ℕ, ◌≤◌, ℤ, pos, get_or}
use Rattle.outline.specs.Refusals.{full, no_such_row}
use Rattle.door.specs.declared.Reading.{Reading}
use Rattle.runs.specs.declared.Run.{Run}
use Rattle.refusals.specs.Book.{Book, long, columns_fit}
use Rattle.refusals.specs.Refusals.{is_run_of}
use Rattle.adding.specs.Taken.{Result}
use Rattle.drought.specs.declared.Shown.{Shown}
use Rattle.demands.specs.Months.{Ask, water, asked}
use Rattle.demands.specs.Demands.{Fresh, first}

-- ---- the words

-- a program that adds months of one kind: a Z, two readings, or two binary32 inches
abbrev pub Adds : Type 0 → Type 0
Adds A = Run → A → Book → Result

-- it keeps the promise of its call
abbrev pub Keeps : {A : Type 0} → (A → Ask) → Adds A → Type 0
Keeps {A} ask f = (r : Run) (a : A) (cs : Book) → f r a cs ≡ asked r (ask a) cs

-- two readings, as one month
abbrev pub readings : Reading × Reading → Ask
readings q = water q.0 q.1

-- each month that the program accepts is wrong in this way, which looks at what was handed in, and at what is left
abbrev pub EachMonth : {A : Type 0} → Adds A → (Run → A → Book → Result → Type 0) → Type 0
EachMonth {A} f wrong = (r : Run) (a : A) (cs : Book) → (f r a cs).answer.number ≡ 0 → wrong r a cs (f r a cs)

-- what the program leaves of a month that it adds to what another left, and of months one after the other
abbrev pub next : {A : Type 0} → Adds A → Result → A → Result
next f b a = f b.answer.run a b.columns

abbrev pub last : {A : Type 0} → Adds A → Result → List A → Result
last f b [] = b
last f b (a ∷ later) = last f (next f b a) later

-- it accepts each of them
abbrev pub AllTaken : {A : Type 0} → Adds A → Result → List A → Type 0
AllTaken f b [] = Unit {0}
AllTaken f b (a ∷ later) = ((next f b a).answer.number ≡ 0) × AllTaken f (next f b a) later

-- ---- "These must be rejected:"
pub record Rejects {A : Type 0} (f : Adds A) : Type 0 where
  -- "a run that refuses all months (1 with the exact refusal conditions)"
  pub refuses_all_months : ((r : Run) (a : A) (cs : Book) → (f r a cs).answer.number ≡ 0 → ⊥) → ⊥
  -- "one fixed index": in the figures,
  pub one_fixed_index : (k : ℤ) → EachMonth f (λ r a cs b. b.answer.figures.index ≡ k) → ⊥
  -- and in the column
  pub one_fixed_column : (k : ℤ) → EachMonth f (λ r a cs b. get_or b.columns.index r.months (pos 0) ≡ k) → ⊥
  -- "or columns left untouched (2)": all of them,
  pub columns_untouched : EachMonth f (λ r a cs b. b.columns ≡ cs) → ⊥
  -- any one of the five,
  pub x1_untouched : EachMonth f (λ r a cs b. b.columns.x1 ≡ cs.x1) → ⊥
  pub x2_untouched : EachMonth f (λ r a cs b. b.columns.x2 ≡ cs.x2) → ⊥
  pub x3_untouched : EachMonth f (λ r a cs b. b.columns.x3 ≡ cs.x3) → ⊥
  pub index_untouched : EachMonth f (λ r a cs b. b.columns.index ≡ cs.index) → ⊥
  pub mark_untouched : EachMonth f (λ r a cs b. b.columns.mark ≡ cs.mark) → ⊥
  -- and E6's records or V
  pub records_untouched : EachMonth f (λ r a cs b. b.columns.records ≡ cs.records) → ⊥
  pub v_untouched : EachMonth f (λ r a cs b. b.columns.v ≡ cs.v) → ⊥
  -- "a run that reckons the first month and repeats its figures": even where the second month is the same as the first,
  pub first_month_repeated : EachMonth f (λ r a cs b. (next f b a).answer.number ≡ 0 → (next f b a).answer.figures ≡ b.answer.figures) → ⊥
  -- and "(2 over sequences)": on every run that a start gives the last of any accepted months has the first one's figures
  pub figures-repeated :
      ((s : Fresh) (a : A) (later : List A)
      → let b = f (first s).run a s.columns in b.answer.number ≡ 0 → AllTaken f b later → (last f b later).answer.figures ≡ b.answer.figures)
      → ⊥
  -- "marks that stay open for good (3)"
  pub marks_stay_open : EachMonth f (λ r a cs b. (i : ℕ) → get_or cs.mark i 0 ≡ 1 → get_or b.columns.mark i 0 ≡ 1) → ⊥
  -- "a made-up settled count (it equals the marks the call writes as 2)", which is `Demand3.writes`: one and the same for every month,
  pub made_up_count : (k : ℕ) → EachMonth f (λ r a cs b. b.answer.settled ≡ k) → ⊥
  -- or of the call's own month alone
  pub own_month_counted : EachMonth f (λ r a cs b. b.answer.settled ≤ 1) → ⊥

-- ---- and refusals in another order

-- "At an add of water: 1, 7, precipitation 8 or 9, PE 8 or 9, 10. At an add of Z: 1, 7, 12, 10": one that asks for room before it looks at the
-- month
abbrev pub RoomFirst : {A : Type 0} → Adds A → Type 0
RoomFirst {A} f = (r : Run) (a : A) (cs : Book) → columns_fit cs ≡ true → is_run_of cs r ≡ true → r.months ≡ long cs → (f r a cs).answer.number ≡ full

-- "Row: 1, 7, 11": one that looks at the row's number before it looks at the run
abbrev pub PlaceFirst : (Run → ℕ → Book → Shown) → Type 0
PlaceFirst f = (r : Run) (i : ℕ) (cs : Book) → columns_fit cs ≡ true → r.months ≤ i → (f r i cs).number ≡ no_such_row
