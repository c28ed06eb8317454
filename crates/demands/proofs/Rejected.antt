-- WRONG PROGRAMS, and that none keeps the promise of its call, as specs/Rejected.antt states it. A program that gives what the promise's
-- definition gives, for every input, is that definition; so it is enough that the definition is wrong in none of these ways. That is shown on
-- months that are worked out here, by computation: the theorems are proved once over such months of any kind (`Telling`), which are then
-- given for a Z, for two readings and for two binary32 inches. Assumes nothing.
use mathlib.Core.Path.{◌≡◌, refl, sym, ap, ◌∙◌, subst⁻¹}
use mathlib.Core.Bool.{true, false}
use mathlib.Core.List.{List, [], ◌∷◌}
use Prim.Native.Nat.{ℕ, zero, suc}
use native.Mathlib.Omega.{arith}
use lib.IntN.{ℤ, pos, negsuc, nat_abs}
use lib.ListN.{get_or, replicate}
use lib.Ieee.{Float, nan, fin}
use Rattle.exact.specs.Nearest.{nearest, nearest_ℕ}
use Rattle.exact.specs.Next.{next_of}
use Rattle.exact.specs.Worked.{minus}
use Rattle.door.specs.Exact.{within, above_zero, nearest_to}
use Rattle.door.specs.Readings.{whole, converted, inches as inInches, reading, month}
use Rattle.door.specs.declared.Reading.{Reading}
use Rattle.door.specs.declared.Reading.TheVariants.{Whole, Missing}
use Rattle.door.specs.declared.MonthInches.{MonthInches}
use Rattle.water.specs.Layers.{surface_holds, underlying_holds}
use Rattle.water.specs.Balance.{under_loss, loss_surface, loss_underlying, dry_month, to_surface, to_underlying, wet_month, balance_of}
use Rattle.water.specs.Expected.{potential_surface, potential_underlying, potentials_of, n_of, cafec_of, z_of, expected_of, month_of}
use Rattle.spells.specs.Spells.{raised, lowered, larger_in_size, provisional, steady_month, abating_values, abating_month, founded, unfounded, tried, no_spell, ending_month, in_force, step_of}
use Rattle.ending.specs.Ending.{turn, u_of, v_of, e_of, q_of, ending_of, percent_of}
use Rattle.ranges.specs.Ranges.{limit_of, constant_fits, constants_fit_to, calendar_fits}
use Rattle.calendar.specs.Calendar.{constants_at, zero_k_within, next_calendar}
use Rattle.runs.specs.Runs.{soil_fits, sizes_fit, signs_fit, v_fits, is_run}
use Rattle.outline.specs.Numbers.{length_fits, z_fits}
use Rattle.starts.specs.Start.{capacity_fits, storages_fit, month_fits, start_refusal, fresh_run}
use Rattle.runs.specs.declared.Run.{Run}
use Rattle.records.specs.Record.{no_record, numbers_of, record_at}
use Rattle.records.specs.Ends.{amounts, ends_meet}
use Rattle.refusals.specs.Book.{Book, book, long, lengths_fit, columns_fit}
use Rattle.refusals.specs.Refusals.{is_run_for, is_run_of, run_refusal, room_refusal, water_refusal, z_refusal, row_refusal}
use Rattle.adding.specs.Taken.{Result, taken, taken_water}
use Rattle.adding.specs.declared.Figures.{Figures}
use Rattle.drought.specs.Calls.{add_outcomes, add_water, add_inches, add_z, row_of_run}
use Rattle.drought.specs.declared.Shown.{Shown}
use Rattle.demands.specs.Months.{Ask, inches, anomaly, asked}
use Rattle.demands.specs.Demands.{Fresh}
use Rattle.demands.specs.Rejected.{Adds, Keeps, readings, next, Rejects, RoomFirst, PlaceFirst}

-- ---- what the months are added to
-- columns of n places, with records all 0 and V 9
abbrev pub blank : ℕ → Book
blank n =
    book (replicate n (pos 0)) (replicate n (pos 0)) (replicate n (pos 0)) (replicate n (pos 0)) (replicate n 0) (replicate n (numbers_of no_record))
    (replicate n (pos 9))

-- the constants of n months: alpha and K are 1, the others 0, so that Z is P - PE
abbrev plain : ℕ → List ℤ
plain zero = []
plain (suc n) = pos 10000 ∷ pos 0 ∷ pos 0 ∷ pos 0 ∷ pos 10000 ∷ plain n

-- a run as a start gives it
abbrev begun : Run
begun = fresh_run (plain 12) (pos 6000) (pos 0) (pos 0) (pos 1)

is-started : start_refusal (plain 12) (pos 6000) (pos 0) (pos 0) (pos 1) ≡ 0
unfolding limit_of constant_fits constants_fit_to constants_at zero_k_within surface_holds underlying_holds capacity_fits storages_fit month_fits start_refusal
is-started = refl

abbrev station : Fresh
station = record { constants = plain 12; capacity = pos 6000; surface = pos 0; underlying = pos 0; month = pos 1; columns = blank 3; started = is-started }

-- ---- what a month tells, in size: the settled count and the index that are answered; then what the columns hold at a place, and of its record
-- the Z, and V
record Seen : Type 0 where
  number : ℕ
  settled : ℕ
  figure : ℕ
  x1 : ℕ
  x2 : ℕ
  x3 : ℕ
  index : ℕ
  mark : ℕ
  z : ℕ
  v : ℕ

-- of a month that is taken
abbrev row : ℕ → ℕ → ℕ → ℕ → ℕ → ℕ → ℕ → ℕ → ℕ → Seen
row settled figure x1 x2 x3 index mark z v =
    record { number = 0; settled = settled; figure = figure; x1 = x1; x2 = x2; x3 = x3; index = index; mark = mark; z = z; v = v }

abbrev at : ℕ → List ℤ → ℕ
at i l = nat_abs (get_or l i (pos 0))

abbrev z-at : ℕ → List (List ℤ) → ℕ
z-at i l = nat_abs (record_at l i).z

abbrev seen : ℕ → Result → Seen
seen i b =
    record {
      number = b.answer.number;
      settled = b.answer.settled;
      figure = nat_abs b.answer.figures.index;
      x1 = at i b.columns.x1;
      x2 = at i b.columns.x2;
      x3 = at i b.columns.x3;
      index = at i b.columns.index;
      mark = get_or b.columns.mark i 0;
      z = z-at i b.columns.records;
      v = at i b.columns.v;
    }

-- one by one
record Shows (i : ℕ) (b : Result) (s : Seen) : Type 0 where
  number : b.answer.number ≡ s.number
  settled : b.answer.settled ≡ s.settled
  figure : nat_abs b.answer.figures.index ≡ s.figure
  x1 : at i b.columns.x1 ≡ s.x1
  x2 : at i b.columns.x2 ≡ s.x2
  x3 : at i b.columns.x3 ≡ s.x3
  index : at i b.columns.index ≡ s.index
  mark : get_or b.columns.mark i 0 ≡ s.mark
  z : z-at i b.columns.records ≡ s.z
  v : at i b.columns.v ≡ s.v

shows : (i : ℕ) (b : Result) (s : Seen) → seen i b ≡ s → Shows i b s
shows i b s e =
    record {
      number = ap (λ (v : Seen). v.number) e;
      settled = ap (λ (v : Seen). v.settled) e;
      figure = ap (λ (v : Seen). v.figure) e;
      x1 = ap (λ (v : Seen). v.x1) e;
      x2 = ap (λ (v : Seen). v.x2) e;
      x3 = ap (λ (v : Seen). v.x3) e;
      index = ap (λ (v : Seen). v.index) e;
      mark = ap (λ (v : Seen). v.mark) e;
      z = ap (λ (v : Seen). v.z) e;
      v = ap (λ (v : Seen). v.v) e;
    }

-- ---- the months that tell, of one kind
module _ {A : Type 0} (ask : A → Ask) where
  -- the promise's definition, as a program
  abbrev promised : Adds A
  promised r a cs = asked r (ask a) cs

  abbrev first : A → Result
  first a = promised begun a (blank 3)

  abbrev second : A → A → Result
  second a b = next promised (first a) b

  abbrev third : A → A → A → Result
  third a b c = next promised (second a b) c

  record Telling : Type 0 where
    -- Z 1,500 founds nothing, and the month is settled
    damp : A
    damp-shows : Shows 0 (first damp) (row 1 500 500 0 0 500 2 1500 0)
    -- Z -3,000 founds a drought. The same again deepens it
    dry : A
    dry-shows : Shows 0 (first dry) (row 1 1000 0 0 1000 1000 2 3000 0)
    drier-shows : Shows 1 (second dry dry) (row 1 1897 0 0 1897 1897 2 3000 0)
    -- Z -149 by itself founds nothing. In the drought it abates, and the month is open
    eased : A
    mild-shows : Shows 0 (first eased) (row 1 50 0 50 0 50 2 149 0)
    eased-shows : Shows 1 (second dry eased) (row 0 947 0 50 947 947 1 149 1)
    -- Z -1,130 is steady, and settles that month
    steady : A
    steady-shows : Shows 1 (third dry eased steady) (row 2 1226 0 50 947 947 2 149 1)

  -- ---- on these months the definition is wrong in none of the ways
  module _ (t : Telling) where
    other-figures : (second t.dry t.dry).answer.figures ≡ (first t.dry).answer.figures → ⊥
    other-figures e = let n = ap (λ (g : Figures). nat_abs g.index) e in omega arith

    other-index : at 0 (first t.dry).columns.index ≡ 0 → ⊥
    other-index e = omega arith

    promised-rejects : Rejects promised
    promised-rejects =
        record {
          refuses_all_months = λ h. h begun t.damp (blank 3) t.damp-shows.number;
          one_fixed_index = λ k h.
              let a = ap nat_abs (h begun t.damp (blank 3) t.damp-shows.number) in
              let b = ap nat_abs (h begun t.dry (blank 3) t.dry-shows.number) in
              omega arith;
          one_fixed_column = λ k h.
              let a = ap nat_abs (h begun t.damp (blank 3) t.damp-shows.number) in
              let b = ap nat_abs (h begun t.dry (blank 3) t.dry-shows.number) in
              omega arith;
          columns_untouched = λ h. other-index (ap (λ (cs : Book). at 0 cs.index) (h begun t.dry (blank 3) t.dry-shows.number));
          x1_untouched = λ h. let a = ap (at 0) (h begun t.damp (blank 3) t.damp-shows.number) in omega arith;
          x2_untouched = λ h. let a = ap (at 0) (h begun t.eased (blank 3) t.mild-shows.number) in omega arith;
          x3_untouched = λ h. let a = ap (at 0) (h begun t.dry (blank 3) t.dry-shows.number) in omega arith;
          index_untouched = λ h. other-index (ap (at 0) (h begun t.dry (blank 3) t.dry-shows.number));
          mark_untouched = λ h. let a = ap (λ (l : List ℕ). get_or l 0 0) (h begun t.dry (blank 3) t.dry-shows.number) in omega arith;
          records_untouched = λ h. let a = ap (z-at 0) (h begun t.dry (blank 3) t.dry-shows.number) in omega arith;
          v_untouched = λ h. let a = ap (at 0) (h begun t.dry (blank 3) t.dry-shows.number) in omega arith;
          first_month_repeated = λ h. other-figures (h begun t.dry (blank 3) t.dry-shows.number t.drier-shows.number);
          figures-repeated = λ h.
              other-figures (h station t.dry (t.dry ∷ []) t.dry-shows.number (t.drier-shows.number, tt));
          marks_stay_open = λ h. let a = h _ t.steady _ t.steady-shows.number 1 t.eased-shows.mark in omega arith;
          made_up_count = λ k h.
              let a = h begun t.dry (blank 3) t.dry-shows.number in
              let b = h _ t.eased _ t.eased-shows.number in
              omega arith;
          own_month_counted = λ h. let a = h _ t.steady _ t.steady-shows.number in omega arith;
        }

    -- so no program that keeps the promise is
    rejects : (f : Adds A) → Keeps ask f → Rejects f
    rejects f keeps = subst⁻¹ (λ (g : Adds A). Rejects g) (λ i r a cs. keeps r a cs i) promised-rejects

-- ---- the months, worked out

-- two readings
abbrev wholes : ℕ → ℕ → Reading × Reading
wholes p pe = (Whole (pos p), Whole (pos pe))

-- two binary32 inches: m times 2 ^ e
abbrev inch : ℕ → ℤ → Float
inch m e = fin false m e

abbrev both : Float → Float → MonthInches
both p pe = record { p = p; pe = pe }

-- one month on columns of one place: they are full
abbrev filled : Result
filled = add_z begun (pos 0) (blank 1)

-- no run: every K of it is 0
abbrev weightless : Run
weightless = fresh_run (replicate 60 (pos 0)) (pos 6000) (pos 0) (pos 0) (pos 1)

record Worked : Type 0 where
  z : Telling anomaly
  water : Telling readings
  binary : Telling inches
  -- the full columns, and there a Z above its range, two readings that are missing, and inches that are no number
  full_fits : columns_fit filled.columns ≡ true
  full_run : is_run_of filled.columns filled.answer.run ≡ true
  full_months : filled.answer.run.months ≡ long filled.columns
  full_z : (asked filled.answer.run (anomaly (pos 4000001)) filled.columns).answer.number ≡ 12
  full_water : (asked filled.answer.run (readings (Missing, Missing)) filled.columns).answer.number ≡ 8
  full_binary : (asked filled.answer.run (inches (both nan nan)) filled.columns).answer.number ≡ 9
  -- a row of no run
  one_fits : columns_fit (blank 1) ≡ true
  no_run : (row_of_run weightless 0 (blank 1)).number ≡ 7

worked : Worked
unfolding nearest nearest_ℕ next_of turn u_of v_of e_of q_of ending_of percent_of raised lowered larger_in_size provisional steady_month abating_values abating_month founded unfounded tried no_spell ending_month in_force step_of surface_holds underlying_holds under_loss loss_surface loss_underlying dry_month to_surface to_underlying wet_month balance_of potential_surface potential_underlying potentials_of n_of cafec_of z_of expected_of month_of limit_of constant_fits constants_fit_to constants_at zero_k_within calendar_fits next_calendar length_fits z_fits soil_fits sizes_fit signs_fit v_fits is_run is_run_for ends_meet amounts within above_zero nearest_to converted inInches whole reading month lengths_fit run_refusal room_refusal water_refusal z_refusal row_refusal taken taken_water add_outcomes add_water add_inches add_z row_of_run
worked =
    record {
      z =
          record {
            damp = pos 1500;
            damp-shows = shows _ _ _ refl;
            dry = minus 3000;
            dry-shows = shows _ _ _ refl;
            drier-shows = shows _ _ _ refl;
            eased = minus 149;
            mild-shows = shows _ _ _ refl;
            eased-shows = shows _ _ _ refl;
            steady = minus 1130;
            steady-shows = shows _ _ _ refl;
          };
      water =
          record {
            damp = wholes 1500 0;
            damp-shows = shows _ _ _ refl;
            dry = wholes 0 3000;
            dry-shows = shows _ _ _ refl;
            drier-shows = shows _ _ _ refl;
            eased = wholes 0 149;
            mild-shows = shows _ _ _ refl;
            eased-shows = shows _ _ _ refl;
            steady = wholes 0 1130;
            steady-shows = shows _ _ _ refl;
          };
      -- 3/2 and 3, and the binary32 numbers nearest to 0.149 and 1.13
      binary =
          record {
            damp = both (inch 3 (negsuc 0)) (inch 0 (pos 0));
            damp-shows = shows _ _ _ refl;
            dry = both (inch 0 (pos 0)) (inch 3 (pos 0));
            dry-shows = shows _ _ _ refl;
            drier-shows = shows _ _ _ refl;
            eased = both (inch 0 (pos 0)) (inch 9999221 (negsuc 25));
            mild-shows = shows _ _ _ refl;
            eased-shows = shows _ _ _ refl;
            steady = both (inch 0 (pos 0)) (inch 9479127 (negsuc 22));
            steady-shows = shows _ _ _ refl;
          };
      full_fits = refl;
      full_run = refl;
      full_months = refl;
      full_z = refl;
      full_water = refl;
      full_binary = refl;
      one_fits = refl;
      no_run = refl;
    }

-- ---- no program that keeps the promise of an added Z, of water by two readings, or of water by two binary32 inches, is wrong so
pub z-rejects : (f : Adds ℤ) → Keeps anomaly f → Rejects f
z-rejects = rejects anomaly worked.z

pub water-rejects : (f : Adds (Reading × Reading)) → Keeps readings f → Rejects f
water-rejects = rejects readings worked.water

pub inches-rejects : (f : Adds MonthInches) → Keeps inches f → Rejects f
inches-rejects = rejects inches worked.binary

-- ---- nor does it refuse in another order: on full columns a month that is refused for itself has its own number
room-last : {A : Type 0} (ask : A → Ask) (bad : A) (k : ℕ) → (asked filled.answer.run (ask bad) filled.columns).answer.number ≡ k → (k ≡ 10 → ⊥)
    → (f : Adds A) → Keeps ask f → RoomFirst f → ⊥
room-last ask bad k is other f keeps h =
    let e = keeps filled.answer.run bad filled.columns in
    other (sym (rw e is) ∙ h filled.answer.run bad filled.columns worked.full_fits worked.full_run worked.full_months)

pub ten-before-twelve : (f : Adds ℤ) → Keeps anomaly f → RoomFirst f → ⊥
ten-before-twelve = room-last anomaly (pos 4000001) 12 worked.full_z (λ e. omega arith)

pub ten-before-eight : (f : Adds (Reading × Reading)) → Keeps readings f → RoomFirst f → ⊥
ten-before-eight = room-last readings (Missing, Missing) 8 worked.full_water (λ e. omega arith)

pub ten-before-nine : (f : Adds MonthInches) → Keeps inches f → RoomFirst f → ⊥
ten-before-nine = room-last inches (both nan nan) 9 worked.full_binary (λ e. omega arith)

-- and a row of no run is 7
pub eleven-before-seven : (f : Run → ℕ → Book → Shown) → ((r : Run) (i : ℕ) (cs : Book) → f r i cs ≡ row_of_run r i cs) → PlaceFirst f → ⊥
eleven-before-seven f keeps h =
    let a = rw (keeps weightless 0 (blank 1)) at (h weightless 0 (blank 1) worked.one_fits (omega arith)) in
    let n = sym worked.no_run ∙ a in
    omega arith
