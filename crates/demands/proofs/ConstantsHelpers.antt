-- What each helper of the statement of the constants rules out, as Helpers.antt has it of the other statements: `calendar_at` and the years, `SharesIn`, `Room` and `Alike`. Of each number's
-- cases nothing is wanted: it is given exactly where they have it. Assumes nothing.
use mathlib.Core.Path.{◌≡◌, refl}
use mathlib.Core.List.{List, []}
use Prim.Native.Nat.{ℕ, zero, suc}
use native.Mathlib.Omega.{arith}
use lib.IntN.{ℤ, pos}
use lib.ListN.{replicate}
use Rattle.outline.specs.Numbers.{many_constants}
use Rattle.exact.specs.Nearest.{nearest_ℕ}
use Rattle.water.specs.Layers.{surface_holds, underlying_holds}
use Rattle.ranges.specs.Ranges.{limit_of, constant_fits, constants_fit_to}
use Rattle.calendar.specs.Calendar.{constants_at, zero_k_within}
use Rattle.runs.specs.declared.Run.{Run}
use Rattle.starts.specs.Start.{capacity_fits, storages_fit, month_fits, start_refusal, run_for_z}
use Rattle.refusals.specs.Book.{book}
use Rattle.reopening.specs.Before.{calendar_back}
use Rattle.years.specs.Years.{first_january, years_from, first_of, years_of}
use Rattle.sums.specs.declared.Sums.{Sums}
use Rattle.demands.specs.Demands.{Fresh}
use Rattle.demands.specs.WorkedOut.{calendar_at, SharesIn, most_sum, Room, Alike}

-- ---- the calendar of a run's rows, and the years: so many months, before this calendar month
abbrev months : ℕ → ℕ → Run
months n next = record { months = n; opens = 0; calendar = next; soil = run_for_z.soil; values = run_for_z.values; constants = run_for_z.constants }

-- two years before a January: January to December twice
pub two-years : (calendar_at (months 24 1) 0 ≡ 1) × (calendar_at (months 24 1) 23 ≡ 12) × (first_of (months 24 1) ≡ 0) × (years_of (months 24 1) ≡ 2)
unfolding calendar_back first_january years_from
two-years = (refl, refl, refl, refl)

-- two years before a June: the rows from June to December and those from January to May count for nothing
pub part-years : (calendar_at (months 24 6) 0 ≡ 6) × (calendar_at (months 24 6) 7 ≡ 1) × (first_of (months 24 6) ≡ 7) × (years_of (months 24 6) ≡ 1)
unfolding calendar_back first_january years_from
part-years = (refl, refl, refl, refl)

-- a month less than a year, and fewer than there are before the first January
pub no-year : (first_of (months 11 12) ≡ 0) × (years_of (months 11 12) ≡ 0) × (first_of (months 2 12) ≡ 3) × (years_of (months 2 12) ≡ 0)
unfolding calendar_back first_january years_from
no-year = (refl, refl, refl, refl)

-- ---- `SharesIn`: all of each whole, and no more of any; gamma is not asked
abbrev sums : ℕ → ℕ → ℕ → ℕ → Sums
sums et r ro l = record { et = et; pe = 10000; r = r; pr = 10000; ro = ro; pro = 10000; l = l; pl = 10000 }

pub shares : SharesIn (sums 10000 10000 60000 10000)
unfolding nearest_ℕ
shares = record { alpha = omega arith; beta = omega arith; delta = omega arith }

pub shares-not : (SharesIn (sums 10001 0 0 0) → ⊥) × (SharesIn (sums 0 10001 0 0) → ⊥) × (SharesIn (sums 0 0 0 10001) → ⊥)
unfolding nearest_ℕ
shares-not = ((λ h. let k = h.alpha in omega arith), (λ h. let k = h.beta in omega arith), (λ h. let k = h.delta in omega arith))

-- ---- `Room`: 100,000,000, and no more in any of the eight
abbrev at : ℕ → ℕ → ℕ
at zero zero = 100000001
at zero (suc j) = 0
at (suc i) zero = 0
at (suc i) (suc j) = at i j

-- one above in the i-th
abbrev above : ℕ → Sums
above i = record { et = at i 0; pe = at i 1; r = at i 2; pr = at i 3; ro = at i 4; pro = at i 5; l = at i 6; pl = at i 7 }

pub room-not : (Room (above 0) → ⊥) × (Room (above 1) → ⊥) × (Room (above 2) → ⊥) × (Room (above 3) → ⊥) × (Room (above 4) → ⊥) × (Room (above 5) → ⊥) × (Room (above 6) → ⊥) × (Room (above 7) → ⊥)
room-not = (
  (λ h. let k = h.et in omega arith),
  (λ h. let k = h.pe in omega arith),
  (λ h. let k = h.r in omega arith),
  (λ h. let k = h.pr in omega arith),
  (λ h. let k = h.ro in omega arith),
  (λ h. let k = h.pro in omega arith),
  (λ h. let k = h.l in omega arith),
  (λ h. let k = h.pl in omega arith),
)

pub most : most_sum ≡ 100000000
most = refl

-- ---- `Alike`: it lets any two sets of constants through that a start takes, here sixty ones and sixty twos
abbrev start : (set : List ℤ) → start_refusal set (pos 100) (pos 0) (pos 0) (pos 1) ≡ 0 → Fresh
start set e = record { constants = set; capacity = pos 100; surface = pos 0; underlying = pos 0; month = pos 1; columns = book [] [] [] [] [] [] []; started = e }

abbrev all : ℕ → List ℤ
all n = replicate many_constants (pos n)

pub taken : (start_refusal (all 1) (pos 100) (pos 0) (pos 0) (pos 1) ≡ 0) × (start_refusal (all 2) (pos 100) (pos 0) (pos 0) (pos 1) ≡ 0)
unfolding start_refusal capacity_fits storages_fit month_fits limit_of constant_fits constants_fit_to constants_at zero_k_within surface_holds underlying_holds
taken = (refl, refl)

pub alike : Alike (start (all 1) taken.0) (start (all 2) taken.1)
alike = record { capacity = refl; surface = refl; underlying = refl; month = refl; columns = refl }
