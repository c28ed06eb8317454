-- Ten years on a full soil, without PE, so that all that falls runs off: by how much falls in the one year and in the next, and by the weights, a set is worked out or
-- each new refusal given. By computation. So gamma need not be in its range (`gamma-needed`). Assumes nothing.
use mathlib.Core.Path.{◌≡◌, refl}
use mathlib.Core.List.{List, [], ◌∷◌, ◌++◌}
use Prim.Native.Nat.{ℕ, zero, suc, ◌≤◌, ◌<◌}
use native.Mathlib.Omega.{arith}
use lib.IntN.{ℤ, pos}
use lib.ListN.{set, replicate}
use Rattle.outline.specs.Numbers.{last_month, length_fits}
use Rattle.outline.specs.Refusals.{few_years, bad_gamma, bad_k, zero_k}
use Rattle.outline.specs.Every.{all_of}
use Rattle.exact.specs.Nearest.{nearest, nearest_ℕ}
use Rattle.water.specs.Constants.{most_gamma}
use Rattle.water.specs.Layers.{surface_holds, underlying_holds}
use Rattle.water.specs.Balance.{under_loss, loss_surface, loss_underlying, dry_month, to_surface, to_underlying, wet_month, balance_of}
use Rattle.water.specs.Expected.{potential_surface, potential_underlying, potentials_of, n_of, cafec_of}
use Rattle.spells.specs.Values.{fresh}
use Rattle.ranges.specs.Ranges.{limit_of, constant_fits, constants_fit_to, calendar_fits}
use Rattle.calendar.specs.Calendar.{constants_at, zero_k_within}
use Rattle.runs.specs.Runs.{soil_fits, sizes_fit, signs_fit, v_fits, is_run}
use Rattle.runs.specs.declared.Run.{Run}
use Rattle.starts.specs.Start.{ones}
use Rattle.records.specs.Ends.{amounts, ends_meet}
use Rattle.refusals.specs.Book.{Book, book, lengths_fit}
use Rattle.refusals.specs.Refusals.{is_run_for}
use Rattle.kept_rows.specs.KeptRows.{amount_fits}
use Rattle.reopening.specs.Before.{calendar_back}
use Rattle.given_rows.specs.GivenRows.{addable, holds, given_by_add, row_given}
use Rattle.years.specs.Years.{first_january, years_from}
use Rattle.sums.specs.Sums.{plus, sums_of, gamma_of}
use Rattle.departures.specs.Departures.{departure_of, departures_of, mean_of}
use Rattle.weighing.specs.Weighing.{sums_in, shares_in, departure_in, products, k_of, monthly}
use Rattle.constants.specs.WorkOut.{span_of, record_refusal, weights_refusal, years_refusal, set_refusal, work_out_refusal, work_out}
use Rattle.demands.specs.WorkedOut.{WorkOutGives, work-19, Reached, reached}
use Rattle.demands.proofs.ConstantsGiven.{record-0, years-0, works-exactly}

-- so many months, the last of which ends with a full soil
abbrev full : ℕ → ℕ → Run
full c months =
    record {
      months = months;
      opens = 0;
      calendar = 1;
      soil = record { capacity = c; surface = surface_holds c; underlying = underlying_holds c };
      values = fresh;
      constants = ones;
    }

-- a month in which so much falls, and runs off
abbrev month : ℕ → ℕ → List ℤ
month c p =
    let ss = pos (surface_holds c) in
    let su = pos (underlying_holds c) in
    pos 0 ∷ pos p ∷ pos 0 ∷ pos 0 ∷ pos 0 ∷ pos 0 ∷ pos p ∷ ss ∷ su ∷ ss ∷ su ∷ pos 1 ∷ pos 0 ∷ pos 2 ∷ []

-- so many times a year of the one month and a year of the other
abbrev years : List ℤ → List ℤ → ℕ → List (List ℤ)
years a b zero = []
years a b (suc n) = replicate last_month a ++ (replicate last_month b ++ years a b n)

abbrev lists : ℕ → ℕ → ℕ → Book
lists c p q = let zeros = replicate 120 (pos 0) in book zeros zeros zeros zeros (replicate 120 2) (years (month c p) (month c q) 5) zeros

abbrev equal : List ℤ
equal = replicate last_month (pos 10000)

abbrev number : ℕ → ℕ → ℕ → ℕ → List ℤ → ℕ
number c months p q weights = (work_out (full c months) weights (lists c p q)).number

numbers :
    (number 30000 120 0 60000 equal ≡ 0)
    × (number 30000 119 0 60000 equal ≡ few_years)
    × (number 100 120 100000 100000 equal ≡ bad_gamma)
    × (number 30000 120 30000 30000 equal ≡ bad_k)
    × (number 30000 120 29999 30001 equal ≡ bad_k)
    × (number 30000 120 0 60000 (set equal 0 (pos 0)) ≡ zero_k)
unfolding work_out work_out_refusal record_refusal weights_refusal years_refusal set_refusal lengths_fit length_fits is_run_for is_run limit_of constant_fits constants_fit_to constants_at zero_k_within soil_fits surface_holds underlying_holds calendar_fits sizes_fit signs_fit v_fits ends_meet amounts all_of row_given given_by_add addable amount_fits holds nearest nearest_ℕ under_loss loss_surface loss_underlying dry_month to_surface to_underlying wet_month balance_of potential_surface potential_underlying potentials_of n_of cafec_of calendar_back first_january years_from plus sums_of departure_of departures_of mean_of sums_in shares_in departure_in products k_of monthly
numbers = (refl, refl, refl, refl, refl, refl)

-- the whole answer of the first, so that no number of the rule can be changed alike in the definitions and in the code. In half of the years nothing falls and in half
-- 60,000, which runs off: gamma is 1, D 30,000, and K 176,700,000 x 10,000 / (12 x 30,000 x 10,000), which is 490.8
abbrev fives : ℕ → List ℤ
fives zero = []
fives (suc n) = pos 0 ∷ pos 0 ∷ pos 10000 ∷ pos 0 ∷ pos 491 ∷ fives n

pinned : work_out (full 30000 120) equal (lists 30000 0 60000) ≡ record { number = 0; constants = fives last_month; departures = replicate last_month 30000 }
unfolding work_out work_out_refusal record_refusal weights_refusal years_refusal set_refusal lengths_fit length_fits is_run_for is_run limit_of constant_fits constants_fit_to constants_at zero_k_within soil_fits surface_holds underlying_holds calendar_fits sizes_fit signs_fit v_fits ends_meet amounts all_of row_given given_by_add addable amount_fits holds nearest nearest_ℕ under_loss loss_surface loss_underlying dry_month to_surface to_underlying wet_month balance_of potential_surface potential_underlying potentials_of n_of cafec_of calendar_back first_january years_from plus sums_of departure_of departures_of mean_of sums_in shares_in departure_in products k_of monthly
pinned = refl

pub none_empty : Reached 0 × Reached few_years × Reached bad_gamma × Reached bad_k × Reached zero_k
none_empty = (
  reached (full 30000 120) equal (lists 30000 0 60000) numbers.0,
  reached (full 30000 119) equal (lists 30000 0 60000) numbers.1,
  reached (full 100 120) equal (lists 100 100000 100000) numbers.2,
  reached (full 30000 120) equal (lists 30000 30000 30000) numbers.3,
  reached (full 30000 120) (set equal 0 (pos 0)) (lists 30000 0 60000) numbers.5,
)

pub gamma-needed : ((r : Run) (cs : Book) → record_refusal r cs ≡ 0 → years_refusal (span_of r cs) ≡ 0 → (m : ℕ) → m < last_month → gamma_of (sums_in (span_of r cs) m) ≤ most_gamma) → ⊥
gamma-needed h = go ((works-exactly (full 100 120) equal (lists 100 100000 100000) bad_gamma).0 numbers.2)
  where
    go : {r : Run} {weights : List ℤ} {cs : Book} → WorkOutGives r weights cs bad_gamma → ⊥
    go {r} {weights} {cs} (work-19 w m l g) = omega (arith, h r cs (record-0 r cs w.given) (years-0 (span_of r cs) w.years) m l)
