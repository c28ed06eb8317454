-- STATION CONSTANTS FROM THE STATION'S OWN RECORD (document 02, E10): "A lost set should be worked out again. From E6's rows of every January to December inside
-- the run, compute for each calendar month alpha = sum ET / sum PE, beta = sum R / sum PR, gamma = sum RO / sum PRO, delta = sum L / sum PL, nearest, 0 where the
-- divisor is 0. Twelve first weights K' are lent in ten-thousandths, 0 to 100,000. With D the calendar month's mean size of P - CAFEC by the new constants in
-- thousandths, nearest, K = nearest to 176,700,000 K' / sum of D K'. Show that alpha, beta and delta always lie in range. Refusals: after 1, 7 (here also any
-- water row whose six figures and end storages no add gives from its start storages) and 2 or 3 (weights not twelve or out of range), 18 fewer than ten such years
-- or one with a Z-only month, 19 gamma out of range, 20 the sum of D K' is 0 or a K out of range, in that order." E11: "Constants from E10 with a zero K are
-- refused there too": 21, after 20. The definitions of the two calls are `work_out` and, of what a calendar month's constants are made from, `sum_month` of the crate
-- `constants`. `working-out` of proofs/ConstantsWorked.antt proves it. Assumes nothing.
use Rattle.std.specs.Prelude.{◌≡◌, true, false, ◌↔◌, List, ℕ, suc, ◌+◌, ◌*◌, ◌≤◌, ◌<◌, ℤ, pos, nat_abs, length, get_or}
use Rattle.outline.specs.Numbers.{last_month}
use Rattle.outline.specs.Refusals.{bad_lists, not_sixty, bad_constant, bad_month, not_a_run, few_years, bad_gamma, bad_k, zero_k}
use Rattle.water.specs.Constants.{most_share, most_gamma, most_k}
use Rattle.ranges.specs.Ranges.{calendar_fits}
use Rattle.calendar.specs.Calendar.{constants_at, ZeroK}
use Rattle.runs.specs.declared.Run.{Run}
use Rattle.starts.specs.Start.{capacity_fits, storages_fit, month_fits, start_refusal}
use Rattle.starts.specs.Given.{ConstantsTaken}
use Rattle.records.specs.Record.{record_at}
use Rattle.records.specs.Water.{had_water}
use Rattle.refusals.specs.Book.{Book, columns_fit}
use Rattle.refusals.specs.Refusals.{is_run_of}
use Rattle.refusals.specs.Good.{Good}
use Rattle.kept_rows.specs.KeptRows.{amount_fits}
use Rattle.given_rows.specs.GivenRows.{row_given}
use Rattle.years.specs.Years.{calendar_first, first_of, years_of}
use Rattle.sums.specs.Sums.{alpha_of, beta_of, gamma_of, delta_of}
use Rattle.sums.specs.declared.Sums.{Sums}
use Rattle.weighing.specs.Weighing.{Span, sums_in, departure_in, weight_at, k_of, total_in, sixty_in}
use Rattle.constants.specs.WorkOut.{span_of, record_refusal, fewest_years, years_refusal, not_worked_out, work_out, not_summed, sum_month}
use Rattle.constants.specs.declared.Summed.{Summed}
use Rattle.constants.specs.declared.WorkedOut.{WorkedOut}
use Rattle.demands.specs.Months.{Ask, Accepted}
use Rattle.demands.specs.Demands.{Fresh, first, now, Honest, calendar_after}
use Rattle.demands.specs.Repairs.{Call, now_by}

-- ---- the numbers: 1, 7, 2, 3, 18, 19, 20, 21

-- neither 1 nor 7: the lists fit, the run is one for them, and each of its rows of water is one that an add gives
pub record Given (r : Run) (cs : Book) : Type 0 where
  pub good : Good r cs
  pub rows : (i : ℕ) → i < r.months → row_given r.soil.capacity (record_at cs.records i) ≡ true

-- 7: as of an add, and "here also any water row whose six figures and end storages no add gives from its start storages"
pub data NotGiven (r : Run) (cs : Book) : Type 0 where
  no_run : is_run_of cs r ≡ false → NotGiven r cs
  no_add : (i : ℕ) → i < r.months → row_given r.soil.capacity (record_at cs.records i) ≡ false → NotGiven r cs

-- neither 2 nor 3: twelve, and each "0 to 100,000"
pub record WeightsTaken (weights : List ℤ) : Type 0 where
  pub twelve : length weights ≡ last_month
  pub fit : (m : ℕ) → m < last_month → amount_fits most_k (get_or weights m (pos 0)) ≡ true

-- not 18: ten years, and each of their months had water
pub record TenYears (s : Span) : Type 0 where
  pub ten : fewest_years ≤ s.years
  pub water : (k : ℕ) → k < last_month * s.years → had_water (record_at s.records (s.first + k)) ≡ true

-- 18: "fewer than ten such years or one with a Z-only month"
pub data TooFew (s : Span) : Type 0 where
  few : s.years < fewest_years → TooFew s
  z_only : (k : ℕ) → k < last_month * s.years → had_water (record_at s.records (s.first + k)) ≡ false → TooFew s

-- not 19
abbrev pub GammasIn : Span → Type 0
GammasIn s = (m : ℕ) → m < last_month → gamma_of (sums_in s m) ≤ most_gamma

-- not 20
pub record KsIn (s : Span) (weights : List ℤ) : Type 0 where
  pub some : total_in s weights ≡ 0 → ⊥
  pub fit : (m : ℕ) → m < last_month → k_of (total_in s weights) (weight_at weights m) ≤ most_k

-- 20: "the sum of D K' is 0 or a K out of range"
pub data KsOut (s : Span) (weights : List ℤ) : Type 0 where
  nothing : total_in s weights ≡ 0 → KsOut s weights
  above : (m : ℕ) → m < last_month → most_k < k_of (total_in s weights) (weight_at weights m) → KsOut s weights

-- none of 1, 7, 2, 3 and 18
pub record Workable (r : Run) (weights : List ℤ) (cs : Book) : Type 0 where
  pub given : Given r cs
  pub weighed : WeightsTaken weights
  pub years : TenYears (span_of r cs)

module _ (r : Run) (weights : List ℤ) (cs : Book) where
  abbrev its : Span
  its = span_of r cs

  pub data WorkOutGives : ℕ → Type 0 where
    -- 0: done
    work-0 : Workable r weights cs → GammasIn its → KsIn its weights → (ZeroK (sixty_in its weights) → ⊥) → WorkOutGives 0
    -- 1: as of an add
    work-1 : columns_fit cs ≡ false → WorkOutGives bad_lists
    -- 7
    work-7 : columns_fit cs ≡ true → NotGiven r cs → WorkOutGives not_a_run
    -- 2: "weights not twelve"
    work-2 : Given r cs → (length weights ≡ last_month → ⊥) → WorkOutGives not_sixty
    -- 3: "or out of range"
    work-3 : Given r cs → length weights ≡ last_month → (m : ℕ) → m < last_month → amount_fits most_k (get_or weights m (pos 0)) ≡ false → WorkOutGives bad_constant
    -- 18
    work-18 : Given r cs → WeightsTaken weights → TooFew its → WorkOutGives few_years
    -- 19: "gamma out of range"
    work-19 : Workable r weights cs → (m : ℕ) → m < last_month → most_gamma < gamma_of (sums_in its m) → WorkOutGives bad_gamma
    -- 20
    work-20 : Workable r weights cs → GammasIn its → KsOut its weights → WorkOutGives bad_k
    -- 21: "zero K, .. in E10 after 20"
    work-21 : Workable r weights cs → GammasIn its → KsIn its weights → ZeroK (sixty_in its weights) → WorkOutGives zero_k

-- of a calendar month's sums: 1, 7, 6, 18
module _ (r : Run) (month : ℤ) (cs : Book) where
  pub data SumGives : ℕ → Type 0 where
    -- 0: done
    sum-0 : Given r cs → month_fits month ≡ true → TenYears (span_of r cs) → SumGives 0
    -- 1 and 7: as above
    sum-1 : columns_fit cs ≡ false → SumGives bad_lists
    sum-7 : columns_fit cs ≡ true → NotGiven r cs → SumGives not_a_run
    -- 6: a calendar month "not 1 to 12"
    sum-6 : Given r cs → month_fits month ≡ false → SumGives bad_month
    -- 18: as above
    sum-18 : Given r cs → month_fits month ≡ true → TooFew (span_of r cs) → SumGives few_years

-- some record and some weights are given a number
pub data Reached (n : ℕ) : Type 0 where
  reached : (r : Run) (weights : List ℤ) (cs : Book) → (work_out r weights cs).number ≡ n → Reached n

-- ---- the years
-- the calendar month of a run's row
abbrev pub calendar_at : Run → ℕ → ℕ
calendar_at r i = calendar_after (calendar_first r) i

-- "every January to December inside the run"
pub record WholeYears (r : Run) : Type 0 where
  -- the rows go by the run's own calendar, which is the next month's
  pub next : calendar_at r r.months ≡ r.calendar
  -- the first year begins with the first January, and each has a row for each calendar month, January first
  pub january : calendar_at r (first_of r) ≡ 1
  pub none_before : (i : ℕ) → i < first_of r → calendar_at r i ≡ 1 → ⊥
  pub months : (y m : ℕ) → m < last_month → calendar_at r (first_of r + m + last_month * y) ≡ suc m
  -- they are inside, and no further one is
  pub inside : first_of r ≤ r.months → first_of r + last_month * years_of r ≤ r.months
  pub none : r.months < first_of r → years_of r ≡ 0
  pub all : r.months < first_of r + last_month * years_of r + last_month

-- ---- the ranges
-- "alpha, beta and delta .. in range"
pub record SharesIn (s : Sums) : Type 0 where
  pub alpha : alpha_of s ≤ most_share
  pub beta : beta_of s ≤ most_share
  pub delta : delta_of s ≤ most_share

-- a thousand times 100,000
abbrev pub most_sum : ℕ
most_sum = 100000000

pub record Room (s : Sums) : Type 0 where
  pub et : s.et ≤ most_sum
  pub pe : s.pe ≤ most_sum
  pub r : s.r ≤ most_sum
  pub pr : s.pr ≤ most_sum
  pub ro : s.ro ≤ most_sum
  pub pro : s.pro ≤ most_sum
  pub l : s.l ≤ most_sum
  pub pl : s.pl ≤ most_sum

-- ---- two starts that are alike but for their constants
pub record Alike (f g : Fresh) : Type 0 where
  pub capacity : f.capacity ≡ g.capacity
  pub surface : f.surface ≡ g.surface
  pub underlying : f.underlying ≡ g.underlying
  pub month : f.month ≡ g.month
  pub columns : f.columns ≡ g.columns

pub record WorkingOut : Type 0 where
  -- "FROM E6'S ROWS OF EVERY JANUARY TO DECEMBER INSIDE THE RUN": a year counts exactly where all its twelve months are inside
  pub whole_years : (r : Run) → calendar_fits r.calendar ≡ true → WholeYears r
  -- by the calendar that the station started with, after any calls
  pub started : (f : Fresh) (calls : List Call) → calendar_first (now_by f calls).run ≡ nat_abs f.month
  -- "SHOW THAT ALPHA, BETA AND DELTA ALWAYS LIE IN RANGE": whatever the record is, so that 19 and 20 speak of gamma and K alone
  pub shares : (r : Run) (cs : Book) → record_refusal r cs ≡ 0 → years_refusal (span_of r cs) ≡ 0 → (m : ℕ) → m < last_month → SharesIn (sums_in (span_of r cs) m)
  -- gamma need not
  pub needed :
      ((r : Run) (cs : Book) → record_refusal r cs ≡ 0 → years_refusal (span_of r cs) ≡ 0 → (m : ℕ) → m < last_month → gamma_of (sums_in (span_of r cs) m) ≤ most_gamma) → ⊥
  -- no sum passes 32 bits, however long the lists are, nor does D where gamma is in range
  pub room :
      (r : Run) (cs : Book) → record_refusal r cs ≡ 0 → years_refusal (span_of r cs) ≡ 0 → (m : ℕ) → m < last_month
      → Room (sums_in (span_of r cs) m) × (gamma_of (sums_in (span_of r cs) m) ≤ most_gamma → departure_in (span_of r cs) m ≤ 350000)
  -- "COMPUTE FOR EACH CALENDAR MONTH": the five of each, January first, are made of the sums that the other call answers with, of its weight and of all twelve D, which
  -- are answered in the same order
  pub made :
      (r : Run) (weights : List ℤ) (cs : Book) → (work_out r weights cs).number ≡ 0 → (m : ℕ) → m < last_month
      → let t = sum_month r (pos (suc m)) cs in
      let s = t.sums in
      (t.number ≡ 0)
      × (s ≡ sums_in (span_of r cs) m)
      × (constants_at (work_out r weights cs).constants (suc m) ≡ record { alpha = alpha_of s; beta = beta_of s; gamma = gamma_of s; delta = delta_of s; k = k_of (total_in (span_of r cs) weights) (weight_at weights m) })
      × (get_or (work_out r weights cs).departures m 0 ≡ departure_in (span_of r cs) m)
  -- EVERY CALL: each number exactly when,
  pub exactly : (r : Run) (weights : List ℤ) (cs : Book) (n : ℕ) → ((work_out r weights cs).number ≡ n) ↔ WorkOutGives r weights cs n
  pub exactly_sums : (r : Run) (month : ℤ) (cs : Book) (n : ℕ) → ((sum_month r month cs).number ≡ n) ↔ SumGives r month cs n
  -- of which 0 and the new ones are all given to some record;
  pub none_empty : Reached 0 × Reached few_years × Reached bad_gamma × Reached bad_k × Reached zero_k
  -- a refused one answers its number, and all else 0
  pub refused : (r : Run) (weights : List ℤ) (cs : Book) → ((work_out r weights cs).number ≡ 0 → ⊥) → work_out r weights cs ≡ not_worked_out (work_out r weights cs).number
  pub refused_sums : (r : Run) (month : ℤ) (cs : Book) → ((sum_month r month cs).number ≡ 0 → ⊥) → sum_month r month cs ≡ not_summed (sum_month r month cs).number
  -- any two answers that the promise allows are the same
  pub one : (r : Run) (weights : List ℤ) (cs : Book) (a b : WorkedOut) → a ≡ work_out r weights cs → b ≡ work_out r weights cs → a ≡ b
  pub one_sums : (r : Run) (month : ℤ) (cs : Book) (a b : Summed) → a ≡ sum_month r month cs → b ≡ sum_month r month cs → a ≡ b
  -- "A LOST SET SHOULD BE WORKED OUT AGAIN": with whatever set the run was started instead, the months are accepted and the answer is the same,
  pub lost :
      (f g : Fresh) → Alike f g → columns_fit f.columns ≡ true → (asks : List Ask) → Accepted (first f) asks
      → Accepted (first g) asks
      × ((weights : List ℤ) → work_out (now g asks).run weights (now g asks).columns ≡ work_out (now f asks).run weights (now f asks).columns)
  -- and what is answered with 0 is taken by a start, always
  pub starts :
      (r : Run) (weights : List ℤ) (cs : Book) → (work_out r weights cs).number ≡ 0
      → let set = (work_out r weights cs).constants in
      ConstantsTaken set × ((c ss su m : ℤ) → capacity_fits c ≡ true → storages_fit c ss su ≡ true → month_fits m ≡ true → start_refusal set c ss su m ≡ 0)
  -- on columns that nobody else writes neither call is ever refused 1 or 7, after any mix of adds, seasons and repairs, accepted or refused
  pub honest :
      (f : Fresh) → columns_fit f.columns ≡ true → (calls : List Call)
      → let s = now_by f calls in
      ((weights : List ℤ) → Honest (work_out s.run weights s.columns).number) × ((month : ℤ) → Honest (sum_month s.run month s.columns).number)
