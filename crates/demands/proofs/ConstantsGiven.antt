-- Which number each of the two calls gives, and exactly when, as specs/WorkedOut.antt has it; and that a refused one answers its number and all else 0. Each group of
-- tests is taken apart once, and a test that fails at some place of many says at which. Assumes nothing.
use mathlib.Core.Path.{◌≡◌, refl, sym, ◌∙◌, subst}
use mathlib.Core.Bool.{Bool, true, false, and-false}
use mathlib.Core.Logic.{◌↔◌}
use mathlib.Core.List.{List}
use Prim.Native.Nat.{ℕ, zero, suc, ◌+◌, ◌-◌, ◌*◌, ◌<◌}
use native.Mathlib.Omega.{arith}
use borrow.Author.Tests.{eqb-true, eqb-false, eq-eqb, ne_eqb, leb-true, leb-false, le-leb, lt-leb}
use lib.Dec.{eqb, leb}
use lib.IntN.{ℤ, pos, nat_abs}
use lib.ListN.{length, get_or}
use Rattle.outline.specs.Numbers.{last_month}
use Rattle.outline.specs.Refusals.{bad_lists, not_sixty, bad_constant, bad_month, not_a_run, few_years, bad_gamma, bad_k, zero_k, unless_refused}
use Rattle.outline.specs.Every.{all_of}
use Rattle.outline.proofs.Tests.{if-so, both}
use Rattle.outline.proofs.Every.{all_none, all-at, all-of, all-spoilt}
use Rattle.outline.proofs.Refusals.{is-done, is-refused}
use Rattle.water.specs.Constants.{most_gamma, most_k}
use Rattle.calendar.specs.Calendar.{some_zero_k, ZeroK}
use Rattle.calendar.proofs.CalendarLaws.{zero-k-exactly, no-zero-k-exactly}
use Rattle.runs.specs.declared.Run.{Run}
use Rattle.starts.specs.Start.{month_fits}
use Rattle.records.specs.Record.{record_at}
use Rattle.records.specs.Water.{had_water}
use Rattle.refusals.specs.Book.{Book, columns_fit}
use Rattle.refusals.specs.Refusals.{is_run_of}
use Rattle.kept_rows.specs.KeptRows.{amount_fits}
use Rattle.given_rows.specs.GivenRows.{row_given}
use Rattle.sums.specs.Sums.{gamma_of}
use Rattle.weighing.specs.Weighing.{Span, sums_in, gammas_fit, weight_at, k_of, ks_fit, total_in, sixty_in}
use Rattle.constants.specs.WorkOut.{span_of, record_refusal, weights_refusal, fewest_years, years_refusal, set_refusal, work_out_refusal, sum_refusal, worked_out, not_worked_out, work_out, summed, not_summed, sum_month}
use Rattle.demands.specs.WorkedOut.{Given, NotGiven, no_run, no_add, WeightsTaken, TenYears, TooFew, few, z_only, GammasIn, KsIn, KsOut, nothing, above, Workable, WorkOutGives, work-0, work-1, work-7, work-2, work-3, work-18, work-19, work-20, work-21, SumGives, sum-0, sum-1, sum-7, sum-6, sum-18}
use Rattle.demands.proofs.Given.{exactly, not-both-ways, by-run}

-- ---- a test at each of many places: passed at all, or not at one of them
module _ {A : Type 0} (test : ℕ → Bool) where
  one-not : (k : ℕ) → all_of test k ≡ false → ((i : ℕ) → i < k → test i ≡ false → A) → A
  unfolding all_of
  one-not zero h at = absurd (not-both-ways (all_none test) h)
  one-not (suc k) h at =
      if-so (all_of test k)
      (λ a. if-so (test k) (λ t. absurd (not-both-ways (both a t) h)) (at k (omega arith)))
      (λ a. one-not k a (λ i l. at i (omega arith)))

  pub by_all : (k : ℕ) → (((i : ℕ) → i < k → test i ≡ true) → A) → ((i : ℕ) → i < k → test i ≡ false → A) → A
  by_all k each at = if-so (all_of test k) (λ t. each (λ i. all-at test k i t)) (λ f. one-not k f at)

-- ---- 1 and 7
module _ (r : Run) (cs : Book) where
  abbrev row : ℕ → Bool
  row i = row_given r.soil.capacity (record_at cs.records i)

  record-1 : columns_fit cs ≡ false → record_refusal r cs ≡ bad_lists
  unfolding record_refusal
  record-1 f = rw f

  record-7 : columns_fit cs ≡ true → NotGiven r cs → record_refusal r cs ≡ not_a_run
  unfolding record_refusal
  record-7 f (no_run h) = rw (f, h)
  record-7 f (no_add i l h) = rw (f, all-spoilt row r.months i l h, and-false (is_run_of cs r))

  pub record-0 : Given r cs → record_refusal r cs ≡ 0
  unfolding record_refusal
  record-0 g = rw (g.good.fit, g.good.run, all-of row r.months g.rows)

  by-record : {A : Type 0} → (columns_fit cs ≡ false → A) → (columns_fit cs ≡ true → NotGiven r cs → A) → (Given r cs → A) → A
  by-record one seven good =
      by-run r cs one (λ f h. seven f (no_run h)) (λ g. by_all row r.months (λ h. good (record { good = g; rows = h })) (λ i l h. seven g.fit (no_add i l h)))

-- ---- 2 and 3
module _ (weights : List ℤ) where
  abbrev fits : ℕ → Bool
  fits m = amount_fits most_k (get_or weights m (pos 0))

  weights-2 : (length weights ≡ last_month → ⊥) → weights_refusal weights ≡ not_sixty
  unfolding weights_refusal
  weights-2 h = rw (ne_eqb (length weights) last_month h)

  weights-3 : length weights ≡ last_month → (m : ℕ) → m < last_month → fits m ≡ false → weights_refusal weights ≡ bad_constant
  unfolding weights_refusal
  weights-3 e m l h = rw (eq-eqb (length weights) last_month e, all-spoilt fits last_month m l h)

  weights-0 : WeightsTaken weights → weights_refusal weights ≡ 0
  unfolding weights_refusal
  weights-0 w = rw (eq-eqb (length weights) last_month w.twelve, all-of fits last_month w.fit)

  by_weights : {A : Type 0} → ((length weights ≡ last_month → ⊥) → A) → (length weights ≡ last_month → (m : ℕ) → m < last_month → fits m ≡ false → A) → (WeightsTaken weights → A) → A
  by_weights two three good =
      if-so (eqb (length weights) last_month)
      (λ t. let e = eqb-true (length weights) last_month t in by_all fits last_month (λ h. good (record { twelve = e; fit = h })) (three e))
      (λ t. two (eqb-false (length weights) last_month t))

-- ---- 18
module _ (s : Span) where
  abbrev wet : ℕ → Bool
  wet k = had_water (record_at s.records (s.first + k))

  years-18 : TooFew s → years_refusal s ≡ few_years
  unfolding years_refusal
  years-18 (few l) = rw (lt-leb fewest_years s.years l)
  years-18 (z_only k l h) = rw (all-spoilt wet (last_month * s.years) k l h, and-false (leb fewest_years s.years))

  pub years-0 : TenYears s → years_refusal s ≡ 0
  unfolding years_refusal
  years-0 t = rw (le-leb fewest_years s.years t.ten, all-of wet (last_month * s.years) t.water)

  by-years : {A : Type 0} → (TooFew s → A) → (TenYears s → A) → A
  by-years bad good =
      if-so (leb fewest_years s.years)
      (λ t. by_all wet (last_month * s.years) (λ h. good (record { ten = leb-true fewest_years s.years t; water = h })) (λ k l h. bad (z_only k l h)))
      (λ t. bad (few (leb-false fewest_years s.years t)))

-- ---- 19, 20 and 21
module _ (s : Span) (weights : List ℤ) where
  abbrev gamma : ℕ → ℕ
  gamma m = gamma_of (sums_in s m)

  abbrev total : ℕ
  total = total_in s weights

  abbrev k-of : ℕ → ℕ
  k-of m = k_of total (weight_at weights m)

  abbrev gamma-in : ℕ → Bool
  gamma-in m = leb (gamma m) most_gamma

  abbrev k-in : ℕ → Bool
  k-in m = leb (k-of m) most_k

  pub gammas-in : GammasIn s → gammas_fit s last_month ≡ true
  gammas-in g = all-of gamma-in last_month (λ m l. le-leb (gamma m) most_gamma (g m l))

  pub ks-in : KsIn s weights → ks_fit total weights last_month ≡ true
  ks-in k = all-of k-in last_month (λ m l. le-leb (k-of m) most_k (k.fit m l))

  set-19 : (m : ℕ) → m < last_month → most_gamma < gamma m → set_refusal s weights ≡ bad_gamma
  unfolding set_refusal
  set-19 m l h = rw (all-spoilt gamma-in last_month m l (lt-leb (gamma m) most_gamma h))

  set-20 : GammasIn s → KsOut s weights → set_refusal s weights ≡ bad_k
  unfolding set_refusal
  set-20 g (nothing e) = rw (gammas-in g, eq-eqb total 0 e)
  set-20 g (above m l h) = rw (gammas-in g, all-spoilt k-in last_month m l (lt-leb (k-of m) most_k h), and-false _)

  set-21 : GammasIn s → KsIn s weights → ZeroK (sixty_in s weights) → set_refusal s weights ≡ zero_k
  unfolding set_refusal
  set-21 g k z = rw (gammas-in g, ne_eqb total 0 k.some, ks-in k, (zero-k-exactly (sixty_in s weights)).1 z)

  set-0 : GammasIn s → KsIn s weights → (ZeroK (sixty_in s weights) → ⊥) → set_refusal s weights ≡ 0
  unfolding set_refusal
  set-0 g k z = rw (gammas-in g, ne_eqb total 0 k.some, ks-in k, (no-zero-k-exactly (sixty_in s weights)).1 z)

  by-set : {A : Type 0} → ((m : ℕ) → m < last_month → most_gamma < gamma m → A) → (GammasIn s → KsOut s weights → A) → (GammasIn s → KsIn s weights → ZeroK (sixty_in s weights) → A)
      → (GammasIn s → KsIn s weights → (ZeroK (sixty_in s weights) → ⊥) → A) → A
  by-set gamma-out k-out zero-k good =
      by_all gamma-in last_month
      (λ h. let g : GammasIn s = λ m l. leb-true (gamma m) most_gamma (h m l) in
      if-so (eqb total 0)
      (λ t. k-out g (nothing (eqb-true total 0 t)))
      (λ t. by_all k-in last_month
      (λ i. let k : KsIn s weights = record { some = eqb-false total 0 t; fit = λ m l. leb-true (k-of m) most_k (i m l) } in
      if-so (some_zero_k (sixty_in s weights))
      (λ z. zero-k g k ((zero-k-exactly (sixty_in s weights)).0 z))
      (λ z. good g k ((no-zero-k-exactly (sixty_in s weights)).0 z)))
      (λ m l h. k-out g (above m l (leb-false (k-of m) most_k h)))))
      (λ m l h. gamma-out m l (leb-false (gamma m) most_gamma h))

-- ---- WORKED OUT AGAIN
module _ (r : Run) (weights : List ℤ) (cs : Book) where
  abbrev its : Span
  its = span_of r cs

  abbrev number : ℕ
  number = (work_out r weights cs).number

  number_is : number ≡ work_out_refusal r weights cs
  unfolding work_out
  number_is = go (work_out_refusal r weights cs)
    where
      go : (k : ℕ) → (unless_refused k (worked_out its weights) (not_worked_out k)).number ≡ k
      go zero = refl
      go (suc k) = refl

  pub refused : (number ≡ 0 → ⊥) → work_out r weights cs ≡ not_worked_out number
  unfolding work_out
  refused h = rw number_is (is-refused (work_out_refusal r weights cs) _ _ (λ z. h (number_is ∙ z)))

  pub worked : number ≡ 0 → work_out r weights cs ≡ worked_out its weights
  unfolding work_out
  worked e = is-done (work_out_refusal r weights cs) _ _ (sym number_is ∙ e)

  of-record : {n : ℕ} → record_refusal r cs ≡ suc n → number ≡ suc n
  unfolding work_out_refusal
  of-record e = number_is ∙ rw e

  of-weights : Given r cs → {n : ℕ} → weights_refusal weights ≡ suc n → number ≡ suc n
  unfolding work_out_refusal
  of-weights g e = number_is ∙ rw (record-0 r cs g, e)

  of-years : Given r cs → WeightsTaken weights → {n : ℕ} → years_refusal its ≡ suc n → number ≡ suc n
  unfolding work_out_refusal
  of-years g w e = number_is ∙ rw (record-0 r cs g, weights-0 weights w, e)

  of-set : Workable r weights cs → number ≡ set_refusal its weights
  unfolding work_out_refusal
  of-set w = number_is ∙ rw (record-0 r cs w.given, weights-0 weights w.weighed, years-0 its w.years)

  -- each case gives its number, and the number that is given has its case
  given : (n : ℕ) → WorkOutGives r weights cs n → number ≡ n
  given n (work-0 w g k z) = of-set w ∙ set-0 its weights g k z
  given n (work-1 f) = of-record (record-1 r cs f)
  given n (work-7 f h) = of-record (record-7 r cs f h)
  given n (work-2 g h) = of-weights g (weights-2 weights h)
  given n (work-3 g e m l h) = of-weights g (weights-3 weights e m l h)
  given n (work-18 g w h) = of-years g w (years-18 its h)
  given n (work-19 w m l h) = of-set w ∙ set-19 its weights m l h
  given n (work-20 w g h) = of-set w ∙ set-20 its weights g h
  given n (work-21 w g k z) = of-set w ∙ set-21 its weights g k z

  told : {n : ℕ} → WorkOutGives r weights cs n → WorkOutGives r weights cs number
  told {n} g = subst (WorkOutGives r weights cs) (sym (given n g)) g

  gives : WorkOutGives r weights cs number
  gives =
      by-record r cs (λ f. told (work-1 f)) (λ f h. told (work-7 f h))
      (λ g. by_weights weights (λ h. told (work-2 g h)) (λ e m l h. told (work-3 g e m l h))
      (λ t. by-years its (λ h. told (work-18 g t h))
      (λ y. let w : Workable r weights cs = record { given = g; weighed = t; years = y } in
      by-set its weights (λ m l h. told (work-19 w m l h)) (λ i h. told (work-20 w i h)) (λ i k z. told (work-21 w i k z)) (λ i k z. told (work-0 w i k z)))))

  pub works-exactly : (n : ℕ) → (number ≡ n) ↔ WorkOutGives r weights cs n
  works-exactly = exactly (WorkOutGives r weights cs) number gives given

-- ---- THE SUMS OF A CALENDAR MONTH
module _ (r : Run) (month : ℤ) (cs : Book) where
  abbrev sum_number : ℕ
  sum_number = (sum_month r month cs).number

  sum-number-is : sum_number ≡ sum_refusal r month cs
  unfolding sum_month
  sum-number-is = go (sum_refusal r month cs)
    where
      go : (k : ℕ) → (unless_refused k (summed (span_of r cs) (nat_abs month - 1)) (not_summed k)).number ≡ k
      go zero = refl
      go (suc k) = refl

  pub refused_sums : (sum_number ≡ 0 → ⊥) → sum_month r month cs ≡ not_summed sum_number
  unfolding sum_month
  refused_sums h = rw sum-number-is (is-refused (sum_refusal r month cs) _ _ (λ z. h (sum-number-is ∙ z)))

  pub summed-up : sum_number ≡ 0 → sum_month r month cs ≡ summed (span_of r cs) (nat_abs month - 1)
  unfolding sum_month
  summed-up e = is-done (sum_refusal r month cs) _ _ (sym sum-number-is ∙ e)

  sums-of-record : {n : ℕ} → record_refusal r cs ≡ suc n → sum_number ≡ suc n
  unfolding sum_refusal
  sums-of-record e = sum-number-is ∙ rw e

  sums-of-month : Given r cs → month_fits month ≡ false → sum_number ≡ bad_month
  unfolding sum_refusal
  sums-of-month g h = sum-number-is ∙ rw (record-0 r cs g, h)

  sums-of-years : Given r cs → month_fits month ≡ true → sum_number ≡ years_refusal (span_of r cs)
  unfolding sum_refusal
  sums-of-years g h = sum-number-is ∙ rw (record-0 r cs g, h)

  sum-given : (n : ℕ) → SumGives r month cs n → sum_number ≡ n
  sum-given n (sum-0 g h t) = sums-of-years g h ∙ years-0 (span_of r cs) t
  sum-given n (sum-1 f) = sums-of-record (record-1 r cs f)
  sum-given n (sum-7 f h) = sums-of-record (record-7 r cs f h)
  sum-given n (sum-6 g h) = sums-of-month g h
  sum-given n (sum-18 g h t) = sums-of-years g h ∙ years-18 (span_of r cs) t

  sum_told : {n : ℕ} → SumGives r month cs n → SumGives r month cs sum_number
  sum_told {n} g = subst (SumGives r month cs) (sym (sum-given n g)) g

  sum-gives : SumGives r month cs sum_number
  sum-gives =
      by-record r cs (λ f. sum_told (sum-1 f)) (λ f h. sum_told (sum-7 f h))
      (λ g. if-so (month_fits month)
      (λ h. by-years (span_of r cs) (λ t. sum_told (sum-18 g h t)) (λ t. sum_told (sum-0 g h t)))
      (λ h. sum_told (sum-6 g h)))

  pub sums-exactly : (n : ℕ) → (sum_number ≡ n) ↔ SumGives r month cs n
  sums-exactly = exactly (SumGives r month cs) sum_number sum-gives sum-given
