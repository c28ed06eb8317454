-- The refusals of the two calls: what a number of 0 says of the run and the columns (`record-good`), of the weights (`weights-good`) and of the years
-- (`years-good`), and that every row of the years is one that an add gives (`watered`). Assumes nothing.
use mathlib.Core.Path.{◌≡◌, refl, sym, ap, ◌∙◌}
use mathlib.Core.Bool.{Bool, true, false, cond, false≢true}
use mathlib.Core.List.{List}
use Prim.Native.Nat.{ℕ, ◌+◌, ◌-◌, ◌*◌, ◌≤◌, ◌<◌}
use native.Mathlib.Omega.{arith}
use borrow.Author.Tests.{leb-true, eqb-true, eq-eqb, ne_eqb}
use lib.Dec.{T, eqb, leb}
use lib.IntN.{ℤ, pos, negsuc, nat_abs}
use lib.Signed.{le_z, non_neg}
use lib.ListN.{length}
use mir.Syntax.{w64}
use mir.Val.{Fits}
use Rattle.outline.specs.Numbers.{last_month, most_months}
use Rattle.outline.specs.Refusals.{bad_lists, not_a_run, not_sixty, bad_constant, bad_month, bad_gamma, bad_k, zero_k, or_else}
use Rattle.outline.proofs.Tests.{if-so, each, cond-zero}
use Rattle.outline.proofs.Refusals.{or-zero, or-first, or-second, is-refused}
use Rattle.outline.proofs.Every.{all-at}
use Rattle.outline.specs.Refused.{refusal_number}
use Rattle.outline.specs.declared.Refusal.{Refusal}
use Rattle.outline.proofs.Refused.{number-ne-zero}
use Rattle.ranges.specs.Ranges.{calendar_fits}
use Rattle.ranges.proofs.RangeLaws.{is-calendar}
use Rattle.calendar.specs.Calendar.{some_zero_k}
use Rattle.runs.specs.RunFits.{RunFits}
use Rattle.runs.specs.Progress.{progress_of}
use Rattle.runs.specs.declared.Progress.{Progress}
use Rattle.runs.specs.declared.Run.{Run}
use Rattle.runs.proofs.RunLaws.{run_fits}
use Rattle.records.specs.Record.{record_at}
use Rattle.records.specs.Water.{had_water}
use Rattle.refusals.specs.Book.{Book, long, columns_fit}
use Rattle.refusals.specs.Good.{Good}
use Rattle.refusals.specs.Refusals.{is_run_of, run_refusal}
use Rattle.refusals.proofs.Refused.{good-passes, run-parts, columns_are}
use Rattle.refusals.proofs.Lent.{or-joined}
use Rattle.reopening.specs.Before.{calendar_back}
use Rattle.reopening.proofs.Laws.{calendar-back}
use Rattle.given_rows.specs.GivenRows.{given_by_add, rows_given}
use Rattle.given_rows.proofs.RowLaws.{given-at}
use Rattle.years.specs.Years.{first_of, years_of, all_water}
use Rattle.years.proofs.YearLaws.{first-low, years-inside, years-some, years-most}
use Rattle.starts.specs.Start.{month_fits}
use Rattle.weighing.specs.Weighing.{Span, span, gammas_fit, weights_fit, total_in, ks_fit, sixty_in}
use Rattle.weighing.specs.Stores.{Years}
use Rattle.constants.specs.WorkOut.{span_of, record_refusal, weights_refusal, fewest_years, years_refusal, set_refusal, work_out_refusal, sum_refusal, worked_out, not_worked_out, set_of, work_out, summed, not_summed, sum_month}
use Rattle.constants.specs.Asked.{asked_refusal}

-- a refusal that a test answers: the test is not passed, and the refusal is its
pub refused-by : (e : Refusal) (b : Bool) (n : ℕ) → refusal_number e ≡ cond b 0 n → (b ≡ false) × (refusal_number e ≡ n)
refused-by e true n h = absurd (number-ne-zero e h)
refused-by e false n h = (refl, h)

-- ---- 1 and 7
module _ (r : Run) (cs : Book) where
  abbrev rows : Bool
  rows = rows_given r.soil.capacity cs.records r.months

  -- 1, and 7 of a run
  pub run-refuses : (run_refusal r cs ≡ 0 → ⊥) → run_refusal r cs ≡ record_refusal r cs
  unfolding record_refusal run_refusal
  run-refuses h =
      if-so (columns_fit cs)
      (λ f. if-so (is_run_of cs r) (λ g. absurd (h (good-passes r cs (record { fit = f; run = g })))) (λ g. rw (f, g)))
      (λ f. rw f)

  -- 7 of a row
  pub rows-refuse : Good r cs → rows ≡ false → not_a_run ≡ record_refusal r cs
  unfolding record_refusal
  rows-refuse g h = rw (g.fit, g.run, h)

  pub rows_pass : Good r cs → rows ≡ true → 0 ≡ record_refusal r cs
  unfolding record_refusal
  rows_pass g h = rw (g.fit, g.run, h)

  -- neither
  pub record-good : record_refusal r cs ≡ 0 → Good r cs × (rows ≡ true)
  unfolding record_refusal
  record-good h =
      let a = or-zero (cond (columns_fit cs) 0 bad_lists) _ h in
      let b = each (is_run_of cs r) rows (cond-zero _ 6 a.1) in
      (record { fit = cond-zero _ 0 a.0; run = b.0 }, b.1)

  pub run_is : Good r cs → RunFits (long cs) r
  run_is g = run_fits (long cs) r (run-parts r cs g.run).0

  pub calendar-good : Good r cs → calendar_fits r.calendar ≡ true
  calendar-good g = let f = run_is g in is-calendar r.calendar f.first_month f.last_month

  -- the first January, and all the years, lie within the lists
  module _ (g : Good r cs) where
    pub first-most : first_of r ≤ most_months
    first-most = omega (arith, first-low (calendar_back r.calendar r.months) (calendar-back r.calendar r.months (calendar-good g)))

    pub years-room : first_of r ≤ r.months → (first_of r + last_month * years_of r ≤ r.months) × (r.months ≤ length cs.records) × (length cs.records ≤ most_months)
    years-room h =
        let l = columns_are cs g.fit in
        (years-inside (first_of r) r.months h, omega (arith, (run_is g).months, l.records_is), omega (arith, l.records_is, l.most))

-- ---- 2 and 3
pub weights-good : (weights : List ℤ) → weights_refusal weights ≡ 0 → (length weights ≡ last_month) × (weights_fit weights last_month ≡ true)
unfolding weights_refusal
weights-good weights h = go (eqb (length weights) last_month) (weights_fit weights last_month) refl h
  where
    go : (a b : Bool) → eqb (length weights) last_month ≡ a → cond a (cond b 0 bad_constant) not_sixty ≡ 0 → (length weights ≡ last_month) × (b ≡ true)
    go true b e k = (eqb-true _ _ e, cond-zero b 2 k)
    go false b e k = absurd (omega arith)

-- ---- 18
-- where there are ten years, there is a first January
pub some_first : (r : Run) → fewest_years ≤ years_of r → first_of r ≤ r.months
some_first r h = years-some (first_of r) r.months (omega arith)

module _ (r : Run) (cs : Book) (h : years_refusal (span_of r cs) ≡ 0) where
  pub years-good : (fewest_years ≤ years_of r) × (all_water cs.records (first_of r) (last_month * years_of r) ≡ true)
  unfolding years_refusal
  years-good =
      let a = each (leb fewest_years (years_of r)) (all_water cs.records (first_of r) (last_month * years_of r)) (cond-zero _ 17 h) in
      (leb-true _ _ a.0, a.1)

  pub first-inside : first_of r ≤ r.months
  first-inside = some_first r years-good.0

-- ---- every row of the years is one that an add gives
module _ (r : Run) (cs : Book) (k : record_refusal r cs ≡ 0) (h : years_refusal (span_of r cs) ≡ 0) where
  abbrev capacity : ℕ
  capacity = r.soil.capacity

  row-given : (m y : ℕ) → m < last_month → y < years_of r → given_by_add capacity (record_at cs.records (first_of r + m + last_month * y)) ≡ true
  row-given m y a b =
      let g = record-good r cs k in
      let room = years-room r cs g.0 (first-inside r cs h) in
      let e : first_of r + m + last_month * y ≡ first_of r + (m + last_month * y) = omega arith in
      let w = all-at (λ i. had_water (record_at cs.records (first_of r + i))) (last_month * years_of r) (m + last_month * y) (years-good r cs h).1 (omega arith) in
      rw e (given-at capacity cs.records r.months (first_of r + (m + last_month * y)) g.1 (omega (arith, room.0)) w)

  pub watered : Years capacity cs.records (first_of r) (years_of r)
  watered m a =
      let g = record-good r cs k in
      let f = run_is r cs g.0 in
      let room = years-room r cs g.0 (first-inside r cs h) in
      record {
        least = f.soil.least;
        most = f.soil.most;
        few = years-most (first_of r) r.months (omega (arith, room.1, room.2));
        inside = λ y b. omega (arith, room.0, room.1);
        given = λ y b. row-given m y a b;
      }

-- the same of the years as they are worked out of a run's progress
module _ (r : Run) (cs : Book) (p : Progress) (first years : ℕ) (a : p ≡ progress_of r) (b : first ≡ first_of r) (c : years ≡ years_of r) where
  pub span-is : span p.soil.capacity cs.records first years ≡ span_of r cs
  span-is = rw (a, b, c)

  pub watered-from : record_refusal r cs ≡ 0 → years_refusal (span_of r cs) ≡ 0 → Years p.soil.capacity cs.records first years
  watered-from k h = rw (a, b, c) (watered r cs k h)

  pub first-within : Good r cs → first ≤ most_months
  first-within g = rw b (first-most r cs g)

-- ---- 19, 20 and 21: what each comes to, where those before it are passed
module _ (s : Span) (weights : List ℤ) where
  abbrev refused : ℕ → Type 0
  refused k = not_worked_out k ≡ set_of s weights

  pub gamma-refuses : gammas_fit s last_month ≡ false → refused bad_gamma
  unfolding set_of set_refusal
  gamma-refuses g = rw g

  module _ (g : gammas_fit s last_month ≡ true) where
    pub total-refuses : total_in s weights ≡ 0 → refused bad_k
    unfolding set_of set_refusal
    total-refuses t = rw (g, eq-eqb _ _ t)

    module _ (t : total_in s weights ≡ 0 → ⊥) where
      pub ks-refuse : ks_fit (total_in s weights) weights last_month ≡ false → refused bad_k
      unfolding set_of set_refusal
      ks-refuse k = rw (g, ne_eqb _ _ t, k)

      module _ (k : ks_fit (total_in s weights) weights last_month ≡ true) where
        pub zero-refuses : some_zero_k (sixty_in s weights) ≡ true → refused zero_k
        unfolding set_of set_refusal
        zero-refuses z = rw (g, ne_eqb _ _ t, k, z)

        pub set-passes : some_zero_k (sixty_in s weights) ≡ false → worked_out s weights ≡ set_of s weights
        unfolding set_of set_refusal
        set-passes z = rw (g, ne_eqb _ _ t, k, z)

-- ---- the calls
module _ (r : Run) (cs : Book) (k : ℕ) (h : asked_refusal r k cs ≡ 0) where
  -- what passes for both
  pub asked-passes : (record_refusal r cs ≡ 0) × (k ≡ 0) × (years_refusal (span_of r cs) ≡ 0)
  unfolding asked_refusal
  asked-passes =
      let a = or-zero (record_refusal r cs) (or_else k (years_refusal (span_of r cs))) h in
      let b = or-zero k (years_refusal (span_of r cs)) a.1 in
      (a.0, b.0, b.1)

  pub asked-good : Good r cs
  asked-good = (record-good r cs asked-passes.0).0

module _ (r : Run) (weights : List ℤ) (cs : Book) where
  -- what is asked first, and then the set's own
  work-joined : work_out_refusal r weights cs ≡ or_else (asked_refusal r (weights_refusal weights) cs) (set_refusal (span_of r cs) weights)
  unfolding work_out_refusal asked_refusal
  work-joined =
      let w = weights_refusal weights in
      let y = years_refusal (span_of r cs) in
      sym (or-joined (record_refusal r cs) (or_else w y) (set_refusal (span_of r cs) weights) ∙ ap (or_else (record_refusal r cs)) (or-joined w y (set_refusal (span_of r cs) weights)))

  pub work-refused : (asked_refusal r (weights_refusal weights) cs ≡ 0 → ⊥) → not_worked_out (asked_refusal r (weights_refusal weights) cs) ≡ work_out r weights cs
  unfolding work_out
  work-refused h =
      let a = asked_refusal r (weights_refusal weights) cs in
      let e : work_out_refusal r weights cs ≡ a = work-joined ∙ or-first a _ h in
      rw e (sym (is-refused a (worked_out (span_of r cs) weights) (not_worked_out a) h))

  pub work-done : asked_refusal r (weights_refusal weights) cs ≡ 0 → set_of (span_of r cs) weights ≡ work_out r weights cs
  unfolding work_out set_of
  work-done h =
      let e : work_out_refusal r weights cs ≡ set_refusal (span_of r cs) weights = work-joined ∙ or-second _ _ h in
      rw e refl

-- ---- the sums of a calendar month
module _ (month : ℤ) (h : month_fits month ≡ true) where
  pub month-low : (1 ≤ nat_abs month) × (nat_abs month ≤ last_month)
  unfolding month_fits
  month-low = let a = each (le_z (pos 1) month) (le_z month (pos last_month)) h in sizes month a.0 a.1
    where
      sizes : (x : ℤ) → le_z (pos 1) x ≡ true → le_z x (pos last_month) ≡ true → (1 ≤ nat_abs x) × (nat_abs x ≤ last_month)
      sizes (pos n) a b = (leb-true 1 n a, leb-true n last_month b)
      sizes (negsuc n) a b = absurd (false≢true a)

  -- and is read as it stands
  pub month-wide : T (non_neg month) × Fits w64 (nat_abs month)
  unfolding month_fits
  month-wide = (sign month (each (le_z (pos 1) month) (le_z month (pos last_month)) h).0, omega (arith, month-low.1))
    where
      sign : (x : ℤ) → le_z (pos 1) x ≡ true → T (non_neg x)
      sign (pos n) a = tt
      sign (negsuc n) a = absurd (false≢true a)

module _ (r : Run) (month : ℤ) (cs : Book) where
  abbrev own : ℕ
  own = cond (month_fits month) 0 bad_month

  sum-joined : sum_refusal r month cs ≡ asked_refusal r own cs
  unfolding sum_refusal asked_refusal
  sum-joined = refl

  pub sum-refused : (asked_refusal r own cs ≡ 0 → ⊥) → not_summed (asked_refusal r own cs) ≡ sum_month r month cs
  unfolding sum_month
  sum-refused h = rw sum-joined (sym (is-refused (asked_refusal r own cs) (summed (span_of r cs) (nat_abs month - 1)) (not_summed (asked_refusal r own cs)) h))

  pub sum_done : asked_refusal r own cs ≡ 0 → summed (span_of r cs) (nat_abs month - 1) ≡ sum_month r month cs
  unfolding sum_month
  sum_done h = rw (sum-joined, h) refl
