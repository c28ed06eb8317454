-- Which number a repair gives, and exactly when; and that a refused one leaves all as it was. Assumes nothing.
use mathlib.Core.Path.{◌≡◌, refl, sym, ◌∙◌, subst}
use mathlib.Core.Bool.{true, false, cond}
use mathlib.Core.Logic.{◌↔◌, ⊎_elim}
use mathlib.Core.List.{List}
use Prim.Native.Nat.{ℕ, zero, suc, ◌≤◌, ◌<◌}
use borrow.Author.Tests.{eqb-true, eqb-false, eq-eqb, ne_eqb, ltb-true, ltb-false, lt-ltb, le-ltb}
use lib.Dec.{eqb, ltb}
use lib.IntN.{ℤ}
use lib.ListN.{length}
use Rattle.outline.specs.Refusals.{bad_lists, not_a_run, no_such_row, waterless, missing, not_acceptable, or_else, unless_refused}
use Rattle.outline.proofs.Tests.{if-so}
use Rattle.outline.proofs.Refusals.{is-done, is-refused}
use Rattle.door.specs.Readings.{reading}
use Rattle.door.specs.declared.Reading.{Reading}
use Rattle.runs.specs.declared.Run.{Run}
use Rattle.records.specs.Record.{record_at}
use Rattle.refusals.specs.Book.{Book, long, columns_fit}
use Rattle.refusals.specs.Refusals.{is_run_of}
use Rattle.refusals.specs.Good.{Good}
use Rattle.kept_rows.specs.KeptRows.{rows_fit}
use Rattle.records.specs.Water.{had_water}
use Rattle.reworking.specs.Reworked.{Left, reworked_from}
use Rattle.repair.specs.Repair.{repair_refusal, repaired, not_repaired, repair_outcomes, repair}
use Rattle.demands.specs.Given.{MonthGives}
use Rattle.demands.specs.Repairs.{Repairable, Watery, RepairGives, repair-0, repair-1, repair-1-report, repair-7, repair-7-row, repair-11, repair-17, repair-8, repair-9}
use Rattle.demands.proofs.Given.{zero_or, exactly, by-run, month-gives, month-given, month-which}

module _ (r : Run) (i : ℕ) (p pe : Reading) (cs : Book) (report : List (List ℤ)) where
  abbrev number : ℕ
  number = (repair r i p pe cs report).answer.number

  -- the number of the two readings
  abbrev itself : ℕ
  itself = or_else (reading p).number (reading pe).number

  abbrev refusal : ℕ
  refusal = repair_refusal r i (reading p).number (reading pe).number cs (length report)

  -- all from the month on, reworked
  abbrev pub done : Left
  done = reworked_from r i (reading p).water (reading pe).water (reading p).kind cs

  pub number_is : number ≡ refusal
  unfolding repair repair_outcomes
  number_is = go refusal
    where
      go : (k : ℕ) → (unless_refused k (repaired r.months cs report done) (not_repaired k r cs report)).answer.number ≡ k
      go zero = refl
      go (suc k) = refl

  pub refused : (number ≡ 0 → ⊥) → repair r i p pe cs report ≡ not_repaired number r cs report
  unfolding repair repair_outcomes
  refused h = rw number_is (is-refused refusal _ _ (λ z. h (number_is ∙ z)))

  pub is-repaired : number ≡ 0 → repair r i p pe cs report ≡ repaired r.months cs report done
  unfolding repair repair_outcomes
  is-repaired z = is-done refusal _ _ (sym number_is ∙ z)

  -- ---- clause by clause
  of-lists : columns_fit cs ≡ false → number ≡ bad_lists
  unfolding repair_refusal
  of-lists f = number_is ∙ rw f

  of-report : (length report ≡ long cs → ⊥) → number ≡ bad_lists
  unfolding repair_refusal
  of-report h = number_is ∙ if-so (columns_fit cs) (λ t. rw (t, ne_eqb (length report) (long cs) h)) (λ f. rw f)

  of-run : columns_fit cs ≡ true → length report ≡ long cs → is_run_of cs r ≡ false → number ≡ not_a_run
  unfolding repair_refusal
  of-run f e h = number_is ∙ rw (f, eq-eqb (length report) (long cs) e, h)

  of-rows : Good r cs → length report ≡ long cs → rows_fit r.soil.capacity cs r.months ≡ false → number ≡ not_a_run
  unfolding repair_refusal
  of-rows g e h = number_is ∙ rw (g.fit, eq-eqb (length report) (long cs) e, g.run, h)

  module _ (k : Repairable r cs report) where
    after-7 : number ≡ or_else (cond (ltb i r.months) 0 no_such_row) (or_else (cond (had_water (record_at cs.records i)) 0 waterless) itself)
    unfolding repair_refusal
    after-7 = number_is ∙ rw (k.good.fit, eq-eqb (length report) (long cs) k.report_long, k.good.run, k.rows)

    of_row : r.months ≤ i → number ≡ no_such_row
    of_row l = after-7 ∙ rw (le-ltb i r.months l)

    of_water : i < r.months → had_water (record_at cs.records i) ≡ false → number ≡ waterless
    of_water l h = after-7 ∙ rw (lt-ltb i r.months l, h)

  of-readings : Watery r i cs report → number ≡ itself
  of-readings w = after-7 w.repairable ∙ rw (lt-ltb i r.months w.row, w.water)

  -- ---- each case gives its number, and the number that is given has its case
  given : (n : ℕ) → RepairGives r i p pe cs report n → number ≡ n
  given n (repair-0 w m) = of-readings w ∙ month-given p pe 0 m
  given n (repair-1 f) = of-lists f
  given n (repair-1-report h) = of-report h
  given n (repair-7 f e h) = of-run f e h
  given n (repair-7-row g e h) = of-rows g e h
  given n (repair-11 k l) = of_row k l
  given n (repair-17 k l h) = of_water k l h
  given n (repair-8 w m) = of-readings w ∙ month-given p pe missing m
  given n (repair-9 w m) = of-readings w ∙ month-given p pe not_acceptable m

  by-readings : Watery r i cs report → RepairGives r i p pe cs report number
  by-readings w =
      let m = month-gives p pe in
      subst (RepairGives r i p pe cs report) (sym (of-readings w))
      (⊎_elim
      (λ z. subst (RepairGives r i p pe cs report) (sym z) (repair-0 w (subst (MonthGives p pe) z m)))
      (λ h. ⊎_elim
      (λ e. subst (RepairGives r i p pe cs report) (sym e) (repair-8 w (subst (MonthGives p pe) e m)))
      (λ e. subst (RepairGives r i p pe cs report) (sym e) (repair-9 w (subst (MonthGives p pe) e m)))
      (month-which p pe itself m h))
      (zero_or itself))

  by_rows : Repairable r cs report → RepairGives r i p pe cs report number
  by_rows k =
      if-so (ltb i r.months)
      (λ t. let l = ltb-true i r.months t in
      if-so (had_water (record_at cs.records i))
      (λ w. by-readings (record { repairable = k; row = l; water = w }))
      (λ h. subst (RepairGives r i p pe cs report) (sym (of_water k l h)) (repair-17 k l h)))
      (λ t. let l = ltb-false i r.months t in subst (RepairGives r i p pe cs report) (sym (of_row k l)) (repair-11 k l))

  gives : RepairGives r i p pe cs report number
  gives =
      if-so (eqb (length report) (long cs))
      (λ t. let e = eqb-true (length report) (long cs) t in
      by-run r cs
      (λ f. subst (RepairGives r i p pe cs report) (sym (of-lists f)) (repair-1 f))
      (λ f h. subst (RepairGives r i p pe cs report) (sym (of-run f e h)) (repair-7 f e h))
      (λ g. if-so (rows_fit r.soil.capacity cs r.months)
      (λ h. by_rows (record { good = g; report_long = e; rows = h }))
      (λ h. subst (RepairGives r i p pe cs report) (sym (of-rows g e h)) (repair-7-row g e h))))
      (λ t. let h = eqb-false (length report) (long cs) t in subst (RepairGives r i p pe cs report) (sym (of-report h)) (repair-1-report h))

  pub repairs-exactly : (n : ℕ) → (number ≡ n) ↔ RepairGives r i p pe cs report n
  repairs-exactly = exactly (RepairGives r i p pe cs report) number gives given
