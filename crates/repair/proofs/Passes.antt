-- A repair's refusals: what each test answers where it fails, and what a number of 0 says of the run, the columns and the report. Assumes nothing.
use mathlib.Core.Path.{◌≡◌, sym, ap, ◌∙◌}
use mathlib.Core.Bool.{true, false, cond, ◌&&◌}
use Prim.Native.Nat.{ℕ, ◌≤◌, ◌<◌}
use native.Mathlib.Omega.{arith}
use lib.Dec.{eqb, ltb}
use mir.Syntax.{w32}
use mir.Val.{SFits, of_z}
use borrow.Author.Tests.{eq-eqb, ne_eqb, eqb-true, ltb-true, lt-ltb, le-ltb}
use Rattle.outline.specs.Refusals.{bad_lists, not_a_run, no_such_row, waterless, or_else}
use Rattle.outline.proofs.Tests.{if-so, both, each, cond-zero}
use Rattle.outline.proofs.Refusals.{or-zero}
use Rattle.runs.specs.declared.Run.{Run}
use Rattle.records.specs.Record.{record_at}
use Rattle.records.specs.declared.Record.{Record}
use Rattle.records.proofs.Fitting.{amounts-is}
use Rattle.refusals.specs.Book.{Book, long, columns_fit}
use Rattle.refusals.specs.Good.{Good}
use Rattle.refusals.specs.Lent.{lent_long, reading_refusal}
use Rattle.refusals.specs.Refusals.{is_run_of, run_refusal}
use Rattle.refusals.proofs.Refused.{good-passes}
use Rattle.refusals.proofs.Lent.{lent-long, or_nothing}
use Rattle.kept_rows.specs.KeptRows.{rows_fit}
use Rattle.records.specs.Water.{had_water}
use Rattle.reworking.specs.Workable.{Workable}
use Rattle.repair.specs.Repair.{repair_refusal}

-- `m.water == 1`, so and not, of a record that stands there
module _ (m n : Record) (e : m ≡ n) (f : SFits w32 m.water) where
  test-is : eqb (of_z w32 m.water) 1 ≡ had_water n
  test-is = amounts-is m.water 1 f (omega arith) ∙ ap had_water e

  pub with-water : of_z w32 m.water ≡ 1 → had_water n ≡ true
  with-water h = sym test-is ∙ eq-eqb (of_z w32 m.water) 1 h

  pub without-water : (of_z w32 m.water ≡ 1 → ⊥) → had_water n ≡ false
  without-water h = sym test-is ∙ ne_eqb (of_z w32 m.water) 1 h

module _ (r : Run) (i : ℕ) (cs : Book) (n : ℕ) where
  -- the two readings' numbers may be joined to one, and PE's then be 0
  pub joined : (p pe : ℕ) → repair_refusal r i (reading_refusal p pe) 0 cs n ≡ repair_refusal r i p pe cs n
  unfolding repair_refusal
  joined p pe = rw (or_nothing (or_else p pe))

  module _ (p : ℕ) where
    abbrev asked : ℕ
    asked = repair_refusal r i p 0 cs n

    -- 1
    pub lists-refuse : (n ≡ lent_long cs → ⊥) → bad_lists ≡ asked
    unfolding repair_refusal
    lists-refuse h = if-so (columns_fit cs) (λ f. rw (f, ne_eqb n (long cs) (λ e. h (e ∙ sym (lent-long cs f))))) (λ f. rw f)

    module _ (e : n ≡ lent_long cs) where
      -- 1 where the lists do not fit and the report has no place, else 7
      pub run-refuses : (run_refusal r cs ≡ 0 → ⊥) → run_refusal r cs ≡ asked
      unfolding repair_refusal run_refusal
      run-refuses h =
          if-so (columns_fit cs)
          (λ f. if-so (is_run_of cs r) (λ g. absurd (h (good-passes r cs (record { fit = f; run = g })))) (λ g. rw (f, g, eq-eqb n (long cs) (e ∙ lent-long cs f))))
          (λ f. rw f)

      module _ (g : Good r cs) where
        listed : (columns_fit cs && eqb n (long cs)) ≡ true
        listed = both g.fit (eq-eqb n (long cs) (e ∙ lent-long cs g.fit))

        -- 7
        pub rows-refuse : rows_fit r.soil.capacity cs r.months ≡ false → not_a_run ≡ asked
        unfolding repair_refusal
        rows-refuse h = rw (listed, g.run, h)

        module _ (f : rows_fit r.soil.capacity cs r.months ≡ true) where
          -- 11
          pub row-refuses : r.months ≤ i → no_such_row ≡ asked
          unfolding repair_refusal
          row-refuses h = rw (listed, g.run, f, le-ltb i r.months h)

          module _ (l : i < r.months) where
            -- 17
            pub water-refuses : had_water (record_at cs.records i) ≡ false → waterless ≡ asked
            unfolding repair_refusal
            water-refuses h = rw (listed, g.run, f, lt-ltb i r.months l, h)

            -- and the readings' number
            pub readings-refuse : had_water (record_at cs.records i) ≡ true → p ≡ asked
            unfolding repair_refusal
            readings-refuse h = rw (listed, g.run, f, lt-ltb i r.months l, h) (sym (or_nothing p))

  module _ (p pe : ℕ) where
    -- nothing is refused
    pub passes : repair_refusal r i p pe cs n ≡ 0 → Workable r cs i × (n ≡ long cs)
    unfolding repair_refusal
    passes h =
        let rows = rows_fit r.soil.capacity cs r.months in
        let a = or-zero (cond (columns_fit cs && eqb n (long cs)) 0 bad_lists) _ h in
        let b = or-zero (cond (is_run_of cs r && rows) 0 not_a_run) _ a.1 in
        let c = or-zero (cond (ltb i r.months) 0 no_such_row) _ b.1 in
        let l = each (columns_fit cs) (eqb n (long cs)) (cond-zero _ 0 a.0) in
        let s = each (is_run_of cs r) rows (cond-zero _ 6 b.0) in
        (record { good = record { fit = l.0; run = s.0 }; rows = s.1; row = ltb-true i r.months (cond-zero _ 10 c.0) }, eqb-true n (long cs) l.1)
