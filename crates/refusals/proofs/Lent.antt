-- By the length of what is lent: where it can be lent that is its length, and every refusal is as Refusals.antt (specs) has it. Assumes nothing.
use mathlib.Core.Path.{◌≡◌, refl, ap, ◌∙◌}
use mathlib.Core.Bool.{Bool, true, false, cond}
use Prim.Native.Nat.{ℕ, zero, suc, ◌≤◌}
use native.Mathlib.Omega.{arith}
use borrow.Author.Tests.{ne_eqb}
use lib.Dec.{ltb}
use lib.IntN.{ℤ}
use lib.ListN.{length}
use Rattle.outline.specs.Numbers.{z_fits}
use Rattle.outline.specs.Refusals.{bad_lists, not_a_run, no_such_row, bad_z, or_else}
use Rattle.outline.proofs.Tests.{if-so}
use Rattle.runs.specs.declared.Run.{Run}
use Rattle.refusals.specs.Book.{Book, long, columns_fit}
use Rattle.refusals.specs.Refusals.{is_run_for, run_refusal, room_refusal, water_refusal, z_refusal, row_refusal}
use Rattle.refusals.specs.Lent.{lent_length, lent_long, reading_refusal, run_refusal_for, water_refusal_for, z_refusal_for, row_refusal_for, row_number_for}
use Rattle.refusals.proofs.Refused.{columns_are}

-- two tests in a row, and a third: joined one way or the other
pub or-joined : (a b c : ℕ) → or_else (or_else a b) c ≡ or_else a (or_else b c)
or-joined zero b c = refl
or-joined (suc a) b c = refl

pub or_nothing : (k : ℕ) → or_else k 0 ≡ k
or_nothing zero = refl
or_nothing (suc k) = refl

module _ (cs : Book) where
  pub lent-long : columns_fit cs ≡ true → lent_long cs ≡ long cs
  unfolding lent_length
  lent-long f = rw f

  pub not-lent : columns_fit cs ≡ false → lent_long cs ≡ 0
  unfolding lent_length
  not-lent f = rw f

  -- it is at most the length of the records
  pub lent-records : lent_long cs ≤ length cs.records
  lent-records =
      if-so (columns_fit cs)
      (λ f. omega (arith, lent-long f, (columns_are cs f).records_is))
      (λ f. omega (arith, not-lent f))

  module _ (r : Run) where
    pub run_lent : run_refusal_for (lent_long cs) r cs.records ≡ run_refusal r cs
    unfolding run_refusal_for run_refusal
    run_lent =
        if-so (columns_fit cs)
        (λ f. let l = columns_are cs f in rw (f, lent-long f, ne_eqb (long cs) 0 (λ e. omega (arith, e, l.least))))
        (λ f. rw (f, not-lent f))

    -- what is asked after it, of lists that can be lent
    after : (b c : ℕ) → (columns_fit cs ≡ true → b ≡ c) → or_else (run_refusal r cs) b ≡ or_else (run_refusal r cs) c
    unfolding run_refusal
    after b c e =
        if-so (columns_fit cs)
        (λ f. ap (or_else (run_refusal r cs)) (e f))
        (λ f. rw f)

    room-lent : columns_fit cs ≡ true → room_refusal (lent_long cs) r.months ≡ room_refusal (long cs) r.months
    room-lent f = ap (λ (n : ℕ). room_refusal n r.months) (lent-long f)

    pub water-lent : (p pe : ℕ) → water_refusal_for (lent_long cs) r (reading_refusal p pe) cs.records ≡ water_refusal r p pe cs
    unfolding water_refusal_for water_refusal
    water-lent p pe =
        ap (λ (k : ℕ). or_else k (or_else (or_else p pe) (room_refusal (lent_long cs) r.months))) run_lent
        ∙ after _ _ (λ f. or-joined p pe _ ∙ ap (λ (k : ℕ). or_else p (or_else pe k)) (room-lent f))

    pub z-lent : (z : ℤ) → z_refusal_for (lent_long cs) r z cs.records ≡ z_refusal r z cs
    unfolding z_refusal_for z_refusal
    z-lent z =
        let k = cond (z_fits z) 0 bad_z in
        ap (λ (n : ℕ). or_else n (or_else k (room_refusal (lent_long cs) r.months))) run_lent
        ∙ after _ _ (λ f. ap (or_else k) (room-lent f))

    -- a row asks whether the lists can be lent by itself
    row-lent : (i : ℕ) → columns_fit cs ≡ true → row_refusal_for (long cs) r i cs.records ≡ row_refusal r i cs
    unfolding row_refusal_for row_refusal run_refusal
    row-lent i f = rw f (then (is_run_for (long cs) r cs.records) (cond (ltb i r.months) 0 no_such_row))
      where
        then : (b : Bool) (k : ℕ) → cond b k not_a_run ≡ or_else (cond b 0 not_a_run) k
        then true k = refl
        then false k = refl

    row-not-lent : (i : ℕ) → columns_fit cs ≡ false → row_refusal r i cs ≡ bad_lists
    unfolding row_refusal run_refusal
    row-not-lent i f = rw f

    pub row_number : (i : ℕ) → row_number_for (columns_fit cs) r i cs.records ≡ row_refusal r i cs
    unfolding row_number_for
    row_number i =
        if-so (columns_fit cs) (λ f. rw (f, (columns_are cs f).records_is) (row-lent i f)) (λ f. rw (f, row-not-lent i f))
