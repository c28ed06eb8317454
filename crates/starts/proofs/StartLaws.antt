-- What the numbers of a start that is not refused say, its refusals one by one and in their order, that no other start is refused, and
-- so each number exactly when. A chain of tests, each taken apart once. Assumes nothing.
use mathlib.Core.Path.{◌≡◌, refl, sym, subst}
use mathlib.Core.Bool.{Bool, true, false, not, ◌&&◌, cond}
use mathlib.Core.Logic.{◌↔◌}
use mathlib.Core.List.{List}
use Prim.Native.Nat.{ℕ, suc, ◌≤◌}
use native.Mathlib.Omega.{arith}
use borrow.Author.Tests.{eq-eqb, ne_eqb, eqb-true, eqb-false, not-false}
use lib.Dec.{eqb}
use lib.IntN.{ℤ, pos, nat_abs}
use lib.ListN.{length}
use lib.Signed.{le_z, ◌≤ℤ◌}
use Rattle.outline.specs.Numbers.{many_constants, last_month}
use Rattle.outline.specs.Refusals.{bad_constant, zero_k}
use Rattle.outline.proofs.Tests.{if-so, first, second}
use Rattle.outline.proofs.Refusals.{is-refused}
use Rattle.exact.proofs.Z.{zs-abs, is-Z}
use Rattle.water.specs.Layers.{least_capacity, most_capacity, surface_holds, underlying_holds}
use Rattle.ranges.specs.Ranges.{constants_fit}
use Rattle.calendar.specs.Calendar.{some_zero_k}
use Rattle.calendar.proofs.CalendarLaws.{zero-k-exactly, no-zero-k-exactly}
use Rattle.starts.specs.Start.{up_to, capacity_fits, storages_fit, month_fits, start_refusal, zero_run, fresh_run, started, start_of}
use Rattle.starts.specs.Given.{ConstantsTaken, StartFits, StartGives, gives_2, gives_3, gives_21, gives_4, gives_5, gives_6, gives_0}

-- ---- what a start is given
-- a number from a least to a most, as orders
pub between_is : (least most : ℕ) (n : ℤ) → (le_z (pos least) n && le_z n (pos most)) ≡ true → (pos 0 ≤ℤ n) × (least ≤ nat_abs n) × (nat_abs n ≤ most)
between_is least most n h = orders least most n (first (le_z (pos least) n) (le_z n (pos most)) h) (second (le_z (pos least) n) (le_z n (pos most)) h)
  where
    orders : (least most : ℕ) (n : ℤ) → le_z (pos least) n ≡ true → le_z n (pos most) ≡ true → (pos 0 ≤ℤ n) × (least ≤ nat_abs n) × (nat_abs n ≤ most)
    orders least most n = rw (is-Z n) (simp zs-abs (omega arith))

pub capacity-is : (c : ℤ) → capacity_fits c ≡ true → (pos 0 ≤ℤ c) × (least_capacity ≤ nat_abs c) × (nat_abs c ≤ most_capacity)
unfolding capacity_fits
capacity-is c h = between_is least_capacity most_capacity c h

pub month-is : (m : ℤ) → month_fits m ≡ true → (pos 0 ≤ℤ m) × (1 ≤ nat_abs m) × (nat_abs m ≤ last_month)
unfolding month_fits
month-is m h = between_is 1 last_month m h

module _ (c ss su : ℤ) (h : storages_fit c ss su ≡ true) where
  pub surface-is : (pos 0 ≤ℤ ss) × (0 ≤ nat_abs ss) × (nat_abs ss ≤ surface_holds (nat_abs c))
  unfolding storages_fit
  surface-is = between_is 0 (surface_holds (nat_abs c)) ss (first (up_to (surface_holds (nat_abs c)) ss) (up_to (underlying_holds (nat_abs c)) su) h)

  pub underlying-is : (pos 0 ≤ℤ su) × (0 ≤ nat_abs su) × (nat_abs su ≤ underlying_holds (nat_abs c))
  unfolding storages_fit
  underlying-is = between_is 0 (underlying_holds (nat_abs c)) su (second (up_to (surface_holds (nat_abs c)) ss) (up_to (underlying_holds (nat_abs c)) su) h)

-- ---- the refusals
lots : (k : ℕ) → suc k ≡ 0 → ⊥
lots k h = omega arith

-- six tests, all passed
all-passed : (a b c d e f : Bool) → ◌≡◌ {A = ℕ} (cond a (cond b (cond (not c) (cond d (cond e (cond f 0 6) 5) 4) 21) 3) 2) 0
    → (a ≡ true) × (b ≡ true) × (c ≡ false) × (d ≡ true) × (e ≡ true) × (f ≡ true)
all-passed true true false true true true h = (refl, refl, refl, refl, refl, refl)
all-passed true true false true true false h = absurd (lots 5 h)
all-passed true true false true false f h = absurd (lots 4 h)
all-passed true true false false e f h = absurd (lots 3 h)
all-passed true true true d e f h = absurd (lots 20 h)
all-passed true false c d e f h = absurd (lots 2 h)
all-passed false b c d e f h = absurd (lots 1 h)

module _ (cs : List ℤ) (c ss su m : ℤ) where
  -- "constants not sixty numbers"
  pub refused-2 : (length cs ≡ many_constants → ⊥) → start_refusal cs c ss su m ≡ 2
  unfolding start_refusal
  refused-2 h = rw (ne_eqb (length cs) many_constants h)

  -- "a constant outside its range"
  pub refused-3 : length cs ≡ many_constants → constants_fit cs ≡ false → start_refusal cs c ss su m ≡ 3
  unfolding start_refusal
  refused-3 l h = rw (eq-eqb (length cs) many_constants l, h)

  -- "zero K"
  pub refused-21 : length cs ≡ many_constants → constants_fit cs ≡ true → some_zero_k cs ≡ true → start_refusal cs c ss su m ≡ 21
  unfolding start_refusal
  refused-21 l f h = rw (eq-eqb (length cs) many_constants l, f, h)

  -- so where they do not serve: the first of the two
  pub refused-constants : length cs ≡ many_constants → (constants_fit cs && not (some_zero_k cs)) ≡ false → start_refusal cs c ss su m ≡ cond (constants_fit cs) zero_k bad_constant
  refused-constants l h = if-so (constants_fit cs) (λ f. rw f (refused-21 l f (not-false (some_zero_k cs) (rw f at h)))) (λ f. rw f (refused-3 l f))

  -- the tests of the constants are passed
  module _ (t : ConstantsTaken cs) where
    none-zero : some_zero_k cs ≡ false
    none-zero = (no-zero-k-exactly cs).1 t.all_count

    -- "capacity outside its range"
    pub refused-4 : capacity_fits c ≡ false → start_refusal cs c ss su m ≡ 4
    unfolding start_refusal
    refused-4 h = rw (eq-eqb (length cs) many_constants t.sixty, t.fit, none-zero, h)

    -- "a start storage negative or above its layer"
    pub refused-5 : capacity_fits c ≡ true → storages_fit c ss su ≡ false → start_refusal cs c ss su m ≡ 5
    unfolding start_refusal
    refused-5 k h = rw (eq-eqb (length cs) many_constants t.sixty, t.fit, none-zero, k, h)

    -- "start month not 1 to 12"
    pub refused-6 : capacity_fits c ≡ true → storages_fit c ss su ≡ true → month_fits m ≡ false → start_refusal cs c ss su m ≡ 6
    unfolding start_refusal
    refused-6 k s h = rw (eq-eqb (length cs) many_constants t.sixty, t.fit, none-zero, k, s, h)

  -- no other start is refused
  pub not-refused : StartFits cs c ss su m → start_refusal cs c ss su m ≡ 0
  unfolding start_refusal
  not-refused f =
      let t = f.constants in
      rw (eq-eqb (length cs) many_constants t.sixty, t.fit, none-zero t, f.capacity, f.storages, f.month)

  pub constants-taken : length cs ≡ many_constants → constants_fit cs ≡ true → some_zero_k cs ≡ false → ConstantsTaken cs
  constants-taken l f z = record { sixty = l; fit = f; all_count = (no-zero-k-exactly cs).0 z }

  -- and one that is not refused has everything in range
  pub start_fits : start_refusal cs c ss su m ≡ 0 → StartFits cs c ss su m
  unfolding start_refusal
  start_fits h =
      let p = all-passed (eqb (length cs) many_constants) (constants_fit cs) (some_zero_k cs) (capacity_fits c) (storages_fit c ss su) (month_fits m) h in
      record { constants = constants-taken (eqb-true (length cs) many_constants p.0) p.1 p.2; capacity = p.3; storages = p.4; month = p.5 }

  -- ---- each number, given exactly when
  abbrev Given : Type 0
  Given = StartGives cs c ss su m (start_refusal cs c ss su m)

  told : {n : ℕ} → start_refusal cs c ss su m ≡ n → StartGives cs c ss su m n → Given
  told e g = subst (StartGives cs c ss su m) (sym e) g

  soil-given : ConstantsTaken cs → capacity_fits c ≡ true → Given
  soil-given t k =
      if-so (storages_fit c ss su)
      (λ s. if-so (month_fits m)
      (λ h. let f : StartFits cs c ss su m = record { constants = t; capacity = k; storages = s; month = h } in told (not-refused f) (gives_0 f))
      (λ h. told (refused-6 t k s h) (gives_6 t k s h)))
      (λ s. told (refused-5 t k s) (gives_5 t k s))

  constants-given : length cs ≡ many_constants → constants_fit cs ≡ true → Given
  constants-given l f =
      if-so (some_zero_k cs)
      (λ z. told (refused-21 l f z) (gives_21 l f ((zero-k-exactly cs).0 z)))
      (λ z. let t = constants-taken l f z in if-so (capacity_fits c) (soil-given t) (λ k. told (refused-4 t k) (gives_4 t k)))

  given : Given
  given =
      if-so (eqb (length cs) many_constants)
      (λ a. let l = eqb-true (length cs) many_constants a in if-so (constants_fit cs) (constants-given l) (λ f. told (refused-3 l f) (gives_3 l f)))
      (λ a. let n = eqb-false (length cs) many_constants a in told (refused-2 n) (gives_2 n))

  back : (n : ℕ) → StartGives cs c ss su m n → start_refusal cs c ss su m ≡ n
  back n (gives_2 h) = refused-2 h
  back n (gives_3 l h) = refused-3 l h
  back n (gives_21 l f z) = refused-21 l f ((zero-k-exactly cs).1 z)
  back n (gives_4 t h) = refused-4 t h
  back n (gives_5 t k h) = refused-5 t k h
  back n (gives_6 t k s h) = refused-6 t k s h
  back n (gives_0 f) = not-refused f

  pub given-exactly : (n : ℕ) → (start_refusal cs c ss su m ≡ n) ↔ StartGives cs c ss su m n
  given-exactly n = (λ e. subst (StartGives cs c ss su m) e given, back n)

  -- a refused start answers with its number and a run of all zeros
  pub refused-start : (n : ℕ) → n ≡ start_refusal cs c ss su m → (n ≡ 0 → ⊥) → start_of cs c ss su m ≡ record { number = n; run = zero_run }
  unfolding start_of
  refused-start n e h = rw (sym e) (is-refused n (started 0 (fresh_run cs c ss su m)) (started n zero_run) h)

  -- any other with 0 and the fresh run
  pub begun : start_refusal cs c ss su m ≡ 0 → start_of cs c ss su m ≡ record { number = 0; run = fresh_run cs c ss su m }
  unfolding start_of
  begun e = rw e
