-- The laws of the calendar: it goes round the twelve months; where the sixty constants are in range, so are the five of any of them; what
-- the test for a K of 0 says, month by month; and constants that serve, by one month more. Assumes nothing.
use mathlib.Core.Path.{◌≡◌, refl, sym, ◌∙◌}
use mathlib.Core.Bool.{Bool, true, false, not, ◌&&◌, ◌||◌, and-false, or-true, and-true, and_assoc, false≢true}
use mathlib.Core.Logic.{◌⊎◌, inl, inr, ⊎_elim, ◌↔◌}
use mathlib.Core.List.{List}
use Prim.Native.Nat.{ℕ, zero, suc, ◌+◌, ◌-◌, ◌*◌, ◌/◌, ◌%◌, ◌≤◌, ◌<◌}
use native.Mathlib.Nat.{not-suc-le-zero, le_of_suc-le-suc, eq-or-lt_of_le}
use native.Mathlib.Omega.{arith}
use borrow.Author.Tests.{le-leb, eq-eqb, ne_eqb, eqb-true}
use lib.Dec.{leb, eqb}
use lib.IntN.{ℤ, pos, negsuc, nat_abs}
use lib.ListN.{get_or}
use lib.Signed.{le_z}
use Rattle.outline.specs.Numbers.{many_constants, many_of_a_month, last_month}
use Rattle.outline.proofs.Tests.{if-so}
use Rattle.water.specs.Bounds.{ConstantsFit}
use Rattle.water.specs.Constants.{most_k}
use Rattle.outline.specs.Every.{all_of}
use Rattle.ranges.specs.Ranges.{limit_of, constant_fits, constants_fit_to, constants_fit, calendar_fits}
use Rattle.ranges.specs.Five.{five_fit, five_from, fit_from}
use Rattle.ranges.proofs.RangeLaws.{calendar-is, is-calendar, fits-five, each_fits, constant-is}
use Rattle.calendar.specs.Calendar.{place_of, constants_at, zero_k_within, some_zero_k, ZeroK, next_calendar}
use Rattle.calendar.specs.Serve.{serve_to, five_serve}

-- ---- the calendar
-- the month after any is one of the twelve
pub calendar-next : (m : ℕ) → calendar_fits (next_calendar m) ≡ true
unfolding next_calendar
calendar-next m = is-calendar (next_calendar m) (omega arith) (omega arith)

-- the next number,
pub calendar-steps : (m : ℕ) → m < last_month → next_calendar m ≡ m + 1
unfolding next_calendar
calendar-steps m h = omega arith

-- and January after December
pub calendar-turns : next_calendar last_month ≡ 1
unfolding next_calendar
calendar-turns = refl

-- ---- the constants
-- the constant at a place of a calendar month
module _ (l : List ℤ) (m : ℕ) (f : constants_fit l ≡ true) (c : calendar_fits m ≡ true) where
  place-below : (j : ℕ) → j < many_of_a_month → place_of m + j < many_constants
  place-below j h = let k = calendar-is m c in omega arith

  at_place : (j : ℕ) → j < many_of_a_month → nat_abs (get_or l (place_of m + j) (pos 0)) ≤ limit_of j
  at_place j h =
      let r : (place_of m + j) % many_of_a_month ≡ j = omega arith in
      rw r at (constant-is l (place_of m + j) (each_fits l (place_of m + j) many_constants (place-below j h) f)).1

  -- where the sixty are in range, so are the five of any calendar month
  pub constants-at-fit : ConstantsFit (constants_at l m)
  unfolding constants_at limit_of
  constants-at-fit =
      record {
        alpha = let z : place_of m + 0 ≡ place_of m = omega arith in rw z at (at_place 0 (omega arith));
        beta = at_place 1 (omega arith);
        gamma = at_place 2 (omega arith);
        delta = at_place 3 (omega arith);
        weight = at_place 4 (omega arith);
      }

-- ---- a K of 0
-- one of two tests that do not both fail
either : (t u : Bool) → (t || u) ≡ true → (t ≡ true) ⊎ (u ≡ true)
either true u h = inl refl
either false u h = inr h

module _ (l : List ℤ) where
  none_yet : zero_k_within l 0 ≡ false
  unfolding zero_k_within
  none_yet = refl

  -- the next month's
  next-month : (m : ℕ) → zero_k_within l (suc m) ≡ (zero_k_within l m || eqb (constants_at l (suc m)).k 0)
  unfolding zero_k_within
  next-month m = refl

  k-at : (m : ℕ) → (constants_at l (suc m)).k ≡ nat_abs (get_or l (many_of_a_month * m + 4) (pos 0))
  unfolding constants_at
  k-at m = let e : suc m - 1 ≡ m = omega arith in rw e refl

  -- one is enough
  within : (m n : ℕ) → m < n → (constants_at l (suc m)).k ≡ 0 → zero_k_within l n ≡ true
  within m zero h e = absurd (not-suc-le-zero h)
  within m (suc n) h e =
      ⊎_elim
      (λ (b : m ≡ n). next-month n ∙ rw (sym b, eq-eqb (constants_at l (suc m)).k 0 e) (or-true (zero_k_within l m)))
      (λ (b : m < n). next-month n ∙ rw (within m n b e))
      (eq-or-lt_of_le (le_of_suc-le-suc h))

  -- and there is one where the test finds it
  which : (n : ℕ) → n ≤ last_month → zero_k_within l n ≡ true → ZeroK l
  which zero h e = absurd (false≢true (sym none_yet ∙ e))
  which (suc n) h e =
      ⊎_elim
      (λ a. which n (omega arith) a)
      (λ b. record { month = suc n; one_of_twelve = is-calendar (suc n) (omega arith) h; nothing = eqb-true (constants_at l (suc n)).k 0 b })
      (either (zero_k_within l n) (eqb (constants_at l (suc n)).k 0) (sym (next-month n) ∙ e))

  -- the test says what it is to say
  pub zero-k-exactly : (some_zero_k l ≡ true) ↔ ZeroK l
  zero-k-exactly = (which last_month (omega arith), told)
    where
      told : ZeroK l → some_zero_k l ≡ true
      told z =
          let c = calendar-is z.month z.one_of_twelve in
          let e : suc (z.month - 1) ≡ z.month = omega arith in
          within (z.month - 1) last_month (omega arith) (rw e z.nothing)

  pub no-zero-k-exactly : (some_zero_k l ≡ false) ↔ (ZeroK l → ⊥)
  no-zero-k-exactly =
      let x = zero-k-exactly in
      (λ f z. false≢true (sym f ∙ x.1 z), λ n. if-so (some_zero_k l) (λ t. absurd (n (x.0 t))) (λ f. f))

-- ---- constants that serve: in range, and no K of 0
-- both tests of the months before, and both of the next
by-pairs : (a f z k : Bool) → (a && f && not (z || k)) ≡ ((a && not z) && (f && not k))
by-pairs true f true k = and-false f
by-pairs true f false k = refl
by-pairs false f z k = refl

module _ (l : List ℤ) (i : ℕ) (h : i % many_of_a_month ≡ 0) where
  -- a month's five more
  five-more : serve_to l (i + many_of_a_month) ≡ (serve_to l i && five_serve l i)
  five-more =
      let m : (i + many_of_a_month) / many_of_a_month ≡ suc (i / many_of_a_month) = omega arith in
      let p : many_of_a_month * (i / many_of_a_month) ≡ i = omega arith in
      rw (m, next-month l (i / many_of_a_month), k-at l (i / many_of_a_month), p, fits-five l i) (by-pairs (constants_fit_to l i) (five_fit l i) (zero_k_within l (i / many_of_a_month)) (eqb (nat_abs (get_or l (i + 4) (pos 0))) 0))

-- a K from 1 on is one in range that is not 0
from_one : (x : ℤ) (k : ℕ) → (le_z (pos 1) x && le_z x (pos k)) ≡ (le_z (pos 0) x && le_z x (pos k) && not (eqb (nat_abs x) 0))
from_one (pos zero) k = sym (and-false (leb 0 k))
from_one (pos (suc n)) k = rw (le-leb 1 (suc n) (omega arith), le-leb 0 (suc n) (omega arith), ne_eqb (suc n) 0 (λ e. omega arith)) (sym (and-true (leb (suc n) k)))
from_one (negsuc n) k = refl

five-from-one : (l : List ℤ) (k : ℕ) → k % many_of_a_month ≡ 0 → five_from (pos 1) l k ≡ five_serve l k
unfolding five_from five_fit constant_fits limit_of
five-from-one l k h =
    let e : (k + 4) % many_of_a_month ≡ 4 = omega arith in
    rw (e, from_one (get_or l (k + 4) (pos 0)) most_k) (simp and_assoc)

-- so the months' fives that are in range from a K of 1 on are those that serve
pub fit-from-one : (l : List ℤ) (n : ℕ) → fit_from (pos 1) l n ≡ serve_to l (many_of_a_month * n)
unfolding all_of constants_fit_to zero_k_within
fit-from-one l zero = refl
fit-from-one l (suc n) =
    let i = many_of_a_month * n in
    let m : i % many_of_a_month ≡ 0 = omega arith in
    let e : many_of_a_month * suc n ≡ i + many_of_a_month = omega arith in
    rw (e, five-more l i m, fit-from-one l n, five-from-one l i m)
