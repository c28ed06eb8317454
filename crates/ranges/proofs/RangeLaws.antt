-- The laws of the ranges: what the tests of the sixty constants and of the calendar say, place by place. Assumes nothing.
use mathlib.Core.Path.{◌≡◌, refl, sym, ◌∙◌}
use mathlib.Core.Bool.{true, ◌&&◌, and_assoc}
use mathlib.Core.List.{List}
use mathlib.Core.Logic.{⊎_elim}
use Prim.Native.Nat.{ℕ, zero, suc, ◌+◌, ◌*◌, ◌%◌, ◌≤◌, ◌<◌}
use native.Mathlib.Nat.{not-suc-le-zero, le_of_suc-le-suc, eq-or-lt_of_le}
use native.Mathlib.Numerals.{add-one, add-two, add-three, add-four, add_five}
use native.Mathlib.Omega.{arith}
use borrow.Author.Tests.{leb-true, le-leb}
use lib.Dec.{T, leb}
use lib.IntN.{ℤ, pos, nat_abs}
use lib.ListN.{get_or}
use lib.Signed.{le_z, non_neg, ◌≤ℤ◌}
use mir.Syntax.{w32}
use mir.Val.{Fits, SFits}
use Rattle.exact.proofs.Z.{zs, zs-abs, is-Z, le_yes}
use Rattle.ranges.specs.Ranges.{limit_of, constant_fits, constants_fit_to, calendar_fits}
use Rattle.ranges.specs.Five.{five_fit, five_from, fit_from}
use Rattle.outline.specs.Numbers.{many_of_a_month, last_month}
use Rattle.outline.specs.Every.{all_of}
use Rattle.outline.proofs.Tests.{first, second, both}

-- ---- the calendar
pub calendar-is : (m : ℕ) → calendar_fits m ≡ true → (1 ≤ m) × (m ≤ last_month)
unfolding calendar_fits
calendar-is m h = (leb-true 1 m (first (leb 1 m) (leb m last_month) h), leb-true m last_month (second (leb 1 m) (leb m last_month) h))

pub is-calendar : (m : ℕ) → 1 ≤ m → m ≤ last_month → calendar_fits m ≡ true
unfolding calendar_fits
is-calendar m l h = both (le-leb 1 m l) (le-leb m last_month h)

-- ---- signed numbers
-- one that is not below zero can be read as an unsigned one
pub countable : (x : ℤ) → pos 0 ≤ℤ x → SFits w32 x → T (non_neg x) × Fits w32 (nat_abs x)
countable x = rw (is-Z x) (simp zs-abs (omega arith))

-- ---- the sixty constants
pub fits-none : (l : List ℤ) → constants_fit_to l 0 ≡ true
unfolding constants_fit_to
fits-none l = refl

-- the next place
fits_last : (l : List ℤ) (k : ℕ) → constants_fit_to l (suc k) ≡ (constants_fit_to l k && constant_fits l k)
unfolding constants_fit_to
fits_last l k = refl

-- a month's five more
pub fits-five : (l : List ℤ) (k : ℕ) → constants_fit_to l (k + many_of_a_month) ≡ (constants_fit_to l k && five_fit l k)
unfolding constants_fit_to five_fit
fits-five l k = simp (add-one, add-two, add-three, add-four, add_five, and_assoc)

pub five-more : (l : List ℤ) (k : ℕ) → constants_fit_to l k ≡ true → five_fit l k ≡ true → constants_fit_to l (k + many_of_a_month) ≡ true
five-more l k p q = fits-five l k ∙ both p q

-- where all fit, each does
pub each_fits : (l : List ℤ) (i n : ℕ) → i < n → constants_fit_to l n ≡ true → constant_fits l i ≡ true
each_fits l i zero h e = absurd (not-suc-le-zero h)
each_fits l i (suc n) h e =
    let g : (constants_fit_to l n && constant_fits l n) ≡ true = sym (fits_last l n) ∙ e in
    ⊎_elim
    (λ (b : i ≡ n). rw b (second (constants_fit_to l n) (constant_fits l n) g))
    (λ (b : i < n). each_fits l i n b (first (constants_fit_to l n) (constant_fits l n) g))
    (eq-or-lt_of_le (le_of_suc-le-suc h))

-- a K that is not below 0 is one in its range
five-from-zero : (l : List ℤ) (k : ℕ) → k % many_of_a_month ≡ 0 → five_from (pos 0) l k ≡ five_fit l k
unfolding five_from five_fit constant_fits limit_of
five-from-zero l k h = let e : (k + 4) % many_of_a_month ≡ 4 = omega arith in rw e

-- so the months' fives are the places
pub fit-from-zero : (l : List ℤ) (n : ℕ) → fit_from (pos 0) l n ≡ constants_fit_to l (many_of_a_month * n)
unfolding all_of constants_fit_to
fit-from-zero l zero = refl
fit-from-zero l (suc n) =
    let e : many_of_a_month * suc n ≡ many_of_a_month * n + many_of_a_month = omega arith in
    rw (e, fits-five l (many_of_a_month * n), fit-from-zero l n, five-from-zero l (many_of_a_month * n) (omega arith))

-- a constant in its range, as orders
pub constant-is : (l : List ℤ) (i : ℕ) → constant_fits l i ≡ true → (pos 0 ≤ℤ get_or l i (pos 0)) × (nat_abs (get_or l i (pos 0)) ≤ limit_of (i % many_of_a_month))
unfolding constant_fits
constant-is l i h =
    let x = get_or l i (pos 0) in
    let low : le_z (pos 0) x ≡ true = first (le_z (pos 0) x) (le_z x (pos (limit_of (i % many_of_a_month)))) h in
    let high : le_z x (pos (limit_of (i % many_of_a_month))) ≡ true = second (le_z (pos 0) x) (le_z x (pos (limit_of (i % many_of_a_month)))) h in
    (le_yes (pos 0) x low, size x (limit_of (i % many_of_a_month)) low high)
  where
    size : (x : ℤ) (k : ℕ) → le_z (pos 0) x ≡ true → le_z x (pos k) ≡ true → nat_abs x ≤ k
    size x k = rw (is-Z x) (simp zs (omega arith))
