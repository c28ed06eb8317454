-- The set: what the stores put, month after month, is the sixty constants and the twelve D (`sixty-is`, `departures-are`); there are sixty (`sixty-long`); and
-- where every gamma and every K is in its range, so is each of the sixty, for alpha, beta and delta always are (`sixty-fits`). Assumes nothing.
use mathlib.Core.Path.{◌≡◌, refl, sym, ap, ◌∙◌}
use mathlib.Core.Bool.{true}
use mathlib.Core.List.{List, [], ◌∷◌, ◌++◌, append_assoc, append-nil}
use Prim.Native.Nat.{ℕ, zero, suc, ◌+◌, ◌-◌, ◌*◌, ◌%◌, ◌≤◌, ◌<◌}
use native.Mathlib.Numerals.{add-one}
use native.Mathlib.Omega.{arith}
use borrow.Author.Tests.{leb-true, le-leb}
use lib.Dec.{leb}
use lib.IntN.{ℤ, pos}
use lib.ListN.{length, get_or, set, replicate}
use lib.Seq.{set_at}
use Rattle.outline.specs.Numbers.{many_constants, many_of_a_month, last_month}
use Rattle.outline.proofs.Tests.{both}
use Rattle.outline.proofs.Every.{all-at}
use Rattle.water.specs.Constants.{most_gamma, most_k}
use Rattle.water.specs.Bounds.{ConstantsFit}
use Rattle.water.specs.declared.Constants.{Constants}
use Rattle.ranges.specs.Ranges.{limit_of, constant_fits, constants_fit_to, constants_fit}
use Rattle.ranges.specs.Five.{five_fit}
use Rattle.ranges.proofs.RangeLaws.{fits-none, five-more}
use Rattle.given_rows.specs.Facts.{most_years}
use Rattle.sums.specs.Sums.{row_in, sums_of, gamma_of}
use Rattle.sums.specs.SumsFit.{SumsFit}
use Rattle.sums.proofs.SumLaws.{rows_fit, sums-fit, fit-more, shares-fit}
use Rattle.weighing.specs.Weighing.{Span, sums_in, shares_in, departure_in, gammas_fit, weight_at, k_of, ks_fit, monthly, five_of, departures_in, total_in, sixty_in}
use Rattle.weighing.specs.Stores.{Years, with_four, fours_to, means_to, ks_to}
use Rattle.weighing.proofs.Monthly.{monthly-none, monthly-next, monthly-more, monthly-long, monthly-at, four-at, fifth-at}

-- ---- a calendar month of years whose rows an add gives
module _ (s : Span) (y : Years s.capacity s.records s.first s.years) (m : ℕ) (h : m < last_month) where
  pub sums-room : SumsFit (sums_in s m) most_years
  unfolding sums_in
  sums-room =
      let w = y m h in
      let row = row_in s.capacity s.records (s.first + m) in
      fit-more (sums_of row s.years) s.years most_years w.few (sums-fit row s.years (rows_fit s.capacity s.records (s.first + m) s.years w))

  pub in-range : gamma_of (sums_in s m) ≤ most_gamma → ConstantsFit (shares_in s m)
  unfolding shares_in
  in-range g = shares-fit (sums_in s m) most_years sums-room g

-- ---- stores, one month after another
module _ (shares : ℕ → Constants) (l : List ℤ) where
  pub fours-none : l ≡ fours_to shares l 0
  unfolding fours_to
  fours-none = refl

  fours-last : (m : ℕ) → fours_to shares l (suc m) ≡ with_four (fours_to shares l m) (many_of_a_month * m) (shares m)
  unfolding fours_to
  fours-last m = refl

  pub fours-more : (m : ℕ) (before : List ℤ) (k : Constants) → before ≡ fours_to shares l m → k ≡ shares m → with_four before (many_of_a_month * m) k ≡ fours_to shares l (m + 1)
  fours-more m before k p q = rw (add-one m, fours-last m, p, q) refl

module _ (means : ℕ → ℕ) (l : List ℕ) where
  pub means-none : l ≡ means_to means l 0
  unfolding means_to
  means-none = refl

  means-last : (m : ℕ) → means_to means l (suc m) ≡ set (means_to means l m) m (means m)
  unfolding means_to
  means-last m = refl

  pub means-more : (m : ℕ) (before : List ℕ) (d : ℕ) → before ≡ means_to means l m → d ≡ means m → set before m d ≡ means_to means l (m + 1)
  means-more m before d p q = rw (add-one m, means-last m, p, q) refl

module _ (total : ℕ) (weights l : List ℤ) where
  pub ks-none : l ≡ ks_to total weights l 0
  unfolding ks_to
  ks-none = refl

  ks-last : (m : ℕ) → ks_to total weights l (suc m) ≡ set (ks_to total weights l m) (many_of_a_month * m + 4) (pos (k_of total (weight_at weights m)))
  unfolding ks_to
  ks-last m = refl

  pub ks-more : (m : ℕ) (before : List ℤ) (k : ℤ) → before ≡ ks_to total weights l m → k ≡ pos (k_of total (weight_at weights m)) → set before (many_of_a_month * m + 4) k ≡ ks_to total weights l (m + 1)
  ks-more m before k p q = rw (add-one m, ks-last m, p, q) refl

-- ---- what they come to
-- a month's five while its K is not known
abbrev shared : Span → ℕ → List ℤ
shared s m = five_of (shares_in s m) 0

-- and with its K
abbrev weighed : Span → ℕ → List ℤ → ℕ → List ℤ
weighed s total weights m = five_of (shares_in s m) (k_of total (weight_at weights m))

-- four of each of the first m months' five among sixty zeros
fours-are : (s : Span) (m : ℕ) → m ≤ last_month → fours_to (shares_in s) (replicate many_constants (pos 0)) m ≡ monthly (shared s) 0 m ++ replicate (many_of_a_month * (last_month - m)) (pos 0)
fours-are s zero h = sym (fours-none (shares_in s) (replicate many_constants (pos 0))) ∙ rw (monthly-none (shared s) 0) refl
fours-are s (suc m) h =
    let e : many_of_a_month * (last_month - m) ≡ suc (suc (suc (suc (suc (many_of_a_month * (last_month - suc m)))))) = omega arith in
    let zeros = replicate (many_of_a_month * (last_month - suc m)) (pos 0) in
    let l = monthly-long (shared s) many_of_a_month (λ i. refl) 0 m in
    rw (fours-last (shares_in s) (replicate many_constants (pos 0)) m, fours-are s m (omega arith), e, monthly-more (shared s) m)
    (four-at (monthly (shared s) 0 m) (many_of_a_month * m) l (pos 0) (pos 0) (pos 0) (pos 0) (pos 0) zeros (shares_in s m) ∙ sym (append_assoc (monthly (shared s) 0 m) (shared s m) zeros))

-- K of the first m months
ks-are : (s : Span) (total : ℕ) (weights : List ℤ) (m : ℕ) → m ≤ last_month
    → ks_to total weights (monthly (shared s) 0 last_month) m ≡ monthly (weighed s total weights) 0 m ++ monthly (shared s) m (last_month - m)
ks-are s total weights zero h = sym (ks-none total weights (monthly (shared s) 0 last_month)) ∙ rw (monthly-none (weighed s total weights) 0) refl
ks-are s total weights (suc m) h =
    let e : last_month - m ≡ suc (last_month - suc m) = omega arith in
    let done = monthly (weighed s total weights) 0 m in
    let rest = monthly (shared s) (suc m) (last_month - suc m) in
    let k = shares_in s m in
    let l = monthly-long (weighed s total weights) many_of_a_month (λ i. refl) 0 m in
    rw (ks-last total weights (monthly (shared s) 0 last_month) m, ks-are s total weights m (omega arith), e, monthly-next (shared s) m (last_month - suc m), monthly-more (weighed s total weights) m)
    (fifth-at done (many_of_a_month * m) l (pos k.alpha) (pos k.beta) (pos k.gamma) (pos k.delta) (pos 0) rest (pos (k_of total (weight_at weights m))) ∙ sym (append_assoc done (weighed s total weights m) rest))

-- D of the first m months
means-are : (s : Span) (m : ℕ) → m ≤ last_month → means_to (departure_in s) (replicate last_month 0) m ≡ monthly (λ i. departure_in s i ∷ []) 0 m ++ replicate (last_month - m) 0
means-are s zero h = sym (means-none (departure_in s) (replicate last_month 0)) ∙ rw (monthly-none (λ i. departure_in s i ∷ []) 0) refl
means-are s (suc m) h =
    let e : last_month - m ≡ suc (last_month - suc m) = omega arith in
    let one : ℕ → List ℕ = λ i. departure_in s i ∷ [] in
    let l : length (monthly one 0 m) ≡ m = monthly-long one 1 (λ i. refl) 0 m ∙ omega arith in
    rw (means-last (departure_in s) (replicate last_month 0) m, means-are s m (omega arith), e, monthly-more one m)
    (set_at (monthly one 0 m) 0 (replicate (last_month - suc m) 0) (departure_in s m) m l ∙ sym (append_assoc (monthly one 0 m) (one m) (replicate (last_month - suc m) 0)))

module _ (s : Span) (weights : List ℤ) where
  pub departures-are : means_to (departure_in s) (replicate last_month 0) last_month ≡ departures_in s
  departures-are = means-are s last_month (omega arith) ∙ append-nil (departures_in s)

  pub sixty-is : ks_to (total_in s weights) weights (fours_to (shares_in s) (replicate many_constants (pos 0)) last_month) last_month ≡ sixty_in s weights
  sixty-is =
      let f : fours_to (shares_in s) (replicate many_constants (pos 0)) last_month ≡ monthly (shared s) 0 last_month = fours-are s last_month (omega arith) ∙ append-nil (monthly (shared s) 0 last_month) in
      rw f (ks-are s (total_in s weights) weights last_month (omega arith) ∙ rw (monthly-none (shared s) last_month) (append-nil (sixty_in s weights)))

  pub sixty-long : length (sixty_in s weights) ≡ many_constants
  sixty-long = monthly-long (weighed s (total_in s weights) weights) many_of_a_month (λ i. refl) 0 last_month

  -- the j-th of a month's five
  pub sixty-at : (m j : ℕ) → m < last_month → j < many_of_a_month → get_or (sixty_in s weights) (many_of_a_month * m + j) (pos 0) ≡ get_or (weighed s (total_in s weights) weights m) j (pos 0)
  sixty-at m j h l = monthly-at (weighed s (total_in s weights) weights) many_of_a_month (λ i. refl) m last_month j (pos 0) h l

-- ---- each of the sixty is in its range
-- a number that stands at a place and is at most that place's limit
low_fits : (l : List ℤ) (i j x : ℕ) → get_or l i (pos 0) ≡ pos x → i % many_of_a_month ≡ j → x ≤ limit_of j → constant_fits l i ≡ true
unfolding constant_fits
low_fits l i j x e k h = rw (e, k) (both (le-leb 0 x (omega arith)) (le-leb x (limit_of j) h))

module _ (s : Span) (weights : List ℤ) (y : Years s.capacity s.records s.first s.years) (g : gammas_fit s last_month ≡ true) (k : ks_fit (total_in s weights) weights last_month ≡ true) where
  abbrev sixty : List ℤ
  sixty = sixty_in s weights

  -- gamma and K of each month
  gamma-low : (m : ℕ) → m < last_month → gamma_of (sums_in s m) ≤ most_gamma
  gamma-low m h = leb-true _ _ (all-at (λ i. leb (gamma_of (sums_in s i)) most_gamma) last_month m g h)

  k-low : (m : ℕ) → m < last_month → k_of (total_in s weights) (weight_at weights m) ≤ most_k
  k-low m h = leb-true _ _ (all-at (λ i. leb (k_of (total_in s weights) (weight_at weights i)) most_k) last_month m k h)

  five-fits : (m : ℕ) → m < last_month → five_fit sixty (many_of_a_month * m) ≡ true
  unfolding five_fit limit_of
  five-fits m h =
      let f = in-range s y m h (gamma-low m h) in
      let z : many_of_a_month * m ≡ many_of_a_month * m + 0 = omega arith in
      let a = low_fits sixty (many_of_a_month * m) 0 (shares_in s m).alpha (ap (λ (i : ℕ). get_or sixty i (pos 0)) z ∙ sixty-at s weights m 0 h (omega arith)) (omega arith) f.alpha in
      let b = low_fits sixty (many_of_a_month * m + 1) 1 (shares_in s m).beta (sixty-at s weights m 1 h (omega arith)) (omega arith) f.beta in
      let c = low_fits sixty (many_of_a_month * m + 2) 2 (shares_in s m).gamma (sixty-at s weights m 2 h (omega arith)) (omega arith) f.gamma in
      let d = low_fits sixty (many_of_a_month * m + 3) 3 (shares_in s m).delta (sixty-at s weights m 3 h (omega arith)) (omega arith) f.delta in
      let e = low_fits sixty (many_of_a_month * m + 4) 4 (k_of (total_in s weights) (weight_at weights m)) (sixty-at s weights m 4 h (omega arith)) (omega arith) (k-low m h) in
      both (both (both (both a b) c) d) e

  fits-to : (m : ℕ) → m ≤ last_month → constants_fit_to sixty (many_of_a_month * m) ≡ true
  fits-to zero h = fits-none sixty
  fits-to (suc m) h =
      let e : many_of_a_month * suc m ≡ many_of_a_month * m + many_of_a_month = omega arith in
      rw e (five-more sixty (many_of_a_month * m) (fits-to m (omega arith)) (five-fits m h))

  pub sixty-fits : constants_fit sixty ≡ true
  sixty-fits = fits-to last_month (omega arith)
