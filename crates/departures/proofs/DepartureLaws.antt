-- How large departures come to be, where every row fits: P is at most 100,000 and CAFEC at most 250,000 in size, so that a departure, and the mean of
-- any, is at most 350,000. Assumes nothing.
use mathlib.Core.Path.{◌≡◌, refl, sym, ap, ◌∙◌}
use Prim.Native.Nat.{ℕ, zero, suc, ◌+◌, ◌*◌, ◌≤◌, ◌<◌}
use native.Mathlib.Nat.{mul-add}
use native.Mathlib.Numerals.{add-one}
use native.Mathlib.Omega.{arith}
use lib.IntN.{ℤ, pos, nat_abs, ◌+ℤ◌, ◌-ℤ◌, ◌*ℤ◌}
use Rattle.exact.proofs.Nearest.{near_none, near_within}
use Rattle.exact.proofs.Z.{Z, zs, is-Z, Z-pos, within-mul}
use Rattle.door.specs.Readings.{most_reading}
use Rattle.water.specs.Constants.{most_share, most_gamma}
use Rattle.water.specs.Layers.{most_capacity}
use Rattle.water.specs.Bounds.{ConstantsFit, most_n}
use Rattle.water.specs.Expected.{n_of}
use Rattle.water.specs.declared.Constants.{Constants}
use Rattle.water.specs.declared.Potentials.{Potentials}
use Rattle.water.proofs.Sizes.{n-most, cafec-most}
use Rattle.water.proofs.WaterLaws.{potentials-fit}
use Rattle.given_rows.specs.Facts.{RowFits}
use Rattle.given_rows.specs.declared.WaterRow.{WaterRow}
use Rattle.sums.specs.Sums.{potentials_in}
use Rattle.departures.specs.Departures.{expected_in, departure_of, departures_of, mean_of}

-- the most that a departure comes to: 100,000 + 250,000
abbrev pub most_departure : ℕ
most_departure = 350000

-- ---- N, with PR as what PRO leaves of the capacity
pub slope-most : (k : Constants) → ConstantsFit k → nat_abs (pos k.gamma -ℤ pos k.beta) ≤ most_gamma
slope-most k f = size k.gamma k.beta f.gamma f.beta
  where
    size : (g b : ℕ) → g ≤ most_gamma → b ≤ most_share → nat_abs (pos g -ℤ pos b) ≤ most_gamma
    size g b h l = simp zs (omega arith)

pub part-most : (k : Constants) (pro : ℕ) → ConstantsFit k → pro ≤ most_capacity → nat_abs ((pos k.gamma -ℤ pos k.beta) *ℤ pos pro) ≤ 1500000000
part-most k pro f h = within-mul (pos k.gamma -ℤ pos k.beta) (pos pro) most_gamma most_capacity (slope-most k f) h

pub n-shared : (k : Constants) (capacity pe : ℕ) (q : Potentials) → q.pr + q.pro ≡ capacity
    → ((pos (k.alpha * pe) +ℤ pos (k.beta * capacity)) +ℤ ((pos k.gamma -ℤ pos k.beta) *ℤ pos q.pro)) -ℤ pos (k.delta * q.pl) ≡ n_of k pe q
unfolding n_of
n-shared k capacity pe q e = go (k.alpha * pe) (k.beta * capacity) (k.beta * q.pr) (k.delta * q.pl) (ap (λ (c : ℕ). k.beta * c) (sym e) ∙ mul-add k.beta q.pr q.pro)
  where
    go : (a f b d : ℕ) → f ≡ b + k.beta * q.pro → ((pos a +ℤ pos f) +ℤ ((pos k.gamma -ℤ pos k.beta) *ℤ pos q.pro)) -ℤ pos d ≡ pos (a + b + k.gamma * q.pro) -ℤ pos d
    go a f b d h = simp zs (omega arith)

-- ---- of a row
-- P - CAFEC
pub short-most : (p : ℕ) (e : ℤ) → p ≤ most_reading → nat_abs e ≤ 250000 → nat_abs (pos p -ℤ e) ≤ most_departure
short-most p e h = size (pos p) e (Z-pos p)
  where
    size : (x e : ℤ) → x ≡ Z p 0 → nat_abs e ≤ 250000 → nat_abs (x -ℤ e) ≤ most_departure
    size x e i = rw (i, is-Z e) (simp zs (omega arith))

module _ (k : Constants) (w : WaterRow) (f : ConstantsFit k) (g : RowFits w) where
  pub wanted-most : nat_abs (n_of k w.pe (potentials_in w)) ≤ most_n
  wanted-most = n-most k w.pe (potentials_in w) f g.pe (potentials-fit w.soil w.pe g.soil)

  pub expected-most : nat_abs (expected_in k w) ≤ 250000
  expected-most = cafec-most (n_of k w.pe (potentials_in w)) wanted-most

  pub departure-most : departure_of k w ≤ most_departure
  unfolding departure_of
  departure-most = short-most w.p (expected_in k w) g.p expected-most

-- ---- over the years
module _ (k : Constants) (row : ℕ → WaterRow) where
  pub departures-none : departures_of k row 0 ≡ 0
  unfolding departures_of
  departures-none = refl

  departures-last : (y : ℕ) → departures_of k row (suc y) ≡ departures_of k row y + departure_of k (row y)
  unfolding departures_of
  departures-last y = refl

  pub departures-more : (y : ℕ) → departures_of k row (y + 1) ≡ departures_of k row y + departure_of k (row y)
  departures-more y = rw (add-one y) (departures-last y)

  pub departures-most : (years : ℕ) → ConstantsFit k → ((y : ℕ) → y < years → RowFits (row y)) → departures_of k row years ≤ most_departure * years
  unfolding departures_of
  departures-most zero f g = omega arith
  departures-most (suc y) f g =
      let h = departures-most y f (λ i b. g i (omega arith)) in
      let d = departure-most k (row y) f (g y (omega arith)) in
      omega arith

  pub mean-most : (years : ℕ) → ConstantsFit k → ((y : ℕ) → y < years → RowFits (row y)) → mean_of k row years ≤ most_departure
  unfolding mean_of
  mean-most zero f g = rw near_none (omega arith)
  mean-most (suc y) f g =
      let h = departures-most (suc y) f g in
      near_within (departures_of k row (suc y)) (suc y) most_departure (omega arith) (omega arith)
