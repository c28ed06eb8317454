-- How large N, CAFEC and Z come to be, with every constant and every amount in its range: each product by its two bounds, each rounded
-- number by the law `nearest-within`. Assumes nothing.
use mathlib.Core.Path.{◌≡◌}
use Prim.Native.Nat.{ℕ, ◌+◌, ◌*◌, ◌≤◌}
use native.Mathlib.Nat.{mul-le-mul, le_refl}
use native.Mathlib.Omega.{arith}
use lib.IntN.{ℤ, pos, neg_ℤ, nat_abs, ◌-ℤ◌, ◌*ℤ◌}
use lib.Signed.{◌≤ℤ◌}
use Rattle.exact.proofs.Z.{Z, zs, is-Z, Z-pos, within-mul}
use Rattle.exact.proofs.Nearest.{nearest-within, nearest-mono}
use Rattle.exact.specs.Nearest.{nearest, nearest_ℕ}
use Rattle.door.specs.Readings.{most_reading}
use Rattle.water.specs.Layers.{most_capacity}
use Rattle.water.specs.Constants.{most_share, most_gamma, most_k}
use Rattle.water.specs.Expected.{n_of, cafec_of, z_of}
use Rattle.water.specs.Bounds.{ConstantsFit, most_n}
use Rattle.water.specs.declared.Constants.{Constants}
use Rattle.water.specs.declared.Potentials.{Potentials}

-- ---- N
-- the most that delta PL comes to: 10,000 x 30,000
abbrev pub most_lost : ℕ
most_lost = 300000000

module _ (k : Constants) (pe : ℕ) (q : Potentials) (f : ConstantsFit k) (h : pe ≤ most_reading) (g : (q.pr + q.pro ≤ most_capacity) × (q.pl ≤ q.pro)) where
  pub wanted-most : k.alpha * pe + k.beta * q.pr + k.gamma * q.pro ≤ most_n
  wanted-most =
      let beta : k.beta ≤ most_gamma = omega arith in
      let a : k.alpha * pe ≤ most_share * most_reading = mul-le-mul f.alpha h in
      let b : k.beta * q.pr ≤ most_gamma * q.pr = mul-le-mul beta (le_refl q.pr) in
      let c : k.gamma * q.pro ≤ most_gamma * q.pro = mul-le-mul f.gamma (le_refl q.pro) in
      omega arith

  pub lost-most : k.delta * q.pl ≤ most_lost
  lost-most =
      let pl : q.pl ≤ most_capacity = omega arith in
      let a : k.delta * q.pl ≤ most_share * most_capacity = mul-le-mul f.delta pl in
      omega arith

  -- N is from -300,000,000 to 2,500,000,000
  pub n-between : (neg_ℤ (pos most_lost) ≤ℤ n_of k pe q) × (n_of k pe q ≤ℤ pos most_n)
  unfolding n_of
  n-between = between _ _ (pos (k.alpha * pe + k.beta * q.pr + k.gamma * q.pro)) (pos (k.delta * q.pl)) wanted-most lost-most (Z-pos _) (Z-pos _)
    where
      between : (w l : ℕ) (x y : ℤ) → w ≤ most_n → l ≤ most_lost → x ≡ Z w 0 → y ≡ Z l 0 → (neg_ℤ (pos most_lost) ≤ℤ (x -ℤ y)) × ((x -ℤ y) ≤ℤ pos most_n)
      between w l x y hw hl ex ey = rw (ex, ey) (simp zs (omega arith))

  pub n-most : nat_abs (n_of k pe q) ≤ most_n
  n-most = size (n_of k pe q) n-between.0 n-between.1
    where
      size : (n : ℤ) → neg_ℤ (pos most_lost) ≤ℤ n → n ≤ℤ pos most_n → nat_abs n ≤ most_n
      size n = rw (is-Z n) (simp zs (omega arith))

-- ---- CAFEC
pub cafec-most : (n : ℤ) → nat_abs n ≤ most_n → nat_abs (cafec_of n) ≤ 250000
unfolding cafec_of
cafec-most n h = nearest-within n 10000 250000 (omega arith) (omega arith)

pub cafec-least : (n : ℤ) → neg_ℤ (pos most_lost) ≤ℤ n → neg_ℤ (pos 30000) ≤ℤ cafec_of n
unfolding cafec_of nearest nearest_ℕ
cafec-least n h = nearest-mono (neg_ℤ (pos most_lost)) n 10000 h

-- ---- Z
-- 10,000 P - N, where 10,000 P is m: by the size of N, and by its two ends
pub short-by-size : (m : ℕ) (n : ℤ) → m ≤ 1000000000 → nat_abs n ≤ most_n → nat_abs (pos m -ℤ n) ≤ 3500000000
short-by-size m n hm = size (pos m) n (Z-pos m)
  where
    size : (x n : ℤ) → x ≡ Z m 0 → nat_abs n ≤ most_n → nat_abs (x -ℤ n) ≤ 3500000000
    size x n e = rw (e, is-Z n) (simp zs (omega arith))

pub short-by-ends : (m : ℕ) (n : ℤ) → m ≤ 1000000000 → neg_ℤ (pos most_lost) ≤ℤ n → n ≤ℤ pos most_n → nat_abs (pos m -ℤ n) ≤ 2500000000
short-by-ends m n hm = size (pos m) n (Z-pos m)
  where
    size : (x n : ℤ) → x ≡ Z m 0 → neg_ℤ (pos most_lost) ≤ℤ n → n ≤ℤ pos most_n → nat_abs (x -ℤ n) ≤ 2500000000
    size x n e = rw (e, is-Z n) (simp zs (omega arith))

-- K times it
pub weighed : (k : ℕ) (x : ℤ) (most : ℕ) → k ≤ most_k → nat_abs x ≤ most → nat_abs (pos k *ℤ x) ≤ most_k * most
weighed k x most h g = within-mul (pos k) x most_k most h g

-- Z is at most a thousandth of it, since K is at most 10
pub z-most : (k p : ℕ) (n : ℤ) (most : ℕ) → k ≤ most_k → nat_abs (pos (10000 * p) -ℤ n) ≤ 1000 * most → nat_abs (z_of k p n) ≤ most
unfolding z_of
z-most k p n most h g =
    let w = weighed k (pos (10000 * p) -ℤ n) (1000 * most) h g in
    nearest-within _ 100000000 most (omega arith) (omega arith)
