-- Lists by the month: a list of months is that of the first ones and that of the rest (`monthly-split`); with as many places to each month it has so many
-- times as many (`monthly-long`), and each month's stand at its own (`monthly-at`); and stores at a month's places (`four-at`, `fifth-at`). Assumes nothing.
use mathlib.Core.Path.{◌≡◌, refl, sym, ap, ap₂, ◌∙◌}
use mathlib.Core.List.{List, [], ◌∷◌, ◌++◌, append_assoc, append-nil}
use Prim.Native.Nat.{ℕ, zero, suc, ◌+◌, ◌*◌, ◌-◌, ◌<◌}
use native.Mathlib.Nat.{zero-add, suc-add, add_comm, mul-suc}
use native.Mathlib.Omega.{arith}
use lib.IntN.{ℤ, pos}
use lib.ListN.{length, get_or, set, length-append, get_or-append}
use lib.Seq.{get_or-append-add}
use Rattle.water.specs.declared.Constants.{Constants}
use Rattle.weighing.specs.Weighing.{monthly}
use Rattle.weighing.specs.Stores.{with_four}

module _ {A : Type 0} (f : ℕ → List A) where
  pub monthly-none : (m : ℕ) → monthly f m 0 ≡ []
  unfolding monthly
  monthly-none m = refl

  pub monthly-next : (m k : ℕ) → monthly f m (suc k) ≡ f m ++ monthly f (suc m) k
  unfolding monthly
  monthly-next m k = refl

  pub monthly-split : (a m k : ℕ) → monthly f a (m + k) ≡ monthly f a m ++ monthly f (a + m) k
  monthly-split a zero k =
      let e : a + 0 ≡ a = omega arith in
      rw (zero-add k, monthly-none a, e) refl
  monthly-split a (suc m) k =
      let e : a + suc m ≡ suc a + m = omega arith in
      rw (suc-add m k, monthly-next a (m + k), monthly-next a m, monthly-split (suc a) m k, e) (sym (append_assoc (f a) (monthly f (suc a) m) (monthly f (suc a + m) k)))

  -- one month more
  pub monthly-more : (m : ℕ) → monthly f 0 (suc m) ≡ monthly f 0 m ++ f m
  monthly-more m =
      let e : suc m ≡ m + 1 = omega arith in
      let z : 0 + m ≡ m = omega arith in
      rw (e, monthly-split 0 m 1, z, monthly-next m 0, monthly-none (suc m)) (ap (◌++◌ (monthly f 0 m)) (append-nil (f m)))

  -- so many places to each month
  module _ (w : ℕ) (h : (m : ℕ) → length (f m) ≡ w) where
    pub monthly-long : (a k : ℕ) → length (monthly f a k) ≡ w * k
    monthly-long a zero = rw (monthly-none a) (omega arith)
    monthly-long a (suc k) =
        rw (monthly-next a k) (length-append (f a) (monthly f (suc a) k) ∙ ap₂ ◌+◌ (h a) (monthly-long (suc a) k) ∙ add_comm w (w * k) ∙ sym (mul-suc w k))

    -- the j-th of the m-th month
    pub monthly-at : (m k j : ℕ) (d : A) → m < k → j < w → get_or (monthly f 0 k) (w * m + j) d ≡ get_or (f m) j d
    monthly-at m k j d b l =
        let e : k ≡ m + suc (k - suc m) = omega arith in
        let before = monthly f 0 m in
        let after = monthly f (suc m) (k - suc m) in
        let z : 0 + m ≡ m = omega arith in
        let t : monthly f 0 k ≡ before ++ (f m ++ after) = ap (monthly f 0) e ∙ monthly-split 0 m (suc (k - suc m)) ∙ rw (z, monthly-next m (k - suc m)) refl in
        rw (t, ← monthly-long 0 m) (get_or-append-add before (f m ++ after) j d ∙ get_or-append (f m) after d j (rw (h m) l))

-- ---- stores
set_after : {A : Type 0} (xs ys : List A) (i : ℕ) (v : A) → set (xs ++ ys) (length xs + i) v ≡ xs ++ set ys i v
set_after [] ys i v = ap (λ (n : ℕ). set ys n v) (zero-add i)
set_after {A} (x ∷ xs) ys i v = ap (λ (n : ℕ). set (x ∷ (xs ++ ys)) n v) (suc-add (length xs) i) ∙ ap (λ (l : List A). x ∷ l) (set_after xs ys i v)

-- the same, where the place is known by an equation
set_at : {A : Type 0} (xs ys : List A) (n i : ℕ) (v : A) → length xs ≡ n → set (xs ++ ys) (n + i) v ≡ xs ++ set ys i v
set_at xs ys n i v e = rw (← e) (set_after xs ys i v)

-- four of a month's five, and the fifth
module _ (xs : List ℤ) (n : ℕ) (e : length xs ≡ n) (o p q r s : ℤ) (ys : List ℤ) where
  pub four-at : (k : Constants) → with_four (xs ++ (o ∷ p ∷ q ∷ r ∷ s ∷ ys)) n k ≡ xs ++ (pos k.alpha ∷ pos k.beta ∷ pos k.gamma ∷ pos k.delta ∷ s ∷ ys)
  four-at k =
      let z : n ≡ n + 0 = omega arith in
      let a : set (xs ++ (o ∷ p ∷ q ∷ r ∷ s ∷ ys)) n (pos k.alpha) ≡ xs ++ (pos k.alpha ∷ p ∷ q ∷ r ∷ s ∷ ys) = ap (λ (i : ℕ). set (xs ++ (o ∷ p ∷ q ∷ r ∷ s ∷ ys)) i (pos k.alpha)) z ∙ set_at xs (o ∷ p ∷ q ∷ r ∷ s ∷ ys) n 0 (pos k.alpha) e in
      rw (a, set_at xs (pos k.alpha ∷ p ∷ q ∷ r ∷ s ∷ ys) n 1 (pos k.beta) e, set_at xs (pos k.alpha ∷ pos k.beta ∷ q ∷ r ∷ s ∷ ys) n 2 (pos k.gamma) e)
      (set_at xs (pos k.alpha ∷ pos k.beta ∷ pos k.gamma ∷ r ∷ s ∷ ys) n 3 (pos k.delta) e)

  pub fifth-at : (v : ℤ) → set (xs ++ (o ∷ p ∷ q ∷ r ∷ s ∷ ys)) (n + 4) v ≡ xs ++ (o ∷ p ∷ q ∷ r ∷ v ∷ ys)
  fifth-at v = set_at xs (o ∷ p ∷ q ∷ r ∷ s ∷ ys) n 4 v e
