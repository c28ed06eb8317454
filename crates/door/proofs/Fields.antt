-- From a float in range to the exponent and the fraction of its bit pattern b: with E = b % 2 ^ 31 / 2 ^ 23 and t = b % 2 ^ 23, its size is
-- t / 2 ^ 149 where E is 0, and (t + 2 ^ 23) / 2 ^ (150 - E) otherwise. So `nearest_to` is the nearest whole number to a fraction of those. Assumes nothing.
use mathlib.Core.Path.{◌≡◌, refl, sym, ap, ◌∙◌, subst}
use mathlib.Core.Bool.{Bool, true, false, not, ◌||◌, cond}
use Prim.Native.Nat.{ℕ, zero, suc, ◌+◌, ◌-◌, ◌*◌, ◌/◌, ◌%◌, ◌^◌, ◌≤◌, ◌<◌}
use native.Mathlib.Nat.{le_trans, le_of_eq, lt_of_le_of_lt, lt_of_lt_of_le, lt_of_not-le, lt_irrefl, mul_comm, mul_assoc, mul_left_comm, mul_right_comm, mul-one, mul-pos, mul-le-mul_right, le_of_mul-le-mul_right, eq_of_mul-eq-mul_right, le-add_right, add_comm}
use native.Mathlib.Omega.{arith}
use lib.Dec.{T, leb, eqb, leb→le, lit≤, lit<}
use lib.Pow.{pow-add, pow_pos, pow_mono}
use lib.Ieee.{Float, nan, inf, fin, binary32, up, down, odd, fits, of_fields, of_bits, to_bits}
use lib.Ieee.Fits.{and_r, down_pos}
use lib.Ieee.Bits.{of_bits-to_bits}
use lib.Ieee.Exact.{HasValue, odd_sign}
use Rattle.exact.specs.Nearest.{nearest_ℕ}
use Rattle.door.specs.Exact.{within, nearest_to}
use Rattle.exact.proofs.Nearest.{near_same}
use Rattle.door.proofs.Places.{nearer-zero, low-digits, all_digits}

-- ---- a float that is a / c in size

-- its nearest whole number, times per / of
pub valued : (x : Float) (s : Bool) (a c per of : ℕ) → 0 < c → 0 < of → HasValue x s a c → nearest_ℕ (a * per) (of * c) ≡ nearest_to per of x
unfolding nearest_to
valued nan s a c per of C O h = absurd h
valued (inf t) s a c per of C O h = absurd h
valued (fin t m e) s a c per of C O h =
    sym (near_same (m * up e * per) (down e * of) (a * per) (of * c) (mul-pos (down_pos e) O) (mul-pos O C) (cross (m * up e) (down e) h.1))
  where
    cross : (u d : ℕ) → u * c ≡ a * d → u * per * (of * c) ≡ a * per * (d * of)
    cross u d p =
        let l : u * per * (of * c) ≡ u * c * (per * of) = simp (mul_assoc, mul_comm, mul_left_comm) in
        let r : a * per * (d * of) ≡ a * d * (per * of) = simp (mul_assoc, mul_comm, mul_left_comm) in
        l ∙ ap (λ (z : ℕ). z * (per * of)) p ∙ sym r

-- it is in range: so is a / c
bounded : (x : Float) (s : Bool) (a c limit : ℕ) → HasValue x s a c → T (within limit x) → a ≤ limit * c
unfolding within
bounded nan s a c limit h t = absurd h
bounded (inf k) s a c limit h t = absurd h
bounded (fin k m e) s a c limit h t =
    let d = down e in
    let u = m * up e in
    let q : u ≤ limit * d = leb→le u (limit * d) (and_r (not k || eqb m 0) (leb u (limit * d)) t) in
    le_of_mul-le-mul_right (le_trans (le_of_eq (sym h.1)) (le_trans (mul-le-mul_right c q) (le_of_eq (mul_right_comm limit d c)))) (down_pos e)

-- in lower terms
lower : (x : Float) (s : Bool) (q j k : ℕ) → HasValue x s (q * 2 ^ j) (2 ^ (k + j)) → HasValue x s q (2 ^ k)
lower nan s q j k h = h
lower (inf t) s q j k h = h
lower (fin t m e) s q j k h = (
  h.0,
  eq_of_mul-eq-mul_right (2 ^ j) (pow_pos j) (m * up e * 2 ^ k) (q * down e)
      (mul_assoc (m * up e) (2 ^ k) (2 ^ j)
      ∙ ap (λ (z : ℕ). m * up e * z) (sym (pow-add 2 k j))
      ∙ h.1
      ∙ mul_right_comm q (2 ^ j) (down e)),
)

-- ---- what the fields stand for

of_bits_is : (b : ℕ) → of_bits binary32 b ≡ of_fields binary32 (leb 2147483648 b) (b % 2147483648 / 8388608) (b % 8388608)
unfolding of_bits
of_bits_is b = refl

field-zero : (s : Bool) (t : ℕ) → HasValue (of_fields binary32 s 0 t) s t (2 ^ 149)
unfolding of_fields
field-zero s t = subst (λ (a : ℕ). HasValue (odd 24 s t 0 149) s a (2 ^ 149)) (mul-one t) (odd_sign 24 s t 0 149)

-- a field of all ones is an infinity's or a NaN's, which are not in range
past_top : (a b s : Bool) (v : Float) (limit : ℕ) → T (within limit (cond a (cond b (inf s) nan) v)) → cond a (cond b (inf s) nan) v ≡ v
unfolding within
past_top true true s v limit p = absurd p
past_top true false s v limit p = absurd p
past_top false b s v limit p = refl

field-suc : (s : Bool) (j t limit : ℕ) → T (within limit (of_fields binary32 s (suc j) t)) → HasValue (of_fields binary32 s (suc j) t) s ((8388608 + t) * 2 ^ j) (2 ^ 149)
unfolding of_fields
field-suc s j t limit p =
    subst (λ (v : Float). HasValue v s ((8388608 + t) * 2 ^ j) (2 ^ 149)) (sym (past_top (eqb (suc j) 255) (eqb t 0) s (odd 24 s (8388608 + t) j 149) limit p))
    (odd_sign 24 s (8388608 + t) j 149)

pow_lt_back : (i p : ℕ) → 2 ^ i < 2 ^ p → i < p
pow_lt_back i p h = lt_of_not-le (λ (g : p ≤ i). lt_irrefl (2 ^ i) (lt_of_lt_of_le h (pow_mono g)))

-- the exponent's field is at most 138
exponent_lt : (j t : ℕ) → (8388608 + t) * 2 ^ j ≤ 2540 * 2 ^ 149 → j < 138
exponent_lt j t h =
    let top : 2540 * 2 ^ 149 < 2 ^ 161 = lit< tt in
    go j (pow_lt_back (23 + j) 161 (lt_of_le_of_lt (le_trans (le_of_eq (pow-add 2 23 j)) (le_trans (mul-le-mul_right (2 ^ j) (le-add_right 8388608 t)) h)) top))
  where
    go : (j : ℕ) → 23 + j < 161 → j < 138
    go j h = omega arith

-- ---- the float that the pattern was written for

module _ (x : Float) (F : T (fits binary32 x)) (R : T (within 2540 x)) where
  abbrev b : ℕ
  b = to_bits binary32 x

  abbrev E : ℕ
  E = b % 2147483648 / 8388608

  abbrev t : ℕ
  t = b % 8388608

  read_back : of_fields binary32 (leb 2147483648 b) E t ≡ x
  read_back = sym (of_bits_is b) ∙ of_bits-to_bits binary32 x F

  at_zero : E ≡ 0 → HasValue x (leb 2147483648 b) t (2 ^ 149)
  at_zero z =
      let s = leb 2147483648 b in
      subst (λ (v : Float). HasValue v s t (2 ^ 149)) (ap (λ (k : ℕ). of_fields binary32 s k t) (sym z) ∙ read_back) (field-zero s t)

  at_suc : (j : ℕ) → E ≡ suc j → HasValue x (leb 2147483648 b) ((8388608 + t) * 2 ^ j) (2 ^ 149)
  at_suc j z =
      let s = leb 2147483648 b in
      let p : of_fields binary32 s (suc j) t ≡ x = ap (λ (k : ℕ). of_fields binary32 s k t) (sym z) ∙ read_back in
      subst (λ (v : Float). HasValue v s ((8388608 + t) * 2 ^ j) (2 ^ 149)) p (field-suc s j t 2540 (subst (λ (v : Float). T (within 2540 v)) (sym p) R))

  before : (E ≡ 0 → ⊥) → E ≡ suc (E - 1)
  before h = go E h
    where
      go : (k : ℕ) → (k ≡ 0 → ⊥) → k ≡ suc (k - 1)
      go k h = omega arith

  pub exponent-le : (E ≡ 0 → ⊥) → E ≤ 138
  exponent-le h = go E (before h) (exponent_lt (E - 1) t (bounded x (leb 2147483648 b) ((8388608 + t) * 2 ^ (E - 1)) (2 ^ 149) 2540 (at_suc (E - 1) (before h)) R))
    where
      go : (k : ℕ) → k ≡ suc (k - 1) → k - 1 < 138 → k ≤ 138
      go k p q = omega arith

  module _ (per of : ℕ) (O : 0 < of) where
    pub small : E ≡ 0 → nearest_ℕ (t * per) (of * 2 ^ 149) ≡ nearest_to per of x
    small z = valued x (leb 2147483648 b) t (2 ^ 149) per of (pow_pos 149) O (at_zero z)

    pub normal : (E ≡ 0 → ⊥) → nearest_ℕ ((t + 8388608) * per) (of * 2 ^ (150 - E)) ≡ nearest_to per of x
    normal h =
        let j = E - 1 in
        let s = leb 2147483648 b in
        let v : HasValue x s ((8388608 + t) * 2 ^ j) (2 ^ (150 - E + j)) =
        subst (λ (k : ℕ). HasValue x s ((8388608 + t) * 2 ^ j) (2 ^ k)) (sum E (before h) (exponent-le h)) (at_suc j (before h)) in
        ap (λ (q : ℕ). nearest_ℕ (q * per) (of * 2 ^ (150 - E))) (add_comm t 8388608)
        ∙ valued x s (8388608 + t) (2 ^ (150 - E)) per of (pow_pos (150 - E)) O (lower x s (8388608 + t) j (150 - E) v)
      where
        sum : (k : ℕ) → k ≡ suc (k - 1) → k ≤ 138 → 149 ≡ 150 - k + (k - 1)
        sum k p q = omega arith

    -- below exponent 100, subnormal numbers included, there are more than 50 places
    pub tiny : per ≤ 5000 → E < 100 → 0 ≡ nearest_to per of x
    tiny P l = go E refl
      where
        places : (k : ℕ) → k < 100 → 38 ≤ 150 - k
        places k h = omega arith

        above : (k j : ℕ) → k ≡ suc j → k ≡ 0 → ⊥
        above k j p z = omega arith

        go : (k : ℕ) → E ≡ k → 0 ≡ nearest_to per of x
        go zero e = sym (nearer-zero (t * per) of 149 (low-digits b per P) O (lit≤ tt)) ∙ small e
        go (suc k) e = sym (nearer-zero ((t + 8388608) * per) of (150 - E) (all_digits b per P) O (places E l)) ∙ normal (above E k e)
