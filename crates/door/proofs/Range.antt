-- The two comparisons of the code, `x >= 0.0` and `x <= LIMIT`, say together what `within` says: of every float, a NaN and the infinities included.
-- And `x > 0.0` is `above_zero`. Assumes nothing.
use mathlib.Core.Path.{◌≡◌, refl, sym, ap, ◌∙◌, subst}
use mathlib.Core.Logic.{◌⊎◌, inl, inr}
use mathlib.Core.Bool.{Bool, true, false, not, ◌&&◌, ◌||◌}
use Prim.Native.Nat.{ℕ, zero, suc, ◌+◌, ◌*◌, ◌^◌, ◌≤◌, ◌<◌, zero-le}
use native.Mathlib.Nat.{le_trans, le_of_eq, le_of_lt, eq-or-lt_of_le, mul-one, zero-mul, mul-pos, lt_irrefl, zero-lt-suc, mul-le-mul_right, lt_of_le_of_lt, lt_of_lt_of_le, le-add_left}
use native.Mathlib.Omega.{arith}
use lib.IntN.{pos}
use lib.Dec.{T, leb, ltb, eqb, ltb→lt, lt→ltb, leb→le, le→leb, eqb→eq}
use lib.Ieee.{Float, nan, inf, fin, binary32, up, down, lt, eq, le, of_bits, is_nan}
use lib.Ieee.Fits.{and_i, and_l, and_r, eq→eqb, up_pos, down_pos}
use borrow.Author.Tests.{lt-ltb, le-ltb, ne_eqb}
use Rattle.door.specs.Exact.{within, above_zero}

-- ---- tests

same_test : (a b : Bool) → (T a → T b) → (T b → T a) → a ≡ b
same_test true true p q = refl
same_test true false p q = absurd (p tt)
same_test false true p q = absurd (q tt)
same_test false false p q = refl

or_l : (a b : Bool) → T a → T (a || b)
or_l true b t = tt
or_l false b t = absurd t

or_r : (a b : Bool) → T b → T (a || b)
or_r true b t = tt
or_r false b t = t

either : (p q : Bool) → T (p || (q && true)) → T p ⊎ T q
either true q h = inl tt
either false true h = inr tt
either false false h = absurd h

-- a ≤ b, as `le` tests it of two values that are not negative
of_le : (a b : ℕ) → a ≤ b → T (ltb a b || (eqb a b && true))
of_le a b h = elim (eq-or-lt_of_le h) [
  | inl p ↦ or_r (ltb a b) (eqb a b && true) (and_i (eqb a b) true (eq→eqb p) tt)
  | inr q ↦ or_l (ltb a b) (eqb a b && true) (lt→ltb a b q)
]

le_of : (a b : ℕ) → T (ltb a b || (eqb a b && true)) → a ≤ b
le_of a b h = elim (either (ltb a b) (eqb a b) h) [ inl u ↦ le_of_lt (ltb→lt a b u) | inr u ↦ le_of_eq (eqb→eq a b u) ]

-- ---- the two comparisons are `within`, at a limit n * 2 ^ d

abbrev pub at : ℕ → ℕ → Float
at n d = fin false n (pos d)

times-one : (a b : ℕ) → a ≤ b → a * 1 ≤ b
times-one a b h = omega arith

from-times-one : (a b : ℕ) → a * 1 ≤ b → a ≤ b
from-times-one a b h = omega arith

nothing : (d k : ℕ) → 0 * 1 * d ≤ k
nothing d k = le_trans (le_of_eq (zero-mul d)) zero-le

none : (m u : ℕ) → 0 < u → suc m * u * 1 ≡ 0 → ⊥
none m u U h = lt_irrefl 0 (subst (λ (z : ℕ). 0 < z) h (mul-pos (mul-pos (zero-lt-suc m) U) (zero-lt-suc 0)))

no-suc : (m : ℕ) → suc m ≡ 0 → ⊥
no-suc m h = omega arith

module _ (n d : ℕ) (N : 0 < n * 2 ^ d) where
  abbrev tests : Float → Bool
  tests x = le (at 0 0) x && le x (at n d)

  forth : (x : Float) → T (within (n * 2 ^ d) x) → T (tests x)
  unfolding within le lt eq
  forth nan h = absurd h
  forth (inf s) h = absurd h
  forth (fin false m e) h =
      and_i (le (at 0 0) (fin false m e)) (le (fin false m e) (at n d))
      (of_le (0 * 1 * down e) (m * up e * 1) (nothing (down e) (m * up e * 1)))
      (of_le (m * up e * 1) (n * 2 ^ d * down e) (times-one (m * up e) (n * 2 ^ d * down e) (leb→le (m * up e) (n * 2 ^ d * down e) h)))
  forth (fin true zero e) h =
      let a = 0 * 1 * down e in
      let b = 0 * up e * 1 in
      let A : a ≡ 0 = zero-mul (down e) in
      let B : b ≡ 0 = mul-one (0 * up e) ∙ zero-mul (up e) in
      let L = n * 2 ^ d * down e in
      and_i (le (at 0 0) (fin true zero e)) (le (fin true zero e) (at n d))
      (and_i (eqb a b) (eqb a 0) (eq→eqb (A ∙ sym B)) (eq→eqb A))
      (or_l (ltb 0 (b + L)) (eqb b L && eqb b 0) (lt→ltb 0 (b + L) (lt_of_lt_of_le (mul-pos N (down_pos e)) (le-add_left L b))))
  forth (fin true (suc m) e) h = absurd (no-suc m (eqb→eq (suc m) 0 (and_l (eqb (suc m) 0) (leb (suc m * up e) (n * 2 ^ d * down e)) h)))

  back : (x : Float) → T (tests x) → T (within (n * 2 ^ d) x)
  unfolding within le lt eq
  back nan h = h
  back (inf true) h = h
  back (inf false) h = h
  back (fin false m e) h =
      let L = n * 2 ^ d * down e in
      le→leb (m * up e) L (from-times-one (m * up e) L (le_of (m * up e * 1) L (and_r (le (at 0 0) (fin false m e)) (le (fin false m e) (at n d)) h)))
  back (fin true zero e) h = le→leb (0 * up e) (n * 2 ^ d * down e) (le_trans (le_of_eq (zero-mul (up e))) zero-le)
  back (fin true (suc m) e) h =
      let a = 0 * 1 * down e in
      let b = suc m * up e * 1 in
      let t : T (eqb a b && eqb a 0) = and_l (le (at 0 0) (fin true (suc m) e)) (le (fin true (suc m) e) (at n d)) h in
      absurd (none m (up e) (up_pos e) (sym (eqb→eq a b (and_l (eqb a b) (eqb a 0) t)) ∙ eqb→eq a 0 (and_r (eqb a b) (eqb a 0) t)))

  pub range-is : (x : Float) → within (n * 2 ^ d) x ≡ (le (at 0 0) x && le x (at n d))
  range-is x = same_test (within (n * 2 ^ d) x) (tests x) (forth x) (back x)

-- ---- as MIR has the two numbers, by their bit patterns

zero_is : of_bits binary32 0 ≡ at 0 0
unfolding of_bits
zero_is = refl

module _ (n d b : ℕ) (N : 0 < n * 2 ^ d) (is : of_bits binary32 b ≡ at n d) (x : Float) where
  pub by_bits : within (n * 2 ^ d) x ≡ (le (of_bits binary32 0) x && le x (of_bits binary32 b))
  by_bits = range-is n d N x ∙ ap (λ (z : Float). le z x && le x (at n d)) (sym zero_is) ∙ ap (λ (z : Float). le (of_bits binary32 0) x && le x z) (sym is)

  pub inside : le (of_bits binary32 0) x ≡ true → le x (of_bits binary32 b) ≡ true → within (n * 2 ^ d) x ≡ true
  inside p q = by_bits ∙ ap (λ (t : Bool). t && le x (of_bits binary32 b)) p ∙ q

  pub over : le (of_bits binary32 0) x ≡ true → le x (of_bits binary32 b) ≡ false → within (n * 2 ^ d) x ≡ false
  over p q = by_bits ∙ ap (λ (t : Bool). t && le x (of_bits binary32 b)) p ∙ q

  pub under : le (of_bits binary32 0) x ≡ false → within (n * 2 ^ d) x ≡ false
  under p = by_bits ∙ ap (λ (t : Bool). t && le x (of_bits binary32 b)) p

-- `x > 0.0`, of every float: neither zero is above zero
pub above-is : (x : Float) → above_zero x ≡ lt (of_bits binary32 0) x
unfolding above_zero lt
above-is x = go x ∙ ap (λ (z : Float). lt z x) (sym zero_is)
  where
    go : (x : Float) → above_zero x ≡ lt (at 0 0) x
    go nan = refl
    go (inf s) = refl
    go (fin true m e) = refl
    go (fin false zero e) = sym (le-ltb (0 * 1 * down e) (0 * up e * 1) (le_trans (le_of_eq (mul-one (0 * up e) ∙ zero-mul (up e))) zero-le))
    go (fin false (suc m) e) = ap not (ne_eqb (suc m) 0 (no-suc m)) ∙ sym (lt-ltb (0 * 1 * down e) (suc m * up e * 1) (lt_of_le_of_lt (le_of_eq (zero-mul (down e))) (mul-pos (mul-pos (zero-lt-suc m) (up_pos e)) (zero-lt-suc 0))))

-- 100.0 is 25 * 2 ^ 2, and 2540.0 is 635 * 2 ^ 2
pub hundred-is : of_bits binary32 0x42c8_0000 ≡ at 25 2
unfolding of_bits
hundred-is = refl

pub most-is : of_bits binary32 0x451e_c000 ≡ at 635 2
unfolding of_bits
most-is = refl

-- ---- a wider range holds what a narrower one holds
wider : (a b d : ℕ) → a ≤ b → a * d ≤ b * d
wider a b d h = mul-le-mul_right d h

pub widened : (a b : ℕ) → a ≤ b → (x : Float) → T (within a x) → T (within b x)
unfolding within
widened a b h nan t = t
widened a b h (inf s) t = t
widened a b h (fin s m e) t =
    let p = not s || eqb m 0 in
    and_i p (leb (m * up e) (b * down e)) (and_l p (leb (m * up e) (a * down e)) t)
    (le→leb (m * up e) (b * down e) (le_trans (leb→le (m * up e) (a * down e) (and_r p (leb (m * up e) (a * down e)) t)) (wider a b (down e) h)))

pub is_no_nan : (a : ℕ) (x : Float) → T (within a x) → T (not (is_nan x))
unfolding within is_nan
is_no_nan a nan t = t
is_no_nan a (inf s) t = tt
is_no_nan a (fin s m e) t = tt
