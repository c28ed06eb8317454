-- What a signed local holds: bits, from which the machine reads the number back, `to_z w (of_z w z)`. Lemmas that `search rules` and `simp` lack.
-- Assumes nothing.
use mathlib.Core.Path.{◌≡◌, refl, sym, ap, ap₂, ◌∙◌}
use mathlib.Core.Bool.{Bool, true, false}
use Prim.Native.Nat.{ℕ, suc, ◌≤◌, ◌^◌, ◌/◌, ◌%◌}
use native.Mathlib.Nat.{lt_trans, le_trans, lt_of_le_of_lt, div-le_self}
use native.Mathlib.Omega.{arith}
use lib.Dec.{lit<}
use lib.Pow.{pow_pos}
use lib.IntN.{ℤ, pos, negsuc, neg_ℤ, nat_abs}
use lib.Signed.{◌≤ℤ◌, ◌<ℤ◌, lt_z, le_z, quot_z, rem_z, mag_rem}
use Rattle.exact.proofs.Z.{Z, zs, Z-minus, abs-minus, lt_yes, lt_no, le_yes, le-no, fits-within}
use borrow.Author.Rules.{rules}
use mir.Syntax.{Width, w32, w64}
use mir.Val.{Fits, SFits, to_z, of_z, hbits}
use mir.Facts.{sfits_widen, to_z-of_z, to_z_pos}

fits-down : (w : Width) (z : ℤ) (m : ℕ) → z ≡ Z 0 m → m ≤ 2 ^ hbits w → SFits w z
fits-down w z m e h = rw e (simp zs (omega (arith, pow_pos (hbits w))))

-- an `i32` fits an `i64`
pub wide : {z : ℤ} → SFits w32 z → SFits w64 z
wide f = sfits_widen tt f

-- a `u32` read as an `i64`, after `n as i64`
pub unsigned : (n : ℕ) → Fits w32 n → to_z w64 n ≡ pos n
unsigned n f = to_z_pos w64 (lt_trans f.fits (lit< tt))

-- `x == y` compares bits
pub same_bits : {w : Width} {x y : ℤ} → SFits w x → SFits w y → of_z w x ≡ of_z w y → x ≡ y
same_bits {w} f g e = sym (to_z-of_z f) ∙ ap (to_z w) e ∙ to_z-of_z g

-- ---- a quotient and a remainder by a number above 0
pub quot_fits : (w : Width) (x : ℤ) (d : ℕ) → SFits w x → SFits w (quot_z x (pos d))
quot_fits w (pos a) d f = record { sfits = lt_of_le_of_lt (div-le_self a d) f.sfits }
quot_fits w (negsuc a) d f = minus (suc a / d) (div-le_self (suc a) d)
  where
    minus : (m : ℕ) → m ≤ suc a → SFits w (neg_ℤ (pos m))
    minus m h = fits-down w (neg_ℤ (pos m)) m (Z-minus m) (le_trans h f.sfits)

pub rem-fits : (w : Width) (x : ℤ) (d : ℕ) → SFits w x → SFits w (rem_z x (pos d))
rem-fits w x d f = record { sfits = lt_of_le_of_lt (mag_rem x (pos d)) f.sfits }

pub abs-quot : (x : ℤ) (d : ℕ) → nat_abs (quot_z x (pos d)) ≡ nat_abs x / d
abs-quot (pos a) d = refl
abs-quot (negsuc a) d = abs-minus (suc a / d)

pub abs-rem : (x : ℤ) (d : ℕ) → nat_abs (rem_z x (pos d)) ≡ nat_abs x % d
abs-rem (pos a) d = refl
abs-rem (negsuc a) d = abs-minus (suc a % d)

-- ---- a branch's test of two signed numbers, each a parameter, a field, a call's result or a literal, as a fact R of the numbers
abbrev Told : Width → (ℤ → ℤ → Bool) → Bool → (ℤ → ℤ → Type 0) → Type 0
Told w f b R = (x y : ℤ) → SFits w x → SFits w y → f (to_z w (of_z w x)) (to_z w (of_z w y)) ≡ b → R x y

told : (w : Width) (f : ℤ → ℤ → Bool) (b : Bool) (R : ℤ → ℤ → Type 0) → ((x y : ℤ) → f x y ≡ b → R x y) → Told w f b R
told w f b R is x y fx fy h = is x y (sym (ap₂ f (to_z-of_z fx) (to_z-of_z fy)) ∙ h)

-- `search` wants the width fixed: each test at the two widths
pub lt64-yes : Told w64 lt_z true (λ x y. x <ℤ y)
lt64-yes = told w64 lt_z true (λ x y. x <ℤ y) lt_yes

pub lt64-no : Told w64 lt_z false (λ x y. y ≤ℤ x)
lt64-no = told w64 lt_z false (λ x y. y ≤ℤ x) lt_no

pub le64-yes : Told w64 le_z true (λ x y. x ≤ℤ y)
le64-yes = told w64 le_z true (λ x y. x ≤ℤ y) le_yes

pub le64-no : Told w64 le_z false (λ x y. y <ℤ x)
le64-no = told w64 le_z false (λ x y. y <ℤ x) le-no

pub lt32-yes : Told w32 lt_z true (λ x y. x <ℤ y)
lt32-yes = told w32 lt_z true (λ x y. x <ℤ y) lt_yes

pub lt32-no : Told w32 lt_z false (λ x y. y ≤ℤ x)
lt32-no = told w32 lt_z false (λ x y. y ≤ℤ x) lt_no

pub le32-yes : Told w32 le_z true (λ x y. x ≤ℤ y)
le32-yes = told w32 le_z true (λ x y. x ≤ℤ y) le_yes

pub le32-no : Told w32 le_z false (λ x y. y <ℤ x)
le32-no = told w32 le_z false (λ x y. y <ℤ x) le-no

pub ruleset tests = (lt64-yes, lt64-no, le64-yes, le64-no, lt32-yes, lt32-no, le32-yes, le32-no)

-- what `search rules` closes, and what it lacks on signed numbers: write `search held` where the guides say `search rules`
pub ruleset held = (wide, fits-within, quot_fits, rem-fits, unsigned, tests, rules)
