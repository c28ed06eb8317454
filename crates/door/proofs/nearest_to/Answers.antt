-- `door::nearest_to` meets its contract: `proofs/Fields.antt` says what the exponent and the fraction of x's bit pattern are, and
-- `proofs/Places.antt` that one shift is enough. Assumes nothing.
use mathlib.Core.Path.{◌≡◌, sym, ap, ◌∙◌}
use Prim.Native.Nat.{ℕ, ◌+◌, ◌-◌, ◌*◌, ◌%◌, ◌/◌, ◌^◌, ◌<◌, ◌≤◌}
use native.Mathlib.Nat.{mul_left_comm}
use native.Mathlib.Omega.{arith}
use lib.Dec.{T}
use lib.Ieee.{binary32, fits, to_bits}
use borrow.Author.Rules.{rules}
use Rattle.door.proofs.Places.{all_digits, by-halves, shifted-lt}
use Rattle.door.proofs.Range.{is_no_nan}
use Rattle.door.proofs.Fields.{exponent-le, normal, tiny}
use Rattle.door.proofs.nearest_to.Goals as goal

-- what owning an `f32` tells: the format holds it
held : (c : goal.Start) → T (fits binary32 c.args.x)
held c = search rules

pub float_to_bits-bits : goal.float_to_bits-bits
float_to_bits-bits c = is_no_nan 2540 c.args.x c.requires.0

pub returns-then-exponent-lt100 : goal.returns-then-exponent-lt100
returns-then-exponent-lt100 c =
    tiny c.args.x (held c.before) c.requires.0 c.args.per c.args.of c.requires.2 c.requires.1 c.if-exponent-lt100.true

-- the exponent, the fraction, and the fraction times per
abbrev exponent : goal.Else-exponent-lt100 → ℕ
exponent c = to_bits binary32 c.args.x % 2147483648 / 8388608

abbrev fraction : goal.Else-exponent-lt100 → ℕ
fraction c = to_bits binary32 c.args.x % 8388608 + 8388608

num-lt : (c : goal.Else-exponent-lt100) → fraction c * c.args.per < 2 ^ 37
num-lt c = all_digits (to_bits binary32 c.args.x) c.args.per c.requires.1

above : (c : goal.Else-exponent-lt100) → exponent c ≡ 0 → ⊥
above c = go (exponent c) c.if-exponent-lt100.false
  where
    go : (k : ℕ) → 100 ≤ k → k ≡ 0 → ⊥
    go k h z = omega arith

top : (c : goal.Else-exponent-lt100) → exponent c ≤ 138
top c = exponent-le c.args.x (held c.before) c.requires.0 (above c)

-- twice that, and what is left of it after the shift
twice : (c : goal.Else-exponent-lt100) → fraction c * (2 * c.args.per) ≡ 2 * (fraction c * c.args.per)
twice c = mul_left_comm (fraction c) 2 c.args.per

pub overflow_mul-doubled-2 : goal.overflow_mul-doubled-2
overflow_mul-doubled-2 c = omega (arith, num-lt c, twice c)

pub overflow_sub-doubled : goal.overflow_sub-doubled
overflow_sub-doubled c = omega (arith, top c)

few : (c : goal.Else-exponent-lt100) → fraction c * (2 * c.args.per) / 2 ^ (150 - exponent c) < 2 ^ 26
few c = rw (twice c) (shifted-lt (fraction c * c.args.per) (150 - exponent c) (num-lt c) (omega (arith, top c)))

pub overflow_cast-result : goal.overflow_cast-result
overflow_cast-result c = omega (arith, few c)

pub overflow_add-result : goal.overflow_add-result
overflow_add-result c = omega (arith, few c, c.requires.3)

pub returns : goal.returns
returns c =
    ap (λ (n : ℕ). (n / 2 ^ (150 - exponent c) + c.args.of) / (2 * c.args.of)) (twice c)
    ∙ sym (by-halves (fraction c * c.args.per) c.args.of (150 - exponent c))
    ∙ normal c.args.x (held c.before) c.requires.0 c.args.per c.args.of c.requires.2 (above c)
