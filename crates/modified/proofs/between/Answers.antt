-- `modified::between` meets its contract: the one division of d (high + low) by w + d, and the half that what is left is held to. Assumes nothing.
use borrow.Author.Rules.{rules}
use Prim.Native.Nat.{ℕ, suc, ◌+◌, ◌*◌, ◌/◌, ◌%◌, ◌≤◌, ◌<◌}
use native.Mathlib.Nat.{div-add-mod, mod-lt, div-lt_iff_lt-mul, mul-le-mul, mul-le-mul_right}
use native.Mathlib.Omega.{arith}
use mathlib.Core.Path.{◌≡◌, ap, ap₂, ◌∙◌}
use lib.IntN.{ℤ, pos, ◌-ℤ◌}
use lib.Signed.{◌≤ℤ◌, ◌<ℤ◌}
use mir.Syntax.{w64}
use mir.Val.{SFits, to_z, of_z}
use mir.Facts.{to_z-of_z, to_z_pos}
use Rattle.outline.specs.Numbers.{most_x}
use Rattle.exact.proofs.Z.{zs, lt_yes, lt_no}
use Rattle.modified.specs.Leans.{most_d}
use Rattle.modified.proofs.Halves.{kept_above, left-above, kept-below, left_below}
use Rattle.modified.proofs.between.Goals as goal
use Rattle.modified.proofs.between.Goals.{Then-x-gt0, Else-x-gt0}

module _ (s : goal.Start) where
  abbrev high : ℕ
  high = s.args.high

  abbrev low : ℕ
  low = s.args.low

  abbrev w : ℕ
  w = s.args.w

  abbrev d : ℕ
  d = s.args.d

  abbrev k : ℕ
  k = d * (high + low) / (w + d)

  abbrev r : ℕ
  r = d * (high + low) % (w + d)

  product : d * (high + low) ≤ most_d * (2 * most_x)
  product = mul-le-mul {m₂ = 2 * most_x} s.requires.d_fits (omega (arith, s.requires.high_fits, s.requires.low_fits))

  whole : (w + d) * k + r ≡ d * (high + low)
  whole = div-add-mod (d * (high + low)) (w + d)

  left : r < w + d
  left = mod-lt (d * (high + low)) {m = w + d} s.requires.some

  few : k < suc (high + low)
  few =
      let h : d ≤ w + d = omega arith in
      (div-lt_iff_lt-mul {k = w + d} {x = d * (high + low)} {y = suc (high + low)} s.requires.some).1 (omega (arith, s.requires.some, mul-le-mul_right (high + low) h))

  -- high less k, and one less, fit
  fits : SFits w64 (pos high -ℤ pos k) × SFits w64 (pos high -ℤ pos k -ℤ pos 1)
  fits = go high k (omega (arith, s.requires.high_fits)) (omega (arith, few, s.requires.high_fits, s.requires.low_fits))
    where
      go : (a b : ℕ) → a ≤ most_x → b ≤ 2 * most_x → SFits w64 (pos a -ℤ pos b) × SFits w64 (pos a -ℤ pos b -ℤ pos 1)
      go a b = simp zs (omega arith)

  -- as the machine has them
  told : to_z w64 high -ℤ to_z w64 k ≡ pos high -ℤ pos k
  told = ap₂ (λ (a b : ℤ). a -ℤ b) (to_z_pos w64 {n = high} (omega (arith, s.requires.high_fits))) (to_z_pos w64 {n = k} (omega (arith, few, s.requires.high_fits, s.requires.low_fits)))

  x-is : to_z w64 (of_z w64 (to_z w64 high -ℤ to_z w64 k)) ≡ pos high -ℤ pos k
  x-is = ap (λ (x : ℤ). to_z w64 (of_z w64 x)) told ∙ to_z-of_z fits.0

  less-is : to_z w64 (of_z w64 (to_z w64 (of_z w64 (to_z w64 high -ℤ to_z w64 k)) -ℤ pos 1)) ≡ pos high -ℤ pos k -ℤ pos 1
  less-is = ap (λ (x : ℤ). to_z w64 (of_z w64 (x -ℤ pos 1))) x-is ∙ to_z-of_z fits.1

pub overflow_add-q : goal.overflow_add-q
overflow_add-q c = search rules

pub overflow_add-t : goal.overflow_add-t
overflow_add-t c = search rules

pub overflow_mul-t : goal.overflow_mul-t
overflow_mul-t c = record { fits = omega (arith, product c) }

pub overflow_cast-x : goal.overflow_cast-x
overflow_cast-x c = search rules

pub nonzero_div-x : goal.nonzero_div-x
nonzero_div-x c = search rules

pub overflow_cast-x-2 : goal.overflow_cast-x-2
overflow_cast-x-2 c = record { sfits = omega (arith, few c, c.requires.high_fits, c.requires.low_fits) }

pub overflow_sub-x : goal.overflow_sub-x
overflow_sub-x c = rw (told c) (fits c).0

pub nonzero_rem-rest : goal.nonzero_rem-rest
nonzero_rem-rest c = search rules

pub overflow_add-twice : goal.overflow_add-twice
overflow_add-twice c = record { fits = omega (arith, left c, c.requires.d_fits, c.requires.w_fits) }

pub overflow_sub-result : goal.overflow_sub-result
overflow_sub-result c = rw (x-is c.before.before) (fits c.before.before).1

pub overflow_sub-result-then-twice-q-2 : goal.overflow_sub-result-then-twice-q-2
overflow_sub-result-then-twice-q-2 c = rw (x-is c.before.before) (fits c.before.before).1

-- whether high less k is above 0, by the test
above : (c : Then-x-gt0) → pos 0 <ℤ (pos (high c.before) -ℤ pos (k c.before))
above c = lt_yes (pos 0) _ (rw (x-is c.before) at c.if-x-gt0.true)

below : (c : Else-x-gt0) → (pos (high c.before) -ℤ pos (k c.before)) ≤ℤ pos 0
below c = lt_no (pos 0) _ (rw (x-is c.before) at c.if-x-gt0.false)

pub returns-then-twice-q : goal.returns-then-twice-q
returns-then-twice-q c = less-is c.before.before ∙ left-above (high c.before.before) (low c.before.before) (w c.before.before) (d c.before.before) (k c.before.before) (r c.before.before) (whole c.before.before) (left c.before.before) (above c.before) c.if-twice-q.true

pub returns-else-twice-q : goal.returns-else-twice-q
returns-else-twice-q c = x-is c.before.before ∙ kept_above (high c.before.before) (low c.before.before) (w c.before.before) (d c.before.before) (k c.before.before) (r c.before.before) (whole c.before.before) (left c.before.before) (above c.before) c.if-twice-q.false

pub returns-then-twice-q-2 : goal.returns-then-twice-q-2
returns-then-twice-q-2 c = less-is c.before.before ∙ left_below (high c.before.before) (low c.before.before) (w c.before.before) (d c.before.before) (k c.before.before) (r c.before.before) (whole c.before.before) (left c.before.before) (below c.before) c.if-twice-q-2.true

pub returns-else-twice-q-2 : goal.returns-else-twice-q-2
returns-else-twice-q-2 c = x-is c.before.before ∙ kept-below (high c.before.before) (low c.before.before) (w c.before.before) (d c.before.before) (k c.before.before) (r c.before.before) (whole c.before.before) (left c.before.before) (below c.before) c.if-twice-q-2.false
