-- `exact::nearest_unsigned` meets its contract. The quotient is raised by one where twice the remainder is at least d.
-- Assumes nothing.
use borrow.Author.Rules.{rules}
use mathlib.Core.Path.{◌≡◌, sym, ap, ◌∙◌}
use Prim.Native.Nat.{ℕ, ◌+◌, ◌-◌, ◌/◌, ◌%◌, ◌≤◌, ◌<◌}
use native.Mathlib.Nat.{div-add-mod, mod-lt, mul-le-mul_right}
use native.Mathlib.Omega.{arith}
use Rattle.exact.specs.Nearest.{nearest_ℕ}
use Rattle.exact.proofs.Nearest.{near_up, near_down, near_none}
use Rattle.exact.proofs.nearest_unsigned.Goals as goal

pub returns-then-d-eq0 : goal.returns-then-d-eq0
returns-then-d-eq0 c = sym (ap (nearest_ℕ c.args.n) c.if-d-eq0.true ∙ near_none c.args.n)

-- the remainder is below d
below : (c : goal.Else-d-eq0) → c.args.n % c.args.d < c.args.d
below c = mod-lt c.args.n {m = c.args.d} (above c.args.d c.if-d-eq0.false)
  where
    above : (d : ℕ) → (d ≡ 0 → ⊥) → 0 < d
    above d h = omega arith

pub nonzero_div-q : goal.nonzero_div-q
nonzero_div-q c = search rules

pub nonzero_rem-r : goal.nonzero_rem-r
nonzero_rem-r c = search rules

pub overflow_sub-d : goal.overflow_sub-d
overflow_sub-d c = omega (arith, below c)

-- a remainder of at least half of d leaves room: d is then at least 2
room : (n d : ℕ) → n % d < d → d - n % d ≤ n % d → n / d + n / d ≤ n
room n d l h = omega (arith, div-add-mod n d, mul-le-mul_right (n / d) (two l h))
  where
    two : n % d < d → d - n % d ≤ n % d → 2 ≤ d
    two l h = omega arith

pub overflow_add-result : goal.overflow_add-result
overflow_add-result c =
    let n = c.args.n in
    let d = c.args.d in
    let f = c.ranges.n in
    omega (arith, room n d (below c.before) c.if-r-d.true)

pub returns-then-r-d : goal.returns-then-r-d
returns-then-r-d c =
    let n = c.args.n in
    let d = c.args.d in
    let l = below c.before in
    sym (near_up n d (n / d) (n % d) (div-add-mod n d) l (omega arith))

pub returns-else-r-d : goal.returns-else-r-d
returns-else-r-d c =
    let n = c.args.n in
    let d = c.args.d in
    let l = below c.before in
    sym (near_down n d (n / d) (n % d) (div-add-mod n d) (omega arith))
