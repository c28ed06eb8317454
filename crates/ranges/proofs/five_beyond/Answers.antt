-- `ranges::five_beyond` meets its contract: the month's five places in turn. Assumes nothing.
use mathlib.Core.Path.{◌≡◌}
use mathlib.Core.Bool.{Bool, not, ◌&&◌, ◌||◌, and_assoc, or_assoc}
use mathlib.Core.List.{List}
use Prim.Native.Nat.{ℕ, ◌+◌, ◌%◌}
use native.Mathlib.Omega.{arith}
use lib.IntN.{ℤ, pos}
use lib.ListN.{get_or}
use lib.Signed.{le_z}
use mir.Syntax.{w32}
use mir.Val.{SFits}
use mir.Facts.{to_z-of_z}
use Rattle.exact.proofs.Held.{held}
use Rattle.outline.specs.Numbers.{many_of_a_month}
use Rattle.outline.proofs.Every.{not-both}
use Rattle.water.specs.Constants.{most_share, most_gamma, most_k}
use Rattle.ranges.specs.Ranges.{limit_of, constant_fits}
use Rattle.ranges.specs.Five.{five_from}
use Rattle.ranges.proofs.five_beyond.Goals as goal

-- the constant at a place is not from a least to a most
abbrev beyond_at : List ℤ → ℕ → ℤ → ℕ → Bool
beyond_at l i least most = not (le_z least (get_or l i (pos 0)) && le_z (get_or l i (pos 0)) (pos most))

five : (least : ℤ) (l : List ℤ) (at : ℕ) → at % many_of_a_month ≡ 0
    → (beyond_at l at (pos 0) most_share || beyond_at l (at + 1) (pos 0) most_share || beyond_at l (at + 2) (pos 0) most_gamma || beyond_at l (at + 3) (pos 0) most_share || beyond_at l (at + 4) least most_k)
    ≡ not (five_from least l at)
unfolding five_from constant_fits limit_of
five least l at h =
    let e1 : (at + 1) % many_of_a_month ≡ 1 = omega arith in
    let e2 : (at + 2) % many_of_a_month ≡ 2 = omega arith in
    let e3 : (at + 3) % many_of_a_month ≡ 3 = omega arith in
    rw (h, e1, e2, e3) (simp (not-both, and_assoc, or_assoc))

pub returns : goal.returns
returns g c =
    let l = c.args.c.now in
    let i = c.args.at in
    let alpha : SFits w32 (get_or l i (pos 0)) = search held in
    let beta : SFits w32 (get_or l (i + 1) (pos 0)) = search held in
    let gamma : SFits w32 (get_or l (i + 2) (pos 0)) = search held in
    let delta : SFits w32 (get_or l (i + 3) (pos 0)) = search held in
    let k : SFits w32 (get_or l (i + 4) (pos 0)) = search held in
    rw (
      simp to_z-of_z at c.beyond.ensures,
      simp to_z-of_z at c.beyond-2.ensures,
      simp to_z-of_z at c.beyond-3.ensures,
      simp to_z-of_z at c.beyond-4.ensures,
      simp to_z-of_z at c.beyond-5.ensures,
    )
    (five _ l i c.requires.1)
