-- `ending::percent_of` meets its contract: the two tests hold the nearest whole number within 1 to 99. Assumes nothing.
use mathlib.Core.Path.{◌≡◌, ap, ◌∙◌}
use Prim.Native.Nat.{◌≤◌, ◌*◌}
use native.Mathlib.Omega.{arith}
use lib.Dec.{T}
use lib.IntN.{ℤ, pos, nat_abs, ◌*ℤ◌}
use lib.Signed.{non_neg, ◌≤ℤ◌}
use mir.Syntax.{w32, w64}
use mir.Val.{Fits, SFits}
use mir.Facts.{to_z-of_z}
use Rattle.std.specs.Int.{int_min, int_max}
use Rattle.exact.specs.Bounds.{most_rounded}
use Rattle.exact.specs.Nearest.{nearest, clip}
use Rattle.exact.proofs.Z.{zs, zs-abs, is-Z, fits-within}
use Rattle.exact.proofs.Held.{held}
use Rattle.ending.specs.Bounds.{most_v}
use Rattle.ending.specs.Ending.{percent_of}
use Rattle.ending.proofs.Rooms.{percent-held}
use Rattle.ending.proofs.percent_of.Goals as goal
use Rattle.ending.proofs.percent_of.Goals.{After-nearest_signed}

room : (v : ℤ) → nat_abs v ≤ 2 * most_v → nat_abs (pos 100000 *ℤ v) ≤ most_rounded
room v = rw (is-Z v) (simp zs (omega arith))

fit : (v : ℤ) → nat_abs v ≤ 2 * most_v → SFits w64 (pos 100000 *ℤ v)
fit v h = fits-within w64 (pos 100000 *ℤ v) most_rounded (room v h) (omega arith)

pub overflow_mul-v : goal.overflow_mul-v
overflow_mul-v c = search (held, fit)

pub nearest_signed-requires : goal.nearest_signed-requires
nearest_signed-requires c = search (held, fit, room)

-- the nearest to 100,000 V / Q, held within 1 to 99
abbrev near : ℤ → ℤ → ℤ
near v q = nearest (pos 100000 *ℤ v) (clip q)

nearest-is : (c : After-nearest_signed) → c.nearest_signed.result ≡ near c.args.v c.args.q
nearest-is c = c.nearest_signed.ensures ∙ (search (held, fit))

given : (c : goal.After-clamp) → c.clamp.result ≡ int_max (pos 1) (int_min (near c.args.v c.args.q) (pos 99))
given c =
    let f : SFits w64 c.nearest_signed.result = record { sfits = c.nearest_signed.type_inv } in
    rw (to_z-of_z f, nearest-is c.before) at c.clamp.ensures.value

counted : (p : ℤ) → pos 1 ≤ℤ p → p ≤ℤ pos 99 → T (non_neg p) × Fits w32 (nat_abs p)
counted p = rw (is-Z p) (simp zs-abs (omega arith))

pub overflow_cast-result : goal.overflow_cast-result
overflow_cast-result c =
    let f : SFits w64 c.clamp.result = record { sfits = c.clamp.type_inv } in
    simp to_z-of_z (counted c.clamp.result c.clamp.ensures.lower_bound c.clamp.ensures.upper_bound)

pub returns : goal.returns
unfolding percent_of
returns c =
    let f : SFits w64 c.clamp.result = record { sfits = c.clamp.type_inv } in
    simp to_z-of_z (ap nat_abs (given c) ∙ percent-held (near c.args.v c.args.q))
