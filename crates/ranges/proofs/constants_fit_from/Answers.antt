-- `ranges::constants_fit_from` meets its contract: month by month. Assumes nothing.
use mathlib.Core.Path.{◌≡◌, refl}
use mathlib.Core.Bool.{not-not}
use native.Mathlib.Omega.{arith}
use mir.Syntax.{w32}
use mir.Val.{to_z}
use Prim.Native.Nat.{ℕ, ◌*◌}
use Rattle.outline.specs.Every.{all_of}
use Rattle.outline.proofs.Every.{bad-on}
use Rattle.outline.specs.Numbers.{many_of_a_month, last_month}
use Rattle.ranges.specs.Five.{five_from}
use Rattle.ranges.proofs.constants_fit_from.Goals as goal

pub loop-month-init : goal.loop-month-init
unfolding all_of
loop-month-init g c = refl

pub loop-month-preserved : goal.loop-month-preserved
loop-month-preserved g c =
    bad-on (λ (m : ℕ). five_from (to_z w32 g.row.LEAST_K) c.args.c.now (many_of_a_month * m)) c.loop-month.month _ _ c.loop-month.invariant c.five_beyond-bad.ensures

pub returns : goal.returns
returns g c =
    let e : c.loop-month.month ≡ last_month = omega arith in
    rw (c.loop-month.invariant, e) (not-not _)
