-- `kept_rows::none_of` meets its contract. The loop's invariant: whether the items passed are so is known, by any test that is not passed
-- where one is. Assumes nothing.
use Rattle.std.proofs.Common.{◌≡◌, refl, sym, length, arith}
use mathlib.Core.Bool.{not-not}
use Rattle.std.proofs.lemmas.Fn.{says_at}
use Rattle.outline.proofs.Every.{all_none, bad-on}
use Rattle.kept_rows.proofs.none_of.Goals as goal

pub loop-x-init : goal.loop-x-init
loop-x-init g c = λ test h. rw (all_none test) refl

pub loop-x-preserved : goal.loop-x-preserved
loop-x-preserved g c =
    λ test h.
    bad-on test c.loop-x.x-index c.loop-x.some c.is_so-some.result (c.loop-x.invariant test h)
    (h c.loop-x.x-index c.x-item.result c.is_so-some.result (omega arith) (sym c.x-item.is) (says_at g.F.Fn c.is_so-some.ensures refl))

pub returns : goal.returns
returns g c = λ test h.
    let n : c.loop-x.x-index ≡ length c.args.items.now = omega arith in
    rw (c.loop-x.invariant test h, n) (not-not _)
