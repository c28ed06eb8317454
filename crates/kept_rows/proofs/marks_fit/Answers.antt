-- `kept_rows::marks_fit` meets its contract: none of the first marks is beyond (`none_of`). Assumes nothing.
use Rattle.std.proofs.Common.{◌≡◌, rules, ◌&&◌}
use mathlib.Core.Bool.{not}
use lib.IntN.{pos}
use lib.Signed.{le_z}
use Rattle.std.proofs.lemmas.List.{length-take-le}
use Rattle.kept_rows.specs.Lists.{mark_at}
use Rattle.kept_rows.proofs.Lists.{mark-answers}
use Rattle.kept_rows.proofs.marks_fit.Goals as goal

pub returns : goal.returns
returns c =
    let a = c.args in
    let e = c.none_of.ensures (mark_at a.mark.now) (λ i x r b n s.
    let t : r ≡ not (le_z (pos 1) (pos x) && le_z (pos x) (pos 2)) = search rules in
    mark-answers a.months i a.mark.now x r c.requires b n t) in
    rw (length-take-le a.months a.mark.now c.requires) at e
