-- `kept_rows::column_fits` meets its contract: none of the first numbers is beyond (`none_of`). Assumes nothing.
use Rattle.std.proofs.Common.{◌≡◌, rules, ◌&&◌}
use mathlib.Core.Bool.{not}
use lib.Signed.{le_z}
use Rattle.std.proofs.lemmas.List.{length-take-le}
use Rattle.kept_rows.specs.Lists.{between_at}
use Rattle.kept_rows.proofs.Lists.{column-answers}
use Rattle.kept_rows.proofs.column_fits.Goals as goal

pub returns : goal.returns
returns c =
    let a = c.args in
    let e = c.none_of.ensures (between_at a.least a.most a.column.now) (λ i x r b n s.
    let t : r ≡ not (le_z a.least x && le_z x a.most) = search rules in
    column-answers a.months i a.least a.most a.column.now x r c.requires b n t) in
    rw (length-take-le a.months a.column.now c.requires) at e
