-- `weighing::weights_fit` meets its contract: none of the weights is beyond (`none_of`). Assumes nothing.
use Rattle.std.proofs.Common.{◌≡◌, rules, ◌&&◌, ◌<◌, ℕ, List}
use mathlib.Core.Bool.{Bool, not}
use lib.IntN.{ℤ, pos}
use lib.ListN.{length, get_or}
use lib.Signed.{le_z}
use Rattle.std.proofs.lemmas.List.{get_or_default}
use Rattle.water.specs.Constants.{most_k}
use Rattle.kept_rows.specs.KeptRows.{amount_fits}
use Rattle.weighing.proofs.weights_fit.Goals as goal

answers : (weights : List ℤ) (i : ℕ) (x : ℤ) (r : Bool) → i < length weights → get_or weights i x ≡ x → r ≡ not (le_z (pos 0) x && le_z x (pos most_k)) → r ≡ not (amount_fits most_k (get_or weights i (pos 0)))
unfolding amount_fits
answers weights i x r b e t = rw (get_or_default weights i (pos 0) x b, e) t

pub returns : goal.returns
returns c =
    let w = c.args.weights.now in
    let e = c.none_of.ensures (λ m. amount_fits most_k (get_or w m (pos 0))) (λ i x r b n s.
    let t : r ≡ not (le_z (pos 0) x && le_z x (pos most_k)) = search rules in
    answers w i x r b n t) in
    rw c.requires at e
