-- `ranges::beyond` meets its contract: each of its tests is the denial of one of the definition's. Assumes nothing.
use mathlib.Core.Path.{◌≡◌, sym, ap, ◌∙◌}
use mathlib.Core.Bool.{not, ◌&&◌, ◌||◌}
use lib.IntN.{ℤ}
use lib.Signed.{le_z, lt_z}
use mir.Facts.{to_z-of_z}
use Rattle.outline.proofs.Tests.{if-so}
use Rattle.exact.proofs.Z.{le_yes, le-no}
use Rattle.exact.proofs.Orders.{lt-is, lt_not}
use Rattle.outline.proofs.Every.{not-both}
use Rattle.ranges.proofs.beyond.Goals as goal

denied : (a b : ℤ) → lt_z a b ≡ not (le_z b a)
denied a b = if-so (le_z b a) (λ t. lt_not a b (le_yes b a t) ∙ sym (ap not t)) (λ f. lt-is a b (le-no b a f) ∙ sym (ap not f))

outside : (least n most : ℤ) → (lt_z n least || lt_z most n) ≡ not (le_z least n && le_z n most)
outside least n most = rw (denied n least, denied most n, not-both)

pub returns : goal.returns
returns c =
    let least = c.ranges.least in
    let n = c.ranges.n in
    let most = c.ranges.most in
    simp to_z-of_z (outside c.args.least c.args.n c.args.most)
