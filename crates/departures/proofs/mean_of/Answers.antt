-- `departures::mean_of` meets its contract: the mean is nearest, and fits since it is at most 350,000. Assumes nothing.
use Rattle.given_rows.specs.Facts.{Watered}
use mathlib.Core.Path.{◌≡◌, ap, ◌∙◌}
use Prim.Native.Nat.{ℕ}
use native.Mathlib.Omega.{arith}
use borrow.Author.Rules.{rules}
use Rattle.exact.specs.Nearest.{nearest_ℕ}
use Rattle.sums.specs.Sums.{row_in}
use Rattle.departures.specs.Departures.{mean_of}
use Rattle.sums.proofs.SumLaws.{rows_fit}
use Rattle.departures.proofs.DepartureLaws.{mean-most}
use Rattle.departures.proofs.mean_of.Goals as goal

pub overflow_cast-sum : goal.overflow_cast-sum
overflow_cast-sum c = search rules

pub nearest_unsigned-requires : goal.nearest_unsigned-requires
nearest_unsigned-requires c = search rules

mean-is : (c : goal.After-nearest_unsigned) → let m = c.args.month.now in c.nearest_unsigned.result ≡ mean_of c.args.k (row_in m.capacity m.records.now m.at) m.years
unfolding mean_of
mean-is c = c.nearest_unsigned.ensures ∙ ap (λ (n : ℕ). nearest_ℕ n c.args.month.now.years) c.departures_of-sum.ensures

pub overflow_cast-result : goal.overflow_cast-result
overflow_cast-result c =
    let b = c.args.month.now in
    let e = mean-is c in
    let w : Watered b.capacity b.records.now b.at b.years = search rules in
    let m = mean-most c.args.k (row_in b.capacity b.records.now b.at) b.years c.requires (rows_fit b.capacity b.records.now b.at b.years w) in
    omega arith

pub returns : goal.returns
returns c = mean-is c
