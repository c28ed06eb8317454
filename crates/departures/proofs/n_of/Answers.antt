-- `departures::n_of` meets its contract: each sum on the way is low, and what they come to is N (`n-shared`). Assumes nothing.
use mathlib.Core.Path.{◌≡◌, ap₂, ◌∙◌}
use Prim.Native.Nat.{◌≤◌}
use native.Mathlib.Nat.{mul-le-mul}
use native.Mathlib.Omega.{arith}
use lib.Dec.{lit<}
use lib.IntN.{nat_abs, ◌+ℤ◌, ◌-ℤ◌}
use mir.Syntax.{w64}
use mir.Val.{SFits}
use mir.Facts.{to_z-of_z}
use Rattle.exact.proofs.Z.{fits-within, within-add}
use Rattle.water.specs.Bounds.{most_n}
use Rattle.water.specs.Expected.{n_of}
use Rattle.water.proofs.Sizes.{n-most}
use Rattle.departures.proofs.DepartureLaws.{part-most, n-shared}
use Rattle.departures.proofs.n_of.Goals as goal
use Rattle.departures.proofs.n_of.Goals.{After-product, After-product-2}

pub product-fixed-requires : goal.product-fixed-requires
product-fixed-requires c = (omega (arith, c.requires.constants_fit.beta), omega (arith, c.requires.pe_le_most_reading.1))

pub runoff_part-part-requires : goal.runoff_part-part-requires
runoff_part-part-requires c = record { constants_fit = c.requires.constants_fit; pro_le_most_capacity = omega (arith, c.requires.pe_le_most_reading) }

pub product-requires : goal.product-requires
product-requires c = (omega (arith, c.requires.constants_fit.alpha), c.requires.pe_le_most_reading.0)

-- the products, and what they come to at most
alpha-low : (c : After-product) → nat_abs c.product.result ≤ 1000000000
alpha-low c = rw c.product.ensures (mul-le-mul c.requires.constants_fit.alpha c.requires.pe_le_most_reading.0)

fixed-low : (c : After-product) → nat_abs c.product-fixed.result ≤ 300000000
fixed-low c = rw c.product-fixed.ensures (mul-le-mul c.requires.constants_fit.beta c.requires.pe_le_most_reading.1)

runoff-low : (c : After-product) → nat_abs c.runoff_part-part.result ≤ 1500000000
runoff-low c = rw c.runoff_part-part.ensures (part-most c.args.k c.args.q.pro c.requires.constants_fit (omega (arith, c.requires.pe_le_most_reading)))

-- the sums on the way
one-low : (c : After-product) → nat_abs (c.product.result +ℤ c.product-fixed.result) ≤ 1300000000
one-low c = within-add c.product.result c.product-fixed.result 1000000000 300000000 (alpha-low c) (fixed-low c)

two-low : (c : After-product) → nat_abs ((c.product.result +ℤ c.product-fixed.result) +ℤ c.runoff_part-part.result) ≤ 2800000000
two-low c = within-add (c.product.result +ℤ c.product-fixed.result) c.runoff_part-part.result 1300000000 1500000000 (one-low c) (runoff-low c)

pub overflow_add-result : goal.overflow_add-result
overflow_add-result c =
    let at = (goal.at.overflow_add-result c).After-product in
    let fa : SFits w64 c.product.result = record { sfits = c.product.type_inv } in
    let ff : SFits w64 c.product-fixed.result = record { sfits = c.product-fixed.type_inv } in
    simp to_z-of_z (fits-within w64 _ 1300000000 (one-low at) (lit< tt))

pub overflow_add-result-2 : goal.overflow_add-result-2
overflow_add-result-2 c =
    let at = (goal.at.overflow_add-result-2 c).After-product in
    let fa : SFits w64 c.product.result = record { sfits = c.product.type_inv } in
    let ff : SFits w64 c.product-fixed.result = record { sfits = c.product-fixed.type_inv } in
    let fr : SFits w64 c.runoff_part-part.result = record { sfits = c.runoff_part-part.type_inv } in
    let f1 : SFits w64 (c.product.result +ℤ c.product-fixed.result) = fits-within w64 _ 1300000000 (one-low at) (lit< tt) in
    simp to_z-of_z (fits-within w64 _ 2800000000 (two-low at) (lit< tt))

pub product-requires-2 : goal.product-requires-2
product-requires-2 c = (omega (arith, c.requires.constants_fit.delta), omega (arith, c.requires.pe_le_most_reading))

-- N
three : (c : After-product-2) → ((c.product.result +ℤ c.product-fixed.result) +ℤ c.runoff_part-part.result) -ℤ c.product-2.result ≡ n_of c.args.k c.args.pe c.args.q
three c =
    ap₂ ◌-ℤ◌ (ap₂ ◌+ℤ◌ (ap₂ ◌+ℤ◌ c.product.ensures c.product-fixed.ensures) c.runoff_part-part.ensures) c.product-2.ensures
    ∙ n-shared c.args.k c.args.capacity c.args.pe c.args.q c.requires.pe_le_most_reading.2

n-fits : (c : After-product-2) → SFits w64 (((c.product.result +ℤ c.product-fixed.result) +ℤ c.runoff_part-part.result) -ℤ c.product-2.result)
n-fits c =
    let p = c.requires.pe_le_most_reading in
    rw (three c) (fits-within w64 _ most_n (n-most c.args.k c.args.pe c.args.q c.requires.constants_fit p.0 (omega (arith, p), p.3)) (lit< tt))

pub overflow_sub-result : goal.overflow_sub-result
overflow_sub-result c =
    let at = goal.at.overflow_sub-result c in
    let fa : SFits w64 c.product.result = record { sfits = c.product.type_inv } in
    let ff : SFits w64 c.product-fixed.result = record { sfits = c.product-fixed.type_inv } in
    let fr : SFits w64 c.runoff_part-part.result = record { sfits = c.runoff_part-part.type_inv } in
    let fl : SFits w64 c.product-2.result = record { sfits = c.product-2.type_inv } in
    let f1 : SFits w64 (c.product.result +ℤ c.product-fixed.result) = fits-within w64 _ 1300000000 (one-low at.After-product) (lit< tt) in
    let f2 : SFits w64 ((c.product.result +ℤ c.product-fixed.result) +ℤ c.runoff_part-part.result) = fits-within w64 _ 2800000000 (two-low at.After-product) (lit< tt) in
    simp to_z-of_z (n-fits at.After-product-2)

pub returns : goal.returns
returns c =
    let at = goal.at.returns c in
    let fa : SFits w64 c.product.result = record { sfits = c.product.type_inv } in
    let ff : SFits w64 c.product-fixed.result = record { sfits = c.product-fixed.type_inv } in
    let fr : SFits w64 c.runoff_part-part.result = record { sfits = c.runoff_part-part.type_inv } in
    let fl : SFits w64 c.product-2.result = record { sfits = c.product-2.type_inv } in
    let f1 : SFits w64 (c.product.result +ℤ c.product-fixed.result) = fits-within w64 _ 1300000000 (one-low at.After-product) (lit< tt) in
    let f2 : SFits w64 ((c.product.result +ℤ c.product-fixed.result) +ℤ c.runoff_part-part.result) = fits-within w64 _ 2800000000 (two-low at.After-product) (lit< tt) in
    let f3 : SFits w64 (((c.product.result +ℤ c.product-fixed.result) +ℤ c.runoff_part-part.result) -ℤ c.product-2.result) = n-fits at.After-product-2 in
    simp to_z-of_z (three at.After-product-2)
