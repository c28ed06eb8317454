-- `water::expected_of` meets its contract: CAFEC and Z, each from N, and both fit. Assumes nothing.
use mathlib.Core.Path.{◌≡◌, ap, ap₂, ◌∙◌}
use Prim.Native.Nat.{◌≤◌}
use native.Mathlib.Omega.{arith}
use lib.Dec.{lit<}
use lib.IntN.{ℤ, nat_abs}
use mir.Syntax.{w32, w64}
use mir.Val.{SFits}
use mir.Facts.{to_z-of_z}
use Rattle.exact.specs.Bounds.{most_rounded}
use Rattle.exact.proofs.Z.{fits-within}
use Rattle.exact.proofs.Held.{held}
use Rattle.water.specs.Expected.{n_of, cafec_of, z_of, expected_of}
use Rattle.water.specs.Bounds.{most_n}
use Rattle.water.specs.declared.Expected.{Expected}
use Rattle.water.proofs.Sizes.{n-most, cafec-most}
use Rattle.water.proofs.expected_of.Goals as goal

pub n_of-n-requires : goal.n_of-n-requires
n_of-n-requires c = search held

-- N is bounded
bounded : (c : goal.After-n_of-n) → nat_abs c.n_of-n.result ≤ most_n
bounded c =
    rw c.n_of-n.ensures (n-most c.args.k c.args.pe c.args.q c.requires.constants_fit c.requires.p_le_most_reading.1 c.requires.pro_bound)

pub nearest_signed-cafec-requires : goal.nearest_signed-cafec-requires
nearest_signed-cafec-requires c = let k : nat_abs c.n_of-n.result ≤ most_rounded = omega (arith, bounded c) in search held

given : (c : goal.After-nearest_signed-cafec) → c.nearest_signed-cafec.result ≡ cafec_of c.n_of-n.result
unfolding cafec_of
given c = c.nearest_signed-cafec.ensures ∙ (search held)

fits : (c : goal.After-nearest_signed-cafec) → SFits w32 c.nearest_signed-cafec.result
fits c = rw (given c) (fits-within w32 _ 250000 (cafec-most c.n_of-n.result (bounded c.before)) (lit< tt))

pub overflow_cast-result : goal.overflow_cast-result
overflow_cast-result c = let k = fits c in search held

pub z_of-requires : goal.z_of-requires
z_of-requires c = let k = bounded c.before in search held

abbrev pair : ℤ → ℤ → Expected
pair x y = record { cafec = x; z = y }

-- both are of N
cafec : (c : goal.After-z_of) → c.nearest_signed-cafec.result ≡ cafec_of (n_of c.args.k c.args.pe c.args.q)
cafec c = given c.before ∙ ap cafec_of c.n_of-n.ensures

z : (c : goal.After-z_of) → c.z_of.result ≡ z_of c.args.k.k c.args.p (n_of c.args.k c.args.pe c.args.q)
z c = c.z_of.ensures ∙ ap (z_of c.args.k.k c.args.p) (to_z-of_z {w = w64} (record { sfits = c.n_of-n.type_inv }) ∙ c.n_of-n.ensures)

pub returns : goal.returns
unfolding expected_of
returns c =
    let k = fits c.before in
    let w = ap₂ pair (cafec c) (z c) in
    search held
