-- `water::n_of` meets its contract. What is wanted and what is lost both fit an `i64`, since every constant and amount is bounded.
-- Assumes nothing.
use borrow.Author.Rules.{rules}
use mathlib.Core.Path.{◌≡◌, ap₂}
use Prim.Native.Nat.{ℕ, ◌+◌, ◌*◌, ◌≤◌}
use native.Mathlib.Nat.{lt_of_le_of_lt}
use native.Mathlib.Omega.{arith}
use lib.Dec.{lit<}
use lib.IntN.{pos, ◌-ℤ◌}
use mir.Syntax.{w64}
use mir.Val.{SFits, to_z}
use mir.Facts.{to_z-of_z, to_z_pos}
use Rattle.exact.proofs.Z.{fits-within}
use Rattle.water.specs.Expected.{n_of}
use Rattle.water.specs.Bounds.{most_n}
use Rattle.water.proofs.Sizes.{most_lost, wanted-most, lost-most, n-most}
use Rattle.water.proofs.n_of.Goals as goal

wanted : (c : goal.Start) → c.args.k.alpha * c.args.pe + c.args.k.beta * c.args.q.pr + c.args.k.gamma * c.args.q.pro ≤ most_n
wanted c = wanted-most c.args.k c.args.pe c.args.q c.requires.constants_fit c.requires.pe_le_most_reading c.requires.pro_bound

lost : (c : goal.Start) → c.args.k.delta * c.args.q.pl ≤ most_lost
lost c = lost-most c.args.k c.args.pe c.args.q c.requires.constants_fit c.requires.pe_le_most_reading c.requires.pro_bound

pub times-requires : goal.times-requires
times-requires c = search rules

pub times-requires-2 : goal.times-requires-2
times-requires-2 c = search rules

pub overflow_add-wanted : goal.overflow_add-wanted
overflow_add-wanted c = omega (arith, wanted c.before.before)

pub times-requires-3 : goal.times-requires-3
times-requires-3 c = search rules

pub overflow_add-wanted-2 : goal.overflow_add-wanted-2
overflow_add-wanted-2 c = omega (arith, wanted c.before.before.before)

pub times-lost-requires : goal.times-lost-requires
times-lost-requires c = search rules

pub overflow_cast-result : goal.overflow_cast-result
overflow_cast-result c = omega (arith, wanted c.before.before.before.before)

pub overflow_cast-result-2 : goal.overflow_cast-result-2
overflow_cast-result-2 c = omega (arith, lost c.before.before.before.before)

-- the machine's difference is N
difference : (w l : ℕ) → w ≤ most_n → l ≤ most_lost → to_z w64 w -ℤ to_z w64 l ≡ pos w -ℤ pos l
difference w l hw hl = ap₂ ◌-ℤ◌ (to_z_pos w64 (lt_of_le_of_lt hw (lit< tt))) (to_z_pos w64 (lt_of_le_of_lt hl (lit< tt)))

given : (c : goal.After-times-lost) → to_z w64 (c.times.result + c.times-2.result + c.times-3.result) -ℤ to_z w64 c.times-lost.result ≡ n_of c.args.k c.args.pe c.args.q
unfolding n_of
given c =
    rw (c.times.ensures, c.times-2.ensures, c.times-3.ensures, c.times-lost.ensures)
    (difference _ _ (wanted c.before.before.before.before) (lost c.before.before.before.before))

fits : (c : goal.Start) → SFits w64 (n_of c.args.k c.args.pe c.args.q)
fits c = fits-within w64 _ most_n (n-most c.args.k c.args.pe c.args.q c.requires.constants_fit c.requires.pe_le_most_reading c.requires.pro_bound) (lit< tt)

pub overflow_sub-result : goal.overflow_sub-result
overflow_sub-result c = rw (given c) (fits c.before.before.before.before)

pub returns : goal.returns
returns c = rw (given c) (to_z-of_z (fits c.before.before.before.before))
