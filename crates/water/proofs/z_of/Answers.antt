-- `water::z_of` meets its contract. Each value on the way fits an `i64`, since K, P and N are bounded, and Z fits an `i32`.
-- Assumes nothing.
use mathlib.Core.Path.{◌≡◌, ◌∙◌}
use Prim.Native.Nat.{ℕ, ◌*◌, ◌≤◌}
use native.Mathlib.Nat.{mul-le-mul}
use native.Mathlib.Omega.{arith}
use lib.Dec.{lit<, lit≤}
use lib.IntN.{ℤ, pos, nat_abs, ◌-ℤ◌, ◌*ℤ◌}
use mir.Syntax.{w64}
use mir.Val.{SFits}
use Rattle.exact.specs.Bounds.{most_rounded}
use Rattle.exact.proofs.Z.{fits-within}
use Rattle.exact.proofs.Held.{held}
use Rattle.door.specs.Readings.{most_reading}
use Rattle.water.specs.Constants.{most_k}
use Rattle.water.specs.Expected.{z_of}
use Rattle.water.specs.Bounds.{most_n}
use Rattle.water.proofs.Sizes.{short-by-size, weighed, z-most}
use Rattle.water.proofs.z_of.Goals as goal

-- a factor of at most 10,000
scaled : (a p : ℕ) → a ≤ 10000 → p ≤ most_reading → a * p ≤ 1000000000
scaled a p h g = omega (arith, mul-le-mul h g)

fit-p : (a p : ℕ) → a ≤ 10000 → p ≤ most_reading → SFits w64 (pos (a * p))
fit-p a p h g = omega (arith, scaled a p h g)

fit-short : (a p : ℕ) (n : ℤ) → a ≤ 10000 → p ≤ most_reading → nat_abs n ≤ most_n → SFits w64 (pos (a * p) -ℤ n)
fit-short a p n h g f = fits-within w64 _ 3500000000 (short-by-size (a * p) n (scaled a p h g) f) (lit< tt)

room : (k a p : ℕ) (n : ℤ) → k ≤ most_k → a ≤ 10000 → p ≤ most_reading → nat_abs n ≤ most_n → nat_abs (pos k *ℤ (pos (a * p) -ℤ n)) ≤ most_rounded
room k a p n e h g f = omega (arith, weighed k (pos (a * p) -ℤ n) 3500000000 e (short-by-size (a * p) n (scaled a p h g) f))

fit-weighed : (k a p : ℕ) (n : ℤ) → k ≤ most_k → a ≤ 10000 → p ≤ most_reading → nat_abs n ≤ most_n → SFits w64 (pos k *ℤ (pos (a * p) -ℤ n))
fit-weighed k a p n e h g f = fits-within w64 _ most_rounded (room k a p n e h g f) (lit< tt)

ruleset fits = (fit-p, fit-short, room, fit-weighed, held)

pub overflow_cast-short : goal.overflow_cast-short
overflow_cast-short c = search held

pub overflow_mul-short : goal.overflow_mul-short
overflow_mul-short c = search fits

pub overflow_sub-short : goal.overflow_sub-short
overflow_sub-short c = search fits

pub overflow_cast-k : goal.overflow_cast-k
overflow_cast-k c = search held

pub overflow_mul-k : goal.overflow_mul-k
overflow_mul-k c = search fits

pub nearest_signed-requires : goal.nearest_signed-requires
nearest_signed-requires c = search fits

-- what the call gives: the machine's number is the number
given : (c : goal.After-nearest_signed) → c.nearest_signed.result ≡ z_of c.args.k c.args.p c.args.n
unfolding z_of
given c = c.nearest_signed.ensures ∙ (search fits)

within : (c : goal.After-nearest_signed) → nat_abs c.nearest_signed.result ≤ 3500000
within c =
    let a = c.args in
    let h = c.requires in
    rw (given c) (z-most a.k a.p a.n 3500000 h.0 (short-by-size (10000 * a.p) a.n (scaled 10000 a.p (lit≤ tt) h.1) h.2))

pub overflow_cast-result : goal.overflow_cast-result
overflow_cast-result c = let k = within c in search held

pub returns : goal.returns
returns c = let e = given c in let k = within c in search held
