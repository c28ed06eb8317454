-- A proof's vocabulary, which a `requires` cites: the numbers of an abating month and their room, as facts. Assumes nothing.
use Rattle.std.specs.Prelude.{Bool, ℕ, ◌+◌, ◌*◌, ◌≤◌, ◌<◌, ℤ, pos, nat_abs, ◌-ℤ◌, ◌*ℤ◌, ◌≤ℤ◌, ◌<ℤ◌}
use Rattle.outline.specs.Numbers.{most_x, most_z, weight_of_z}
use Rattle.ending.specs.Bounds.{most_v}
use Rattle.ending.specs.Ending.{turn, u_of, e_of}

-- what a spell in force lacks of its ending: E - 1000 U, which is Q - 1000 V with the new V
abbrev pub lacking_of : Bool → ℤ → ℤ → ℤ
lacking_of wet x3 z = e_of (turn wet x3) -ℤ pos weight_of_z *ℤ u_of (turn wet z)

-- X3 before the month, its Z, and what it leaves: V, X3 as a, and b, the side that the index leans to. In the drought's sense V is above 0, a is not, and b is
-- not below; and 1000 U is below E
pub record Leans (wet : Bool) (x3 z v a b : ℤ) : Type 0 where
  pub x3_size : nat_abs x3 ≤ most_x
  pub z_size : nat_abs z ≤ most_z
  pub v_size : nat_abs v ≤ 2 * most_v
  pub a_size : nat_abs a ≤ most_x
  pub b_size : nat_abs b ≤ most_x
  pub v_sign : pos 0 <ℤ turn wet v
  pub a_sign : turn wet a ≤ℤ pos 0
  pub b_sign : pos 0 ≤ℤ turn wet b
  pub lacks : (pos weight_of_z *ℤ u_of (turn wet z)) <ℤ e_of (turn wet x3)

-- what two weights, w of what stands high and d of what lies low, may be
abbrev pub most_d : ℕ
most_d = 50000000000

abbrev pub most_w : ℕ
most_w = 10000000000000000

pub record Weighed (high low w d : ℕ) : Type 0 where
  pub high_fits : high ≤ most_x
  pub low_fits : low ≤ most_x
  pub some : 0 < w + d
  pub d_fits : d ≤ most_d
  pub w_fits : w ≤ most_w
