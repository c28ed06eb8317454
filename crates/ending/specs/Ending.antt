-- Document 01, "One month of spells", what becomes of a spell in force: U, V, E, Q, the three endings and the percent. A wet spell is the
-- drought's mirror: `turn` changes the signs of what its rules look at, and nothing is said twice. Assumes nothing.
use Rattle.std.specs.Prelude.{ℕ, min, max, Bool, true, false, cond, ℤ, pos, neg_ℤ, ◌+ℤ◌, ◌-ℤ◌, ◌*ℤ◌}
use Rattle.std.specs.Int.Signed.{le_z}
use Rattle.exact.specs.Nearest.{nearest, clip}
use Rattle.outline.specs.Numbers.{weight, weight_of_z, u_offset, e_offset}

-- "Wet spell: the mirror." Its numbers with the sign turned, a drought's as they are
unfoldable pub turn : Bool → ℤ → ℤ
turn false n = n
turn true n = neg_ℤ n

-- "Drought: U = Z + 150,
unfoldable pub u_of : ℤ → ℤ
u_of z = z +ℤ pos u_offset

-- V = U + previous V,
unfoldable pub v_of : ℤ → ℤ → ℤ
v_of v z = u_of z +ℤ v

-- E = -2691 X3 - 1,500,000,
unfoldable pub e_of : ℤ → ℤ
e_of x3 = neg_ℤ (pos weight *ℤ x3) -ℤ pos e_offset

-- Q = E + 1000 x previous V."
unfoldable pub q_of : ℤ → ℤ → ℤ
q_of x3 v = e_of x3 +ℤ pos weight_of_z *ℤ v

-- what becomes of a spell in force
pub data Ending : Type 0 where
  steady : Ending
  ended : Ending
  abating : Ending

-- "V at most 0: steady." "V above 0 and 1000 U at least E: ended." "Otherwise abating"
unfoldable pub ending_of : ℤ → ℤ → ℤ → Ending
ending_of x3 v z = cond (le_z (v_of v z) (pos 0)) steady (cond (le_z (e_of x3) (pos weight_of_z *ℤ u_of z)) ended abating)

-- "Percent is nearest to 100,000 V / Q, held within 1 to 99."
unfoldable pub percent_of : ℤ → ℤ → ℕ
percent_of v q = min 99 (max 1 (clip (nearest (pos 100000 *ℤ v) (clip q))))
