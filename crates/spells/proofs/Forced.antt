-- A month with a spell in force, case by case, and a month with none: from what the calls of `step` tell, which is of
-- the numbers as the machine reads them back. Assumes nothing.
use mathlib.Core.Path.{◌≡◌, sym, ap₂, ◌∙◌}
use mathlib.Core.Bool.{Bool, true, false, ◌||◌}
use Prim.Native.Nat.{ℕ}
use lib.IntN.{ℤ, pos, negsuc, ◌*ℤ◌}
use lib.Signed.{le_z, lt_z}
use mir.Syntax.{w32, w64}
use mir.Val.{SFits, to_z, of_z}
use mir.Facts.{to_z-of_z}
use Rattle.ending.specs.Ending.{turn, u_of, v_of, e_of, q_of, steady, ended, abating, percent_of}
use Rattle.spells.specs.Spells.{steady_month, abating_month, no_spell, ending_month, step_of}
use Rattle.spells.specs.declared.Running.{Running}
use Rattle.spells.proofs.Choices.{is_wet, ending-steady, ending-ended, ending-abating, step-ending, step-unforced}

-- a number as the machine reads it back
abbrev read32 : ℤ → ℤ
read32 n = to_z w32 (of_z w32 n)

abbrev read64 : ℤ → ℤ
read64 n = to_z w64 (of_z w64 n)

-- the percent of an abating month
abbrev pub percent_for : Running → ℤ → ℕ
percent_for s z = percent_of (v_of (turn (is_wet s) s.v) (turn (is_wet s) z)) (q_of (turn (is_wet s) s.x3) (turn (is_wet s) s.v))

module _ (s : Running) (z : ℤ) (wet dry : Bool) (fx : SFits w32 s.x3) (fv : SFits w64 s.v) (fz : SFits w32 z) (is_w : wet ≡ lt_z (pos 500) (read32 s.x3)) (is_d : dry ≡ lt_z (read32 s.x3) (negsuc 499)) where
  -- whether a wet spell is in force, and whether a drought is
  wet-is : wet ≡ is_wet s
  wet-is = simp to_z-of_z at is_w

  dry-is : dry ≡ lt_z s.x3 (negsuc 499)
  dry-is = simp to_z-of_z at is_d

  either_is : (is_wet s || lt_z s.x3 (negsuc 499)) ≡ (wet || dry)
  either_is = ap₂ ◌||◌ (sym wet-is) (sym dry-is)

  -- what the two tests answer
  steady-is : (t : Bool) → t ≡ le_z (v_of (turn wet (read64 s.v)) (turn wet (read32 z))) (pos 0) → t ≡ le_z (v_of (turn (is_wet s) s.v) (turn (is_wet s) z)) (pos 0)
  steady-is t e = rw wet-is at (simp to_z-of_z at e)

  ended_is : (u : Bool) → u ≡ le_z (e_of (turn wet (read32 s.x3))) (pos 1000 *ℤ u_of (turn wet (read32 z))) → u ≡ le_z (e_of (turn (is_wet s) s.x3)) (pos 1000 *ℤ u_of (turn (is_wet s) z))
  ended_is u e = rw wet-is at (simp to_z-of_z at e)

  -- V and the percent, as the abating month has them
  pub v-is : (v : ℤ) → v ≡ turn wet (v_of (turn wet (read64 s.v)) (turn wet (read32 z))) → v ≡ turn (is_wet s) (v_of (turn (is_wet s) s.v) (turn (is_wet s) z))
  v-is v e = rw wet-is at (simp to_z-of_z at e)

  pub percent-is : (p : ℕ)
      → p ≡ percent_of (v_of (turn wet (read64 s.v)) (turn wet (read32 z))) (q_of (turn wet (read32 s.x3)) (turn wet (read64 s.v)))
      → p ≡ percent_for s z
  percent-is p e = rw wet-is at (simp to_z-of_z at e)

  -- the spell is steady
  pub is-steady : (wet || dry) ≡ true → (t : Bool) → t ≡ le_z (v_of (turn wet (read64 s.v)) (turn wet (read32 z))) (pos 0) → t ≡ true → step_of s z ≡ steady_month s.x3 z
  unfolding ending_month
  is-steady h t e k = step-ending s z steady (either_is ∙ h) (ending-steady _ _ _ (sym (steady-is t e) ∙ k))

  module _ (h : (wet || dry) ≡ true) (t u : Bool) (et : t ≡ le_z (v_of (turn wet (read64 s.v)) (turn wet (read32 z))) (pos 0)) (k : t ≡ false) (eu : u ≡ le_z (e_of (turn wet (read32 s.x3))) (pos 1000 *ℤ u_of (turn wet (read32 z)))) where
    -- it has just ended
    pub is-ended : u ≡ true → step_of s z ≡ no_spell s z 100
    unfolding ending_month
    is-ended j = step-ending s z ended (either_is ∙ h) (ending-ended _ _ _ (sym (steady-is t et) ∙ k) (sym (ended_is u eu) ∙ j))

    -- it abates
    pub is-abating : u ≡ false
        → step_of s z
        ≡ abating_month s (turn (is_wet s) (v_of (turn (is_wet s) s.v) (turn (is_wet s) z))) z
        (percent_for s z)
    unfolding ending_month
    is-abating j = step-ending s z abating (either_is ∙ h) (ending-abating _ _ _ (sym (steady-is t et) ∙ k) (sym (ended_is u eu) ∙ j))

  -- no spell is in force
  pub is-unforced : (wet || dry) ≡ false → step_of s z ≡ no_spell s z 0
  is-unforced h = step-unforced s z (either_is ∙ h)
