-- The words of the theorems about a month: the spell in force and what it comes to, no spell, and what a month shows by its decision. Nothing here is
-- cited by the code. Assumes nothing.
use Rattle.std.specs.Prelude.{◌≡◌, Bool, ◌⊎◌, ℤ, pos, neg_ℤ, ◌≤ℤ◌, ◌<ℤ◌, Option, None, Some}
use Rattle.outline.specs.Numbers.{founds_from, in_force_beyond}
use Rattle.spells.specs.declared.Running.{Running}
use Rattle.spells.specs.declared.With.TheVariants.{X1, X2, X3}
use Rattle.spells.specs.declared.SpellMonth.{SpellMonth}
use Rattle.spells.specs.Spells.{provisional}
use Rattle.ending.specs.Ending.{Ending, ended, turn, ending_of}
use Rattle.spells.specs.declared.With.{With}

-- "A drought is in force if last month's X3 is below -500, a wet spell if above 500"
abbrev pub InForce : Bool → Running → Type 0
InForce wet s = turn wet s.x3 <ℤ neg_ℤ (pos in_force_beyond)

-- "Otherwise there is none"
abbrev pub NoneInForce : Running → Type 0
NoneInForce s = (neg_ℤ (pos in_force_beyond) ≤ℤ s.x3) × (s.x3 ≤ℤ pos in_force_beyond)

-- what the rules make of a spell, a drought or where `wet` a wet spell
abbrev pub ending_in : Bool → Running → ℤ → Ending
ending_in wet s z = ending_of (turn wet s.x3) (turn wet s.v) (turn wet z)

-- a spell is in force, and in a month with this Z it is steady, has ended or is abating
pub data SpellIs (e : Ending) (s : Running) (z : ℤ) : Type 0 where
  spell_is : (wet : Bool) → InForce wet s → ending_in wet s z ≡ e → SpellIs e s z

-- "No spell, or one just ended"
pub data NoSpell (s : Running) (z : ℤ) : Type 0 where
  none : NoneInForce s → NoSpell s z
  just_ended : SpellIs ended s z → NoSpell s z

-- ---- what a month shows by what it decides with

abbrev Zero : ℤ → Type 0
Zero x = x ≡ pos 0

-- a spell is founded: "X1 = X2 = 0", "the index is the new X3"
pub record Founds (m : SpellMonth) : Type 0 where
  pub founds_index : m.index ≡ m.after.x3
  pub founds_x1 : Zero m.after.x1
  pub founds_x2 : Zero m.after.x2

-- the index and the running values of a month that decides so
abbrev pub Shows : Option With → SpellMonth → Type 0
-- "decides with X3"
Shows (Some X3) m = (m.index ≡ m.after.x3) × Zero m.after.x1 × Zero m.after.x2
-- "X1 at least 1,000: ..", or "X2 = 0: decides with X1"
Shows (Some X1) m =
    (Founds m × pos founds_from ≤ℤ m.after.x3)
    ⊎ ((m.index ≡ m.after.x1) × Zero m.after.x3 × (Zero m.after.x1 → ⊥) × Zero m.after.x2)
-- "X2 at most -1,000: ..", or "X1 = 0: decides with X2"
Shows (Some X2) m =
    (Founds m × m.after.x3 ≤ℤ neg_ℤ (pos founds_from))
    ⊎ ((m.index ≡ m.after.x2) × Zero m.after.x3 × Zero m.after.x1)
-- "nothing is decided": a spell abates, or neither X1 nor X2 is 0
Shows None m =
    (m.index ≡ provisional m.after)
    × ((Zero m.after.x3 → ⊥) ⊎ (Zero m.after.x3 × (Zero m.after.x1 → ⊥) × (Zero m.after.x2 → ⊥)))
