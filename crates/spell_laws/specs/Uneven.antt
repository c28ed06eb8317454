-- "Wet spell: the mirror": what changing every sign makes of a month, and the three places where the rules themselves are not even-handed. The law
-- is in proofs/Mirror.antt. Assumes nothing.
use Rattle.std.specs.Prelude.{◌≡◌, ℤ, pos, neg_ℤ, nat_abs, ◌≤ℤ◌, ◌<ℤ◌, Option, None, Some}
use Rattle.outline.specs.Numbers.{founds_from}
use Rattle.spells.specs.declared.Running.{Running}
use Rattle.spells.specs.declared.With.{With}
use Rattle.spells.specs.declared.With.TheVariants.{X1, X2, X3}
use Rattle.spells.specs.declared.SpellMonth.{SpellMonth}
use Rattle.spell_laws.specs.Months.{x1_of, x2_of}
use Rattle.spell_laws.specs.Cases.{NoSpell}
use Rattle.spell_laws.specs.Mirror.{mirror}

-- X1 and X2 change places
abbrev pub mirror_with : With → With
mirror_with X1 = X2
mirror_with X2 = X1
mirror_with X3 = X3

abbrev pub mirror_decision : Option With → Option With
mirror_decision None = None
mirror_decision (Some w) = Some (mirror_with w)

-- the percent is kept
abbrev pub mirror_month : SpellMonth → SpellMonth
mirror_month m =
    record { after = mirror m.after; percent = m.percent; decision = mirror_decision m.decision; index = neg_ℤ m.index }

-- (a) "X1 at least 1,000: .. Else X2 at most -1,000": both could found a spell, and X1 is tried first
pub record BothFound (s : Running) (z : ℤ) : Type 0 where
  pub found_none : NoSpell s z
  pub found_x1 : pos founds_from ≤ℤ x1_of s z
  pub found_x2 : x2_of s z ≤ℤ neg_ℤ (pos founds_from)

-- (b) "Else X1 = 0: decides with X2": both are 0
pub record BothZero (s : Running) (z : ℤ) : Type 0 where
  pub zero_none : NoSpell s z
  pub zero_x1 : x1_of s z ≡ pos 0
  pub zero_x2 : x2_of s z ≡ pos 0

-- (c) "the larger in size of X1 and X2, X2 on a tie": nothing is decided, and they are of one size
pub record Tied (s : Running) (z : ℤ) : Type 0 where
  pub tied_none : NoSpell s z
  pub tied_some : x1_of s z ≡ pos 0 → ⊥
  pub tied_low : x1_of s z <ℤ pos founds_from
  pub tied_size : nat_abs (x1_of s z) ≡ nat_abs (x2_of s z)

-- so it is seen in the month's values: with no X3, X1 and X2 are of one size, and not 0
pub record TiedValues (s : Running) : Type 0 where
  pub values_x3 : s.x3 ≡ pos 0
  pub values_size : nat_abs s.x1 ≡ nat_abs s.x2
  pub values_some : s.x1 ≡ pos 0 → ⊥
