-- What holds of the running values that a fresh run comes to, and not of all that "not a run" lets through: neither X1 nor X2 has gone past
-- what the month before would have founded a spell with, or a spell's own X3. Assumes nothing.
use Rattle.std.specs.Prelude.{true, false, pos, neg_ℤ, ◌≤ℤ◌, ◌<ℤ◌}
use Rattle.outline.specs.Numbers.{founds_from}
use Rattle.spells.specs.declared.Running.{Running}
use Rattle.spell_laws.specs.Cases.{InForce, NoneInForce}

pub record Reached (s : Running) : Type 0 where
  pub x1_sign : pos 0 ≤ℤ s.x1
  pub x2_sign : s.x2 ≤ℤ pos 0
  -- with no spell in force, neither is as far as one that founds
  pub none_x1 : NoneInForce s → s.x1 <ℤ pos founds_from
  pub none_x2 : NoneInForce s → neg_ℤ (pos founds_from) <ℤ s.x2
  -- in a drought X2 is not below X3, in a wet spell X1 not above it
  pub dry_x2 : InForce false s → s.x3 ≤ℤ s.x2
  pub wet_x1 : InForce true s → s.x1 ≤ℤ s.x3
