-- "Wet spell: the mirror": what changing every sign makes of the running values. Assumes nothing.
use Rattle.std.specs.Prelude.{neg_ℤ}
use Rattle.spells.specs.declared.Running.{Running}

-- X1 and X2 change places, and every sign is changed
abbrev pub mirror : Running → Running
mirror s = record { x1 = neg_ℤ s.x2; x2 = neg_ℤ s.x1; x3 = neg_ℤ s.x3; v = neg_ℤ s.v }
