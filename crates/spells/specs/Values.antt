-- Document 01, "One month of spells": the running values of a fresh run. Assumes nothing.
use Rattle.std.specs.Prelude.{pos}
use Rattle.spells.specs.declared.Running.{Running}

-- "A fresh run has X1 = X2 = X3 = V = 0."
abbrev pub fresh : Running
fresh = record { x1 = pos 0; x2 = pos 0; x3 = pos 0; v = pos 0 }
