-- X1 and X2 of a month, before one of them may found a spell. Assumes nothing.
use Rattle.std.specs.Prelude.{ℤ}
use Rattle.exact.specs.Next.{next_of}
use Rattle.spells.specs.declared.Running.{Running}
use Rattle.spells.specs.Spells.{raised, lowered}

-- X1 and X2 of the month, "larger of 0 and next(X1)", "smaller of 0 and next(X2)", before one of them may found a spell
abbrev pub x1_of : Running → ℤ → ℤ
x1_of s z = raised (next_of s.x1 z)

abbrev pub x2_of : Running → ℤ → ℤ
x2_of s z = lowered (next_of s.x2 z)
