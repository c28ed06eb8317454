-- "(0 if none)" (document 02, E1), in the code an option: 0 stands for none, and no other number does. Assumes nothing.
use Rattle.std.specs.Prelude.{ℕ, zero, suc, Option, Some, None}
use Rattle.std.specs.Option.{unwrap_or}

abbrev pub unless_zero : ℕ → Option ℕ
unless_zero zero = None
unless_zero (suc n) = Some (suc n)

-- the number, 0 where there is none
abbrev pub or_zero : Option ℕ → ℕ
or_zero told = unwrap_or told 0
