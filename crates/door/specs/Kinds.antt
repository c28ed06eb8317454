-- A kind in the code's own enum as its number (Outcome). Assumes nothing.
use Rattle.std.specs.Prelude.{ℕ}
use Rattle.door.specs.Outcome.{none, trace, measured}
use Rattle.door.specs.declared.Kind.{Kind}
use Rattle.door.specs.declared.Kind.TheVariants.{Nothing, Trace, Measured}

abbrev pub kind_number : Kind → ℕ
kind_number Nothing = none
kind_number Trace = trace
kind_number Measured = measured
