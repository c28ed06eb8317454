-- The side that a month gives, with the one that is held before it. Assumes nothing.
use mathlib.Core.Path.{◌≡◌, refl}
use mathlib.Core.Bool.{Bool, true, false}
use Rattle.std.specs.Option.{unwrap_or}
use Rattle.hindsight.specs.declared.Side.{Side}
use Rattle.hindsight.specs.Rule.{one_of}
use Rattle.hindsight.specs.Coded.{told}

pub told-side : (a b : Bool) (s : Side) → unwrap_or (told a b) s ≡ one_of a b s
told-side true true s = refl
told-side true false s = refl
told-side false true s = refl
told-side false false s = refl
