-- A reading whose kind is none of the four is not acceptable, whatever its numbers: it is answered 9. Assumes nothing.
use mathlib.Core.Path.{◌≡◌}
use Prim.Native.Nat.{◌<◌}
use native.Mathlib.Omega.{arith}
use borrow.Author.Tests.{ne_eqb}
use Rattle.door.specs.Outcome.{refused}
use Rattle.outline.specs.Refusals.{not_acceptable}
use Rattle.door.specs.Readings.{reading, whole}
use Rattle.kinds.specs.FromC.{reading_of_c, missing_kind, whole_kind, inches_kind, millimetres_kind}
use Rattle.kinds.specs.declared.CReading.{CReading}

pub no_kind : (g : CReading) → 3 < g.kind → reading (reading_of_c g) ≡ refused not_acceptable
unfolding reading_of_c reading whole
no_kind g h =
    simp (ne_eqb g.kind missing_kind (λ e. omega arith), ne_eqb g.kind whole_kind (λ e. omega arith), ne_eqb g.kind inches_kind (λ e. omega arith), ne_eqb g.kind millimetres_kind (λ e. omega arith))
