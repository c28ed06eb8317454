-- A reading's kind is none, trace or measured: no number above 2. Assumes nothing.
use mathlib.Core.Bool.{Bool, true, false, cond, ◌&&◌}
use Prim.Native.Nat.{ℕ, zero, suc, ◌≤◌}
use native.Mathlib.Omega.{arith}
use lib.Dec.{leb, eqb}
use lib.IntN.{ℤ, pos, negsuc}
use lib.Ieee.{Float}
use Rattle.outline.specs.Refusals.{not_acceptable}
use Rattle.door.specs.Exact.{within, above_zero, nearest_to}
use Rattle.door.specs.Outcome.{Outcome, measured, kind_of_water, accepted, traced, refused}
use Rattle.door.specs.Readings.{most_reading, fallen, whole, converted, inches, millimetres, reading}
use Rattle.door.specs.declared.Reading.{Reading}
use Rattle.door.specs.declared.Reading.TheVariants.{Whole, Inches, Millimetres, Missing}

water-kind : (n : ℕ) → kind_of_water n ≤ measured
water-kind zero = omega arith
water-kind (suc n) = omega arith

either : (t : Bool) (a b : Outcome) → a.kind ≤ measured → b.kind ≤ measured → (cond t a b).kind ≤ measured
either true a b p q = p
either false a b p q = q

whole-kind : (n : ℤ) → (whole n).kind ≤ measured
unfolding whole
whole-kind (pos n) = either (leb n most_reading) (accepted n) (refused not_acceptable) (water-kind n) (omega arith)
whole-kind (negsuc n) = omega arith

converted-kind : (most per of : ℕ) (x : Float) → (converted most per of x).kind ≤ measured
unfolding converted
converted-kind most per of x =
    let n = nearest_to per of x in
    either (within most x) (fallen (above_zero x) n) (refused not_acceptable) (either (above_zero x && eqb n 0) traced (accepted n) (omega arith) (water-kind n)) (omega arith)

pub inches-kind : (x : Float) → (inches x).kind ≤ measured
unfolding inches
inches-kind x = converted-kind 100 1000 1 x

pub kind-most : (r : Reading) → (reading r).kind ≤ measured
unfolding reading millimetres
kind-most (Whole n) = whole-kind n
kind-most (Inches x) = inches-kind x
kind-most (Millimetres x) = converted-kind 2540 5000 127 x
kind-most Missing = omega arith
