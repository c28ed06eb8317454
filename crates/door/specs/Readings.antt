-- Document 01, "Readings at the door": a reading is one of four, and the answer is the nearest thousandth of an inch to the exact value of
-- the number. Document 02, E7: a number above zero whose nearest thousandth is 0 is a trace. Assumes nothing.
use Rattle.std.specs.Prelude.{ℕ, Bool, cond, ◌&&◌, ℤ, pos, negsuc, leb, eqb, Float}
use Rattle.door.specs.Exact.{within, above_zero, nearest_to}
use Rattle.door.specs.Outcome.{Outcome, MonthOutcomes, accepted, traced, refused}
use Rattle.outline.specs.Refusals.{missing, not_acceptable}
use Rattle.door.specs.declared.Reading.{Reading}
use Rattle.door.specs.declared.Reading.TheVariants.{Whole, Inches, Millimetres, Missing}
use Rattle.door.specs.declared.MonthInches.{MonthInches}

-- 100 inches: the most that a reading gives, in thousandths
abbrev pub most_reading : ℕ
most_reading = 100000

-- "whole thousandths (0 to 100,000)"
unfoldable pub whole : ℤ → Outcome
whole (pos n) = cond (leb n most_reading) (accepted n) (refused not_acceptable)
whole (negsuc n) = refused not_acceptable

-- "trace (above zero, nearest thousandth 0)": n thousandths, of a number above zero or not
abbrev pub fallen : Bool → ℕ → Outcome
fallen above n = cond (above && eqb n 0) traced (accepted n)

-- a binary32 number from 0 to `most`, of which one is per / of thousandths
unfoldable pub converted : ℕ → ℕ → ℕ → Float → Outcome
converted most per of x = cond (within most x) (fallen (above_zero x) (nearest_to per of x)) (refused not_acceptable)

-- "inches as an IEEE 754 binary32 number (0 to 100)"
abbrev pub most_inches : ℕ
most_inches = 100

unfoldable pub inches : Float → Outcome
inches x = converted most_inches 1000 1 x

-- "millimetres as binary32 (0 to 2,540)", "for millimetres that is value x 5000/127"
abbrev pub most_millimetres : ℕ
most_millimetres = 2540

unfoldable pub millimetres : Float → Outcome
millimetres x = converted most_millimetres 5000 127 x

unfoldable pub reading : Reading → Outcome
reading (Whole n) = whole n
reading (Inches x) = inches x
reading (Millimetres x) = millimetres x
reading Missing = refused missing

-- "One month's precipitation and PE may arrive together as two binary32 inches."
unfoldable pub month : MonthInches → MonthOutcomes
month q = record { p = inches q.p; pe = inches q.pe }
