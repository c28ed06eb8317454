-- A reading as C hands it in. Document 01: "A reading is one of four". C's struct carries a kind and both
-- numbers; its kind says which of the four it is, and a kind of no such number is not acceptable. Assumes nothing.
use Rattle.std.specs.Prelude.{ℕ, cond, negsuc, eqb}
use Rattle.door.specs.declared.Reading.{Reading}
use Rattle.door.specs.declared.Reading.TheVariants.{Whole, Inches, Millimetres, Missing}
use Rattle.kinds.specs.declared.CReading.{CReading}

-- the kinds, as include/card.h numbers them
abbrev pub missing_kind : ℕ
missing_kind = 0

abbrev pub whole_kind : ℕ
whole_kind = 1

abbrev pub inches_kind : ℕ
inches_kind = 2

abbrev pub millimetres_kind : ℕ
millimetres_kind = 3

-- a whole number below 0, which no reading is
abbrev pub no_kind : Reading
no_kind = Whole (negsuc 0)

unfoldable pub reading_of_c : CReading → Reading
reading_of_c g =
    cond (eqb g.kind missing_kind) Missing
    (cond (eqb g.kind whole_kind) (Whole g.whole)
    (cond (eqb g.kind inches_kind) (Inches g.measure)
    (cond (eqb g.kind millimetres_kind) (Millimetres g.measure) no_kind)))
