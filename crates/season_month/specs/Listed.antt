-- Document 02, E2, "A season in one call": a month of one of its two lists, as a reading. Assumes nothing.
use Rattle.std.specs.Prelude.{zero, suc, ℤ, pos, negsuc}
use Rattle.door.specs.declared.Reading.{Reading}
use Rattle.door.specs.declared.Reading.TheVariants.{Whole, Missing}

-- "two lists in whole thousandths, precipitation and PE, with -1 for missing"
unfoldable pub listed : ℤ → Reading
listed (pos n) = Whole (pos n)
listed (negsuc zero) = Missing
listed (negsuc (suc n)) = Whole (negsuc (suc n))
