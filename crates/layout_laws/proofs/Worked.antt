-- Worked lines, computed from the definitions alone. The published one, as its readme prints it: "0101011895   7.03   2.96   8.36   3.53
-- 3.96   5.40   3.92   3.36   0.73   2.03   1.44   3.66    ". And fields of seven bytes, written as their bytes: what is a value, and what
-- is not. Assumes nothing.
use mathlib.Core.Path.{◌≡◌, refl}
use mathlib.Core.List.{List, [], ◌∷◌, ◌++◌, map}
use Prim.Native.Nat.{ℕ}
use lib.ListN.{take, set}
use Rattle.text.specs.Bytes.{is_digit, all_digits, all_spaces, negative, body, natural}
use Rattle.fields.specs.Field.{unpadded, plain, ahead, units, well_formed, hundredths, field_of}
use Rattle.fields.specs.Columns.{values}
use Rattle.fields.specs.Refusals.{another, not_the_year}
use Rattle.layout_months.specs.Months.{is_mark, in_range, rain_of, month_of, months_of, some, set_of, count_of, first_missing, first_bad}
use Rattle.layout_heading.specs.Heading.{headed, first_told, heading_fault}
use Rattle.layout.specs.Rainfall.{is_line, rain_fits, is_named, is_year, refusal, refused, year_said, year_of}
use Rattle.layout.specs.Fault.{months_fault, fault_of}
use Rattle.layout_months.specs.declared.Month.TheVariants.{Amount, Missing, Outside, Malformed}

abbrev pub published : List ℕ
published = 48 ∷ 49 ∷ 48 ∷ 49 ∷ 48 ∷ 49 ∷ 49 ∷ 56 ∷ 57 ∷ 53 ∷ 32 ∷ 32 ∷ 32 ∷ 55 ∷ 46 ∷ 48 ∷ 51 ∷ 32 ∷ 32 ∷ 32 ∷ 50 ∷ 46 ∷ 57 ∷ 54 ∷ 32 ∷ 32 ∷ 32 ∷ 56 ∷ 46 ∷ 51 ∷ 54 ∷ 32 ∷ 32 ∷ 32 ∷ 51 ∷ 46 ∷ 53 ∷ 51 ∷ 32 ∷ 32 ∷ 32 ∷ 51 ∷ 46 ∷ 57 ∷ 54 ∷ 32 ∷ 32 ∷ 32 ∷ 53 ∷ 46 ∷ 52 ∷ 48 ∷ 32 ∷ 32 ∷ 32 ∷ 51 ∷ 46 ∷ 57 ∷ 50 ∷ 32 ∷ 32 ∷ 32 ∷ 51 ∷ 46 ∷ 51 ∷ 54 ∷ 32 ∷ 32 ∷ 32 ∷ 48 ∷ 46 ∷ 55 ∷ 51 ∷ 32 ∷ 32 ∷ 32 ∷ 50 ∷ 46 ∷ 48 ∷ 51 ∷ 32 ∷ 32 ∷ 32 ∷ 49 ∷ 46 ∷ 52 ∷ 52 ∷ 32 ∷ 32 ∷ 32 ∷ 51 ∷ 46 ∷ 54 ∷ 54 ∷ 32 ∷ 32 ∷ 32 ∷ 32 ∷ []

-- for state 1, division 1, 1895
pub whole-year : year_said published 1 1 1895 ≡ record { number = 0; amounts = 7030 ∷ 2960 ∷ 8360 ∷ 3530 ∷ 3960 ∷ 5400 ∷ 3920 ∷ 3360 ∷ 730 ∷ 2030 ∷ 1440 ∷ 3660 ∷ []; present = 4095; count = 12; first_missing = 0 }
unfolding is_digit all_digits all_spaces negative body natural values unpadded plain ahead units well_formed hundredths field_of is_mark in_range rain_of month_of months_of some set_of count_of first_missing headed is_line rain_fits is_named is_year refusal year_said year_of
whole-year = refl

-- January missing, September with no zero before its point, 100 inches in December
pub gap-year : year_said (48 ∷ 49 ∷ 48 ∷ 49 ∷ 48 ∷ 49 ∷ 49 ∷ 56 ∷ 57 ∷ 53 ∷ 32 ∷ 32 ∷ 45 ∷ 57 ∷ 46 ∷ 57 ∷ 57 ∷ 32 ∷ 32 ∷ 32 ∷ 50 ∷ 46 ∷ 57 ∷ 54 ∷ 32 ∷ 32 ∷ 32 ∷ 56 ∷ 46 ∷ 51 ∷ 54 ∷ 32 ∷ 32 ∷ 32 ∷ 51 ∷ 46 ∷ 53 ∷ 51 ∷ 32 ∷ 32 ∷ 32 ∷ 51 ∷ 46 ∷ 57 ∷ 54 ∷ 32 ∷ 32 ∷ 32 ∷ 53 ∷ 46 ∷ 52 ∷ 48 ∷ 32 ∷ 32 ∷ 32 ∷ 51 ∷ 46 ∷ 57 ∷ 50 ∷ 32 ∷ 32 ∷ 32 ∷ 51 ∷ 46 ∷ 51 ∷ 54 ∷ 32 ∷ 32 ∷ 32 ∷ 32 ∷ 46 ∷ 55 ∷ 51 ∷ 32 ∷ 32 ∷ 32 ∷ 50 ∷ 46 ∷ 48 ∷ 51 ∷ 32 ∷ 32 ∷ 32 ∷ 49 ∷ 46 ∷ 52 ∷ 52 ∷ 32 ∷ 49 ∷ 48 ∷ 48 ∷ 46 ∷ 48 ∷ 48 ∷ 32 ∷ 32 ∷ 32 ∷ 32 ∷ []) 1 1 1895 ≡ record { number = 0; amounts = 0 ∷ 2960 ∷ 8360 ∷ 3530 ∷ 3960 ∷ 5400 ∷ 3920 ∷ 3360 ∷ 730 ∷ 2030 ∷ 1440 ∷ 100000 ∷ []; present = 4094; count = 11; first_missing = 1 }
unfolding is_digit all_digits all_spaces negative body natural values unpadded plain ahead units well_formed hundredths field_of is_mark in_range rain_of month_of months_of some set_of count_of first_missing headed is_line rain_fits is_named is_year refusal year_said year_of
gap-year = refl

-- another division, another year, and the year that it says
pub others : (year_said published 1 2 1895 ≡ refused another) × (year_said published 1 1 1896 ≡ refused not_the_year) × (year_of published ≡ 1895)
unfolding is_digit all_digits all_spaces negative body natural values unpadded plain ahead units well_formed hundredths field_of is_mark in_range rain_of month_of months_of some set_of count_of first_missing headed is_line rain_fits is_named is_year refusal year_said year_of
others = (refl, refl, refl)

-- "   7.03", "    .73", "   -.00", "  -0.00", " 100.00", "  -9.99", " 100.01", "  -9.98", "   -.05", "-999.99"
pub numbers : map month_of ((32 ∷ 32 ∷ 32 ∷ 55 ∷ 46 ∷ 48 ∷ 51 ∷ []) ∷ (32 ∷ 32 ∷ 32 ∷ 32 ∷ 46 ∷ 55 ∷ 51 ∷ []) ∷ (32 ∷ 32 ∷ 32 ∷ 45 ∷ 46 ∷ 48 ∷ 48 ∷ []) ∷ (32 ∷ 32 ∷ 45 ∷ 48 ∷ 46 ∷ 48 ∷ 48 ∷ []) ∷ (32 ∷ 49 ∷ 48 ∷ 48 ∷ 46 ∷ 48 ∷ 48 ∷ []) ∷ (32 ∷ 32 ∷ 45 ∷ 57 ∷ 46 ∷ 57 ∷ 57 ∷ []) ∷ (32 ∷ 49 ∷ 48 ∷ 48 ∷ 46 ∷ 48 ∷ 49 ∷ []) ∷ (32 ∷ 32 ∷ 45 ∷ 57 ∷ 46 ∷ 57 ∷ 56 ∷ []) ∷ (32 ∷ 32 ∷ 32 ∷ 45 ∷ 46 ∷ 48 ∷ 53 ∷ []) ∷ (45 ∷ 57 ∷ 57 ∷ 57 ∷ 46 ∷ 57 ∷ 57 ∷ []) ∷ []) ≡ (Amount 7030 ∷ Amount 730 ∷ Amount 0 ∷ Amount 0 ∷ Amount 100000 ∷ Missing ∷ Outside ∷ Outside ∷ Outside ∷ Outside ∷ [])
unfolding is_digit all_digits all_spaces negative body natural values unpadded plain ahead units well_formed hundredths field_of is_mark in_range rain_of month_of months_of some set_of count_of first_missing headed is_line rain_fits is_named is_year refusal year_said year_of
numbers = refl

-- "  07.03", "  +7.03", "  7.03 ", "   7,03", "   703 ", "  7..03", "  --.05", " - 9.99", "   7.-3", "*******", "       ", and three tabs before "7.03"
pub no-numbers : map month_of ((32 ∷ 32 ∷ 48 ∷ 55 ∷ 46 ∷ 48 ∷ 51 ∷ []) ∷ (32 ∷ 32 ∷ 43 ∷ 55 ∷ 46 ∷ 48 ∷ 51 ∷ []) ∷ (32 ∷ 32 ∷ 55 ∷ 46 ∷ 48 ∷ 51 ∷ 32 ∷ []) ∷ (32 ∷ 32 ∷ 32 ∷ 55 ∷ 44 ∷ 48 ∷ 51 ∷ []) ∷ (32 ∷ 32 ∷ 32 ∷ 55 ∷ 48 ∷ 51 ∷ 32 ∷ []) ∷ (32 ∷ 32 ∷ 55 ∷ 46 ∷ 46 ∷ 48 ∷ 51 ∷ []) ∷ (32 ∷ 32 ∷ 45 ∷ 45 ∷ 46 ∷ 48 ∷ 53 ∷ []) ∷ (32 ∷ 45 ∷ 32 ∷ 57 ∷ 46 ∷ 57 ∷ 57 ∷ []) ∷ (32 ∷ 32 ∷ 32 ∷ 55 ∷ 46 ∷ 45 ∷ 51 ∷ []) ∷ (42 ∷ 42 ∷ 42 ∷ 42 ∷ 42 ∷ 42 ∷ 42 ∷ []) ∷ (32 ∷ 32 ∷ 32 ∷ 32 ∷ 32 ∷ 32 ∷ 32 ∷ []) ∷ (9 ∷ 9 ∷ 9 ∷ 55 ∷ 46 ∷ 48 ∷ 51 ∷ []) ∷ []) ≡ (Malformed ∷ Malformed ∷ Malformed ∷ Malformed ∷ Malformed ∷ Malformed ∷ Malformed ∷ Malformed ∷ Malformed ∷ Malformed ∷ Malformed ∷ Malformed ∷ [])
unfolding is_digit all_digits all_spaces negative body natural values unpadded plain ahead units well_formed hundredths field_of is_mark in_range rain_of month_of months_of some set_of count_of first_missing headed is_line rain_fits is_named is_year refusal year_said year_of
no-numbers = refl

-- ---- worked faults
-- as it is; its first 93 bytes; a letter in its division; ',' for the point of February; a tab after it
pub worked-faults : (fault_of published ≡ 0) × (fault_of (take 93 published) ≡ 94) × (fault_of (set published 3 65) ≡ 3) × (fault_of (set published 21 44) ≡ 18) × (fault_of (published ++ 9 ∷ []) ≡ 95)
unfolding is_digit all_digits all_spaces negative body natural values unpadded plain ahead units well_formed hundredths field_of is_mark in_range rain_of month_of months_of first_bad first_told heading_fault months_fault fault_of
worked-faults = (refl, refl, refl, refl, refl)

-- -7.03 in January: of a precipitation line, with ',' in February too, and of a line of element 02
pub worked-outside : (fault_of (set published 12 45) ≡ 11) × (fault_of (set (set published 12 45) 21 44) ≡ 11) × (fault_of (set (set published 12 45) 5 50) ≡ 0)
unfolding is_digit all_digits all_spaces negative body natural values unpadded plain ahead units well_formed hundredths field_of is_mark in_range rain_of month_of months_of first_bad first_told heading_fault months_fault fault_of
worked-outside = (refl, refl, refl)
