-- Document 01, "Worked months": the marked cases W1 to W4 and S1 to S6 as ONE table, with document 02's thin soils (E5) beside W1 to W4, starts at
-- and beside the ends of every range and with a K of 0 (E11), where a month's constants stand among the sixty, the outline's other numbers, and
-- whole answers of months of water; and the modified index of S1 to S6 and at its ends (E4). The water's, the calendar's, the starts' and the single months' rows stand with their crates, the numbers
-- in Pinned.antt and the answers in Answered.antt beside this file; here they are joined by what S5 and S6 say of settling. That every row agrees is the one claim
-- `worked` of proofs/WorkedMonths.antt. Assumes nothing.
use Rattle.std.specs.Prelude.{ℕ, List, [], ◌∷◌, ◌++◌, ℤ, pos, get_or}
use Rattle.exact.specs.Worked.{◌gives◌, minus, Row as Line}
use Rattle.water.specs.Worked.{water_table, thin_table}
use Rattle.calendar.specs.Worked.{place_table}
use Rattle.starts.specs.Worked.{soil_table, k_table, range_table}
use Rattle.spell_laws.specs.Worked.{spell_table}
use Rattle.modified.specs.Worked.{modified_table}
use Rattle.hindsight.specs.Rule.{Row, forward}
use Rattle.hindsight.specs.Columns.{rows_of}
use Rattle.hindsight.specs.Adding.{add_all}
use Rattle.hindsight.specs.Months.{next_values, row_of_z}
use Rattle.demands.specs.Pinned.{numbers_table}
use Rattle.demands.specs.Answered.{answer_table}

-- "S4: X3 -4,070, others 0; Z 3,590, -1,460, -1,600", and then one month more
unfoldable pub months : ℤ → List Row
months z =
    rows_of next_values row_of_z (record { x1 = pos 0; x2 = pos 0; x3 = minus 4070; v = pos 0 })
    (pos 3590 ∷ minus 1460 ∷ minus 1600 ∷ z ∷ [])

-- the index that the forward rule says of a place, the index that adding leaves there, and its mark
abbrev hindsight : List Row → ℕ → ℤ
hindsight rows i = (forward rows i).index

abbrev added : List Row → ℕ → ℤ
added rows i = get_or (add_all rows).index i (pos 0)

abbrev marked : List Row → ℕ → ℤ
marked rows i = pos (get_or (add_all rows).mark i 0)

-- the first three months and the one that decides: by hindsight, as added, and their marks
abbrev settling : List Row → ℤ → ℤ → ℤ → ℤ → List Line
settling rows a b c d =
    (hindsight rows 0 gives a)
    ∷ (hindsight rows 1 gives b)
    ∷ (hindsight rows 2 gives c)
    ∷ (hindsight rows 3 gives d)
    ∷ (added rows 0 gives a)
    ∷ (added rows 1 gives b)
    ∷ (added rows 2 gives c)
    ∷ (added rows 3 gives d)
    ∷ (marked rows 0 gives pos 2)
    ∷ (marked rows 1 gives pos 2)
    ∷ (marked rows 2 gives pos 2)
    ∷ (marked rows 3 gives pos 2)
    ∷ []

-- "S5: then Z -1,130: steady, X3 -3,017; the three settle at their X3."
-- "S6: instead Z 6,273: index 2,091; the three settle at 1,197, -487, -970."
abbrev pub worked_table : List Line
worked_table =
    water_table
    ++ (thin_table
    ++ (soil_table
    ++ (place_table
    ++ (k_table
    ++ (range_table
    ++ (numbers_table
    ++ (spell_table
    ++ (modified_table
    ++ (settling (months (minus 1130)) (minus 2454) (minus 2688) (minus 2944) (minus 3017)
    ++ (settling (months (pos 6273)) (pos 1197) (minus 487) (minus 970) (pos 2091)
    ++ answer_table))))))))))
