-- Document 02, E14: "Write index, Z and modified index lines .., whole calendar years, values nearest to hundredths. .. State, division, the year of row
-- 0 and which of the run's years (from 0) are given .. An open Palmer month and a month outside the run get the mark." Year 0 is the calendar
-- year that row 0 lies in, part or whole. Assumes nothing.
use Rattle.std.specs.Prelude.{ℕ, ◌+◌, ◌-◌, ◌*◌, Bool, true, cond, ◌&&◌, List, [], ◌∷◌, ℤ, pos, eqb, leb, ltb, get_or}
use Rattle.outline.specs.Numbers.{last_month}
use Rattle.exact.specs.Nearest.{nearest}
use Rattle.records.specs.Record.{record_at}
use Rattle.refusals.specs.Book.{Book}
use Rattle.figures.specs.declared.Element.{Element}
use Rattle.figures.specs.declared.Element.TheVariants as element
use Rattle.figures.specs.declared.Figure.{Figure}
use Rattle.figures.specs.declared.Figure.TheVariants.{Value, Missing}

-- "values nearest to hundredths", of thousandths
abbrev pub nearest_hundredths : ℤ → Figure
nearest_hundredths x = Value (nearest x 10)

-- the thousandths of a row: its index, the Z and the modified index of its record
abbrev pub thousandths_at : Element → List ℤ → List (List ℤ) → ℕ → ℤ
thousandths_at element.Index index records i = get_or index i (pos 0)
thousandths_at element.Z index records i = (record_at records i).z
thousandths_at element.Modified index records i = (record_at records i).modified

-- "An open Palmer month .. get[s] the mark": an index is sent where the month's mark is 2, settled, and else never. Z and modified index are fixed
-- when the month is added
abbrev pub is_sent : Element → ℕ → Bool
is_sent element.Index mark = eqb mark 2
is_sent element.Z mark = true
is_sent element.Modified mark = true

-- what a row sends
unfoldable pub row_sent : Element → Book → ℕ → Figure
row_sent e cs i = cond (is_sent e (get_or cs.mark i 0)) (nearest_hundredths (thousandths_at e cs.index cs.records i)) Missing

-- what the calendar month m, from 0, of the year `which` sends, where row 0 is calendar month c, from 1, of year 0: c - 1 months of that year are before
-- row 0. "a month outside the run get[s] the mark"
unfoldable pub month_sent : Element → Book → ℕ → ℕ → ℕ → ℕ → Figure
month_sent e cs c months which m =
    let place = last_month * which + m in
    cond (leb (c - 1) place && ltb (place - (c - 1)) months) (row_sent e cs (place - (c - 1))) Missing

-- January to December
abbrev pub year_sent : Element → Book → ℕ → ℕ → ℕ → List Figure
year_sent e cs c months which =
    let month = month_sent e cs c months which in
    month 0 ∷ month 1 ∷ month 2 ∷ month 3 ∷ month 4 ∷ month 5 ∷ month 6 ∷ month 7 ∷ month 8 ∷ month 9 ∷ month 10 ∷ month 11 ∷ []
