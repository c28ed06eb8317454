-- Lines worked out by computation: a run that starts in April, of eleven months, the last of them open. Its first line has three marks before its first
-- month, and its second one two months, of which the open one has the mark; what an open month shows, -99.99, refuses nothing. Assumes nothing.
use mathlib.Core.Path.{◌≡◌, refl}
use mathlib.Core.List.{[], ◌∷◌}
use lib.IntN.{pos, negsuc}
use Rattle.exact.specs.Nearest.{nearest_ℕ, nearest}
use Rattle.refusals.specs.Book.{Book, book}
use Rattle.fields.specs.Written.{before_units, field_text, value_text}
use Rattle.layout_heading.specs.Written.{heading_text}
use Rattle.figures.specs.Figures.{figures_text}
use Rattle.figures.specs.declared.Element.TheVariants.{Index}
use Rattle.figures.specs.declared.Figure.TheVariants.{Value, Missing}
use Rattle.sent_months.specs.Sent.{row_sent, month_sent, year_sent}
use Rattle.sending.specs.Sending.{line_text}

abbrev columns : Book
columns = book [] [] [] ((negsuc 5951) ∷ (pos 1047) ∷ (negsuc 3) ∷ (negsuc 4) ∷ (pos 4) ∷ (pos 5) ∷ (pos 9999994) ∷ (negsuc 999993) ∷ (negsuc 99983) ∷ (pos 0) ∷ (negsuc 99989) ∷ []) (2 ∷ 2 ∷ 2 ∷ 2 ∷ 2 ∷ 2 ∷ 2 ∷ 2 ∷ 2 ∷ 2 ∷ 1 ∷ []) [] []

-- the hundredths of both years, from April, which is calendar month 4
first-year : year_sent Index columns 4 11 0 ≡ Missing ∷ Missing ∷ Missing ∷ Value (negsuc 594) ∷ Value (pos 105) ∷ Value (pos 0) ∷ Value (negsuc 0) ∷ Value (pos 0) ∷ Value (pos 1) ∷ Value (pos 999999) ∷ Value (negsuc 99998) ∷ Value (negsuc 9997) ∷ []
unfolding nearest_ℕ nearest row_sent month_sent
first-year = refl

second-year : year_sent Index columns 4 11 1 ≡ Value (pos 0) ∷ Missing ∷ Missing ∷ Missing ∷ Missing ∷ Missing ∷ Missing ∷ Missing ∷ Missing ∷ Missing ∷ Missing ∷ Missing ∷ []
unfolding nearest_ℕ nearest row_sent month_sent
second-year = refl

-- "1407051932 -99.99 -99.99 -99.99  -5.95   1.05   0.00  -0.01   0.00   0.019999.99-999.99 -99.98"
first-line : line_text 14 7 5 1932 (year_sent Index columns 4 11 0) ≡ 49 ∷ 52 ∷ 48 ∷ 55 ∷ 48 ∷ 53 ∷ 49 ∷ 57 ∷ 51 ∷ 50 ∷ 32 ∷ 45 ∷ 57 ∷ 57 ∷ 46 ∷ 57 ∷ 57 ∷ 32 ∷ 45 ∷ 57 ∷ 57 ∷ 46 ∷ 57 ∷ 57 ∷ 32 ∷ 45 ∷ 57 ∷ 57 ∷ 46 ∷ 57 ∷ 57 ∷ 32 ∷ 32 ∷ 45 ∷ 53 ∷ 46 ∷ 57 ∷ 53 ∷ 32 ∷ 32 ∷ 32 ∷ 49 ∷ 46 ∷ 48 ∷ 53 ∷ 32 ∷ 32 ∷ 32 ∷ 48 ∷ 46 ∷ 48 ∷ 48 ∷ 32 ∷ 32 ∷ 45 ∷ 48 ∷ 46 ∷ 48 ∷ 49 ∷ 32 ∷ 32 ∷ 32 ∷ 48 ∷ 46 ∷ 48 ∷ 48 ∷ 32 ∷ 32 ∷ 32 ∷ 48 ∷ 46 ∷ 48 ∷ 49 ∷ 57 ∷ 57 ∷ 57 ∷ 57 ∷ 46 ∷ 57 ∷ 57 ∷ 45 ∷ 57 ∷ 57 ∷ 57 ∷ 46 ∷ 57 ∷ 57 ∷ 32 ∷ 45 ∷ 57 ∷ 57 ∷ 46 ∷ 57 ∷ 56 ∷ []
unfolding nearest_ℕ nearest row_sent month_sent before_units field_text value_text heading_text figures_text line_text
first-line = refl

-- "1407051933   0.00 -99.99 -99.99 -99.99 -99.99 -99.99 -99.99 -99.99 -99.99 -99.99 -99.99 -99.99"
second-line : line_text 14 7 5 1933 (year_sent Index columns 4 11 1) ≡ 49 ∷ 52 ∷ 48 ∷ 55 ∷ 48 ∷ 53 ∷ 49 ∷ 57 ∷ 51 ∷ 51 ∷ 32 ∷ 32 ∷ 32 ∷ 48 ∷ 46 ∷ 48 ∷ 48 ∷ 32 ∷ 45 ∷ 57 ∷ 57 ∷ 46 ∷ 57 ∷ 57 ∷ 32 ∷ 45 ∷ 57 ∷ 57 ∷ 46 ∷ 57 ∷ 57 ∷ 32 ∷ 45 ∷ 57 ∷ 57 ∷ 46 ∷ 57 ∷ 57 ∷ 32 ∷ 45 ∷ 57 ∷ 57 ∷ 46 ∷ 57 ∷ 57 ∷ 32 ∷ 45 ∷ 57 ∷ 57 ∷ 46 ∷ 57 ∷ 57 ∷ 32 ∷ 45 ∷ 57 ∷ 57 ∷ 46 ∷ 57 ∷ 57 ∷ 32 ∷ 45 ∷ 57 ∷ 57 ∷ 46 ∷ 57 ∷ 57 ∷ 32 ∷ 45 ∷ 57 ∷ 57 ∷ 46 ∷ 57 ∷ 57 ∷ 32 ∷ 45 ∷ 57 ∷ 57 ∷ 46 ∷ 57 ∷ 57 ∷ 32 ∷ 45 ∷ 57 ∷ 57 ∷ 46 ∷ 57 ∷ 57 ∷ 32 ∷ 45 ∷ 57 ∷ 57 ∷ 46 ∷ 57 ∷ 57 ∷ []
unfolding nearest_ℕ nearest row_sent month_sent before_units field_text value_text heading_text figures_text line_text
second-line = refl
