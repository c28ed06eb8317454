-- Document 02, E14: "Write index, Z and modified index lines in the nClimDiv layout .. The elements are 05, 07 and 08, and their missing mark is
-- -99.99." What a value says of its month, and how a month's figure is written. Assumes nothing.
use Rattle.std.specs.Prelude.{ℕ, suc, Bool, true, false, cond, not, ◌&&◌, List, [], ◌∷◌, ◌++◌, map, Option, Some, None, ℤ, pos, negsuc, neg_ℤ, eqb}
use Rattle.fields.specs.Columns.{values}
use Rattle.fields.specs.Field.{field_of}
use Rattle.fields.specs.Written.{field_text, value_text, value_fits}
use Rattle.fields.specs.declared.Number.{Number}
use Rattle.figures.specs.declared.Element.{Element}
use Rattle.figures.specs.declared.Element.TheVariants as element
use Rattle.figures.specs.declared.Figure.{Figure}
use Rattle.figures.specs.declared.Figure.TheVariants.{Value, Missing, Malformed}

-- "The elements are 05, 07 and 08": index, Z and modified index
abbrev pub number_of : Element → ℕ
number_of element.Index = 5
number_of element.Z = 7
number_of element.Modified = 8

-- ---- the mark
-- "their missing mark is -99.99"
abbrev pub mark_hundredths : ℕ
mark_hundredths = 9999

unfoldable pub is_mark : Bool → ℕ → Bool
is_mark minus n = minus && eqb n mark_hundredths

-- ---- READ: what a value says of its month
-- a minus before 0 says 0
abbrev pub signed_of : Bool → ℕ → ℤ
signed_of true n = neg_ℤ (pos n)
signed_of false n = pos n

abbrev pub figure_said : Option Number → Figure
figure_said (Some said) = cond (is_mark said.minus said.hundredths) Missing (Value (signed_of said.minus said.hundredths))
figure_said None = Malformed

unfoldable pub figure_of : List ℕ → Figure
figure_of f = figure_said (field_of f)

unfoldable pub figures_of : List ℕ → List Figure
figures_of line = map figure_of (values line)

abbrev pub is_malformed : Figure → Bool
is_malformed (Value h) = false
is_malformed Missing = false
is_malformed Malformed = true

abbrev pub is_present : Figure → Bool
is_present (Value h) = true
is_present Missing = false
is_present Malformed = false

-- "gives the hundredths": 0 where missing
abbrev pub hundredths_of : Figure → ℤ
hundredths_of (Value h) = h
hundredths_of Missing = pos 0
hundredths_of Malformed = pos 0

-- ---- WRITTEN: a month's figure in its seven characters
abbrev pub figure_text : Figure → List ℕ
figure_text (Value h) = value_text h
figure_text Missing = field_text true mark_hundredths
figure_text Malformed = []

unfoldable pub figures_text : List Figure → List ℕ
figures_text [] = []
figures_text (f ∷ fs) = figure_text f ++ figures_text fs

-- "A value that doesn't fit its seven characters, or that would itself print as the missing mark": not so
abbrev pub marks_not : ℤ → Bool
marks_not (pos n) = true
marks_not (negsuc n) = not (eqb (suc n) mark_hundredths)

abbrev pub figure_fits : Figure → Bool
figure_fits (Value h) = value_fits h && marks_not h
figure_fits Missing = true
figure_fits Malformed = false
