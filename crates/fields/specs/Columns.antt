-- The nClimDiv layout, column by column: "state, division, element and year in the first ten columns, then twelve values of seven characters"
-- (document 02, E1). A line is the list of its bytes, without the line feed; a line that is shorter has less in its last columns, or nothing.
-- Assumes nothing.
use Rattle.std.specs.Prelude.{ℕ, ◌+◌, ◌-◌, List, [], ◌∷◌, take, drop}
use Rattle.outline.specs.Numbers.{last_month}

-- the columns from one to another, both counted from 1, both within
abbrev pub columns : ℕ → ℕ → List ℕ → List ℕ
columns from to line = take (to + 1 - from) (drop (from - 1) line)

abbrev pub state : List ℕ → List ℕ
state line = columns 1 2 line

abbrev pub division : List ℕ → List ℕ
division line = columns 3 4 line

abbrev pub element : List ℕ → List ℕ
element line = columns 5 6 line

abbrev pub year : List ℕ → List ℕ
year line = columns 7 10 line

-- January to December
unfoldable pub values : List ℕ → List (List ℕ)
values line =
    columns 11 17 line ∷ columns 18 24 line ∷ columns 25 31 line ∷ columns 32 38 line ∷ columns 39 45 line ∷ columns 46 52 line ∷ columns 53 59 line ∷
    columns 60 66 line ∷ columns 67 73 line ∷ columns 74 80 line ∷ columns 81 87 line ∷ columns 88 94 line ∷ []

-- "the first ten columns", after which the first value begins
abbrev pub heading_columns : ℕ
heading_columns = 10

abbrev pub first_value : ℕ
first_value = heading_columns + 1

-- "twelve values"
abbrev pub months_of_year : ℕ
months_of_year = last_month

-- "of seven characters"
abbrev pub width : ℕ
width = 7

-- the last column of the last value
abbrev pub last_column : ℕ
last_column = 94

-- what stands after the last value
abbrev pub after : List ℕ → List ℕ
after line = drop last_column line
