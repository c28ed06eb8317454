-- Document 01, the program that "prints, at the end, month number, X1, X2, X3, percent, index, S or O", as "1 0 0 -1000 0 -1000 S": a row
-- as the list of its bytes. So too the row of a year, which the program `division` prints. Assumes nothing.
use Rattle.std.specs.Prelude.{ℕ, zero, suc, ◌+◌, ◌/◌, ◌%◌, cond, List, [], ◌∷◌, ◌++◌, ℤ, pos, negsuc, ltb, eqb}
use Rattle.text.specs.Bytes.{space, line_feed, minus_sign, digit_zero}
use Rattle.rows.specs.declared.Row.{Row}

-- the bytes of 'O' and 'S'
abbrev pub letter_o : ℕ
letter_o = 79

abbrev pub letter_s : ℕ
letter_s = 83

-- the digits of n, in at most k more places than one
unfoldable pub digits_within : ℕ → ℕ → List ℕ
digits_within zero n = (digit_zero + n) ∷ []
digits_within (suc k) n = cond (ltb n 10) ((digit_zero + n) ∷ []) (digits_within k (n / 10) ++ ((digit_zero + n % 10) ∷ []))

-- a natural number in decimal, with no zero in front: n has no more than n places beyond the first
unfoldable pub numeral : ℕ → List ℕ
numeral n = digits_within n n

-- a whole number in decimal
unfoldable pub integer : ℤ → List ℕ
integer (pos n) = numeral n
integer (negsuc n) = minus_sign ∷ numeral (suc n)

-- "S or O": S where the mark is 2, settled
unfoldable pub letter : ℕ → ℕ
letter mark = cond (eqb mark 2) letter_s letter_o

-- "month number, X1, X2, X3, percent, index, S or O"
unfoldable pub row_text : Row → List ℕ
row_text r =
    numeral r.month ++ (space ∷ integer r.x1) ++ (space ∷ integer r.x2) ++ (space ∷ integer r.x3) ++ (space ∷ numeral r.percent) ++
    (space ∷ integer r.index) ++ (space ∷ letter r.mark ∷ line_feed ∷ [])

-- "the word "refused", the line number counted from 1 and the refusal number, a space between, as `refused 2 13`"
abbrev pub refused_word : List ℕ
refused_word = 114 ∷ 101 ∷ 102 ∷ 117 ∷ 115 ∷ 101 ∷ 100 ∷ []

unfoldable pub refused_text : ℕ → ℕ → List ℕ
refused_text line number = refused_word ++ (space ∷ numeral line) ++ (space ∷ numeral number) ++ (line_feed ∷ [])

-- a month's amount, or a dash where its bit of the set of months present is not 1
unfoldable pub month_text : ℕ → ℕ → List ℕ
month_text amount bit = cond (eqb bit 1) (numeral amount) (minus_sign ∷ [])

-- "twelve amounts or a dash": the lowest bit of the set tells of the first month
unfoldable pub months_text : List ℕ → ℕ → List ℕ
months_text [] set = []
months_text (a ∷ rest) set = (space ∷ month_text a (set % 2)) ++ months_text rest (set / 2)

-- "year, twelve amounts or a dash, months present"
unfoldable pub year_text : ℕ → List ℕ → ℕ → ℕ → List ℕ
year_text year amounts set count = numeral year ++ months_text amounts set ++ (space ∷ numeral count) ++ (line_feed ∷ [])
