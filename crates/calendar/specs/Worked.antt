-- Document 01: "Sixty constants, January first, each month in the order alpha, beta, gamma, delta, K." Where a calendar month's five stand, so
-- that the places themselves are claimed. The crate `demands` joins these rows to the table of worked months, and its one claim is that
-- every row agrees. Assumes nothing.
use Rattle.std.specs.Prelude.{ℕ, zero, suc, ◌+◌, List, [], ◌∷◌, ◌++◌, ℤ, pos}
use Rattle.exact.specs.Worked.{Row, ◌gives◌}
use Rattle.outline.specs.Numbers.{many_constants}
use Rattle.calendar.specs.Calendar.{constants_at}

-- so many numbers in their order, from n on
abbrev counted : ℕ → ℕ → List ℤ
counted zero n = []
counted (suc k) n = pos n ∷ counted k (n + 1)

-- a calendar month's five of the constants 1 to 60: these, from the first on
abbrev five_from : ℕ → ℕ → List Row
five_from month first =
    let k = constants_at (counted many_constants 1) month in
    (pos k.alpha gives pos first)
    ∷ (pos k.beta gives pos (first + 1))
    ∷ (pos k.gamma gives pos (first + 2))
    ∷ (pos k.delta gives pos (first + 3))
    ∷ (pos k.k gives pos (first + 4))
    ∷ []

abbrev pub place_table : List Row
place_table = five_from 1 1 ++ (five_from 3 11 ++ five_from 12 56)
