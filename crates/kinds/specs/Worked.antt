-- The card's kinds: what a reading of each kind says that C hands in, and one of no such kind, so that the kinds' numbers themselves are claimed;
-- and so are those of the answer, 0 none, 1 trace and 2 measured.
-- `kinds` of proofs/EachKind.antt is the one claim, that every row agrees. Assumes nothing.
use Rattle.std.specs.Prelude.{ℕ, false, List, [], ◌∷◌, pos, negsuc}
use Rattle.std.specs.Float.{fin}
use Rattle.exact.specs.Worked.{Row, ◌gives◌}
use Rattle.door.specs.Outcome.{Outcome}
use Rattle.door.specs.Readings.{reading}
use Rattle.kinds.specs.FromC.{reading_of_c}

-- what C's struct says with this kind, the whole number 7 and the measure 1
abbrev said : ℕ → Outcome
said kind = reading (reading_of_c (record { kind = kind; whole = pos 7; measure = fin false 1 (pos 0) }))

-- 2^-11 inch, and the whole number 0
abbrev little : Outcome
little = reading (reading_of_c (record { kind = 2; whole = pos 7; measure = fin false 1 (negsuc 10) }))

abbrev dry : Outcome
dry = reading (reading_of_c (record { kind = 1; whole = pos 0; measure = fin false 1 (pos 0) }))

abbrev pub kind_table : List Row
kind_table =
    -- 0: missing
    (pos (said 0).number gives pos 8)
    ∷ (pos (said 0).water gives pos 0)
    ∷ (pos (said 0).kind gives pos 0)
    -- 1: whole thousandths, here 7
    ∷ (pos (said 1).number gives pos 0)
    ∷ (pos (said 1).water gives pos 7)
    ∷ (pos (said 1).kind gives pos 2)
    -- 2: inches, here 1
    ∷ (pos (said 2).number gives pos 0)
    ∷ (pos (said 2).water gives pos 1000)
    ∷ (pos (said 2).kind gives pos 2)
    -- 3: millimetres, here 1: 5,000 / 127 is 39.37
    ∷ (pos (said 3).number gives pos 0)
    ∷ (pos (said 3).water gives pos 39)
    ∷ (pos (said 3).kind gives pos 2)
    -- and none of the four
    ∷ (pos (said 4).number gives pos 9)
    ∷ (pos (said 4).water gives pos 0)
    ∷ (pos (said 4).kind gives pos 0)
    -- a trace, 2^-11 inch, beside a whole 0
    ∷ (pos little.kind gives pos 1)
    ∷ (pos dry.kind gives pos 0)
    ∷ []
