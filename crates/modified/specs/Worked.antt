-- The modified index of document 01's worked months, S1 to S6, of a tie, of exact halves in all quadrants and of V at its bound, as rows. The crate `demands`
-- joins them to the one table, and its one claim is that every row agrees. Assumes nothing.
use Rattle.std.specs.Prelude.{List, [], ◌∷◌, ℤ, pos}
use Rattle.exact.specs.Worked.{Row, ◌gives◌, minus}
use Rattle.spells.specs.declared.Running.{Running}
use Rattle.spells.specs.Values.{fresh}
use Rattle.spell_laws.specs.Worked.{s4-first, s4-second, s4-third}
use Rattle.modified.specs.Modified.{modified_of}

abbrev values : ℤ → ℤ → ℤ → ℤ → Running
values x1 x2 x3 v = record { x1 = x1; x2 = x2; x3 = x3; v = v }

-- "X3 .., others 0"
abbrev only : ℤ → Running
only x = values (pos 0) (pos 0) x (pos 0)

abbrev pub modified_table : List Row
modified_table =
    -- S4's months. By the printed percents, 40, 27 and 12, they would be -994, -1,804 and -2,591
    (modified_of (only (minus 4070)) (pos 3590) gives minus 1009)
    ∷ (modified_of s4-first.after (minus 1460) gives minus 1788)
    ∷ (modified_of s4-second.after (minus 1600) gives minus 2591)
    -- the same of a wet spell
    ∷ (modified_of (only (pos 4070)) (minus 3590) gives pos 1009)
    ∷ (modified_of (values (pos 0) (minus 1197) (pos 2454) (minus 3740)) (pos 1460) gives pos 1788)
    ∷ (modified_of (values (pos 487) (minus 587) (pos 2688) (minus 2430)) (pos 1600) gives pos 2591)
    -- S5, steady; S6, ended and founded
    ∷ (modified_of s4-third.after (minus 1130) gives minus 3017)
    ∷ (modified_of s4-third.after (pos 6273) gives pos 2091)
    -- S1, founded and not; S2, steady and abating; S3, ended and abating
    ∷ (modified_of fresh (pos 2999) gives pos 1000)
    ∷ (modified_of fresh (pos 2998) gives pos 999)
    ∷ (modified_of (only (minus 1000)) (minus 150) gives minus 947)
    ∷ (modified_of (only (minus 1000)) (minus 149) gives minus 946)
    ∷ (modified_of (only (minus 1000)) (pos 1041) gives pos 347)
    ∷ (modified_of (only (minus 1000)) (pos 1040) gives pos 346)
    -- X1 224 and X2 -224: "X2 on a tie", and the same with every sign changed
    ∷ (modified_of (values (pos 500) (pos 0) (pos 0) (pos 0)) (minus 673) gives minus 224)
    ∷ (modified_of (values (pos 0) (minus 500) (pos 0) (pos 0)) (pos 673) gives minus 224)
    -- 222.5 and -833.5: halves away from zero, in a drought and in a wet spell
    ∷ (modified_of (values (pos 338) (pos 0) (minus 784) (pos 18)) (pos 339) gives pos 223)
    ∷ (modified_of (values (pos 3) (pos 0) (minus 1200) (pos 96)) (pos 105) gives minus 834)
    ∷ (modified_of (values (pos 0) (minus 338) (pos 784) (minus 18)) (minus 339) gives minus 223)
    ∷ (modified_of (values (pos 0) (minus 3) (pos 1200) (minus 96)) (minus 105) gives pos 834)
    -- V at its bound after 12,000 months: 1000 V X1 has 70 bits
    ∷ (modified_of (values (pos 13000000) (pos 0) (minus 13000000) (pos 47997799850)) (pos 4000000) gives pos 12979290)
    ∷ (modified_of (values (pos 0) (minus 13000000) (pos 13000000) (minus 47997799850)) (minus 4000000) gives minus 12979290)
    ∷ []
