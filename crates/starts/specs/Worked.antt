-- What a start answers at and beside the ends of every range: of the capacity and both layers (document 02, E5, "Thin soils"), with a K of 0
-- (E11, "A month that counts for nothing"), and of the constants, how many they are, and the month (document 01, "Quantities"), so that the
-- numbers themselves are claimed and not only their names. The crate `demands` joins these rows to the table of worked months, and its one
-- claim is that every row agrees. Assumes nothing.
use Rattle.std.specs.Prelude.{ℕ, zero, suc, List, [], ◌∷◌, ℤ, pos, negsuc, set, take}
use Rattle.exact.specs.Worked.{Row, ◌gives◌}
use Rattle.outline.specs.Numbers.{last_month}
use Rattle.water.specs.Worked.{of1}
use Rattle.starts.specs.Start.{start_refusal}

-- the constants of W1 (document 01), so many months of them
abbrev months : ℕ → List ℤ
months zero = []
months (suc n) = pos of1.alpha ∷ pos of1.beta ∷ pos of1.gamma ∷ pos of1.delta ∷ pos of1.k ∷ months n

-- the number of a start with this capacity and these storages
abbrev soil : ℕ → ℕ → ℕ → ℤ
soil c ss su = pos (start_refusal (months last_month) (pos c) (pos ss) (pos su) (pos 1))

abbrev pub soil_table : List Row
soil_table =
    -- "4 now begins below 100"
    (soil 99 0 0 gives pos 4)
    -- "the surface layer holds the smaller of 1,000 and C, the underlying layer the rest, possibly nothing": all of it, and no more
    ∷ (soil 100 100 0 gives pos 0)
    ∷ (soil 100 101 0 gives pos 5)
    ∷ (soil 100 0 1 gives pos 5)
    ∷ (soil 999 999 0 gives pos 0)
    ∷ (soil 999 1000 0 gives pos 5)
    ∷ (soil 999 0 1 gives pos 5)
    ∷ (soil 1000 1000 0 gives pos 0)
    ∷ (soil 1000 1001 0 gives pos 5)
    ∷ (soil 1000 0 1 gives pos 5)
    ∷ (soil 1001 1000 1 gives pos 0)
    ∷ (soil 1001 1001 0 gives pos 5)
    ∷ (soil 1001 0 2 gives pos 5)
    -- "and C may be 100 to 30,000"
    ∷ (soil 30000 1000 29000 gives pos 0)
    ∷ (soil 30000 0 29001 gives pos 5)
    ∷ (soil 30001 0 0 gives pos 4)
    ∷ []

-- the number of a start with W1's constants, of which the one at this place is another, and this capacity
abbrev with : ℕ → ℕ → ℕ → ℤ
with place n c = pos (start_refusal (set (months last_month) place (pos n)) (pos c) (pos 0) (pos 0) (pos 1))

abbrev pub k_table : List Row
k_table =
    -- "21 zero K": of any calendar month, and of the K alone; a K of 1 will do
    (with 4 0 6000 gives pos 21)
    ∷ (with 9 0 6000 gives pos 21)
    ∷ (with 14 0 6000 gives pos 21)
    ∷ (with 19 0 6000 gives pos 21)
    ∷ (with 24 0 6000 gives pos 21)
    ∷ (with 29 0 6000 gives pos 21)
    ∷ (with 34 0 6000 gives pos 21)
    ∷ (with 39 0 6000 gives pos 21)
    ∷ (with 44 0 6000 gives pos 21)
    ∷ (with 49 0 6000 gives pos 21)
    ∷ (with 54 0 6000 gives pos 21)
    ∷ (with 59 0 6000 gives pos 21)
    ∷ (with 14 1 6000 gives pos 0)
    ∷ (with 10 0 6000 gives pos 0)
    ∷ (with 11 0 6000 gives pos 0)
    ∷ (with 12 0 6000 gives pos 0)
    ∷ (with 13 0 6000 gives pos 0)
    -- "at a start right after 3": before 4, and after all sixty are in range
    ∷ (with 14 0 99 gives pos 21)
    ∷ (with 14 100001 6000 gives pos 3)
    ∷ (pos (start_refusal (set (set (months last_month) 14 (pos 0)) 59 (pos 100001)) (pos 6000) (pos 0) (pos 0) (pos 1)) gives pos 3)
    ∷ []

-- the number of a start with these constants, these storages and this month
abbrev start : List ℤ → ℤ → ℤ → ℤ → ℤ
start constants ss su m = pos (start_refusal constants (pos 6000) ss su m)

-- .. with W1's constants, of which the one at this place is another
abbrev constant : ℕ → ℤ → ℤ
constant place n = start (set (months last_month) place n) (pos 0) (pos 0) (pos 1)

-- .. with so many constants
abbrev many : ℕ → ℤ
many n = start (take n (months (suc last_month))) (pos 0) (pos 0) (pos 1)

-- .. in this month
abbrev month : ℤ → ℤ
month m = start (months last_month) (pos 0) (pos 0) m

abbrev pub range_table : List Row
range_table =
    -- "Alpha, beta, delta 0 to 10,000; gamma 0 to 50,000; K 0 to 100,000." The five of March, at their most, past it, and below 0; at 0 they
    -- stand in `k_table`
    (constant 10 (pos 10000) gives pos 0)
    ∷ (constant 10 (pos 10001) gives pos 3)
    ∷ (constant 10 (negsuc 0) gives pos 3)
    ∷ (constant 11 (pos 10000) gives pos 0)
    ∷ (constant 11 (pos 10001) gives pos 3)
    ∷ (constant 11 (negsuc 0) gives pos 3)
    ∷ (constant 12 (pos 50000) gives pos 0)
    ∷ (constant 12 (pos 50001) gives pos 3)
    ∷ (constant 12 (negsuc 0) gives pos 3)
    ∷ (constant 13 (pos 10000) gives pos 0)
    ∷ (constant 13 (pos 10001) gives pos 3)
    ∷ (constant 13 (negsuc 0) gives pos 3)
    ∷ (constant 14 (pos 100000) gives pos 0)
    ∷ (constant 14 (pos 100001) gives pos 3)
    ∷ (constant 14 (negsuc 0) gives pos 3)
    -- "2: constants not sixty numbers"
    ∷ (many 59 gives pos 2)
    ∷ (many 60 gives pos 0)
    ∷ (many 61 gives pos 2)
    -- "5: a start storage negative"; above its layer it stands in `soil_table`
    ∷ (start (months last_month) (negsuc 0) (pos 0) (pos 1) gives pos 5)
    ∷ (start (months last_month) (pos 0) (negsuc 0) (pos 1) gives pos 5)
    -- "6: start month not 1 to 12"
    ∷ (month (negsuc 0) gives pos 6)
    ∷ (month (pos 0) gives pos 6)
    ∷ (month (pos 1) gives pos 0)
    ∷ (month (pos 12) gives pos 0)
    ∷ (month (pos 13) gives pos 6)
    ∷ []
