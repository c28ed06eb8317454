-- A proof's vocabulary, which contracts cite: the tests of the rows, list by list. Assumes nothing.
use Rattle.std.specs.Prelude.{ℕ, suc, ◌*◌, ◌<◌, ◌≡◌, Bool, not, ◌&&◌, ◌||◌, List, ℤ, pos, nat_abs, leb, get_or, length}
use Rattle.std.specs.Int.Signed.{le_z, lt_z}
use Rattle.outline.specs.Numbers.{most_u}
use Rattle.records.specs.Record.{record_at}
use Rattle.kept_rows.specs.KeptRows.{mark_fits, record_fits}

-- the number at a place is from a least to a most
unfoldable pub between_at : ℤ → ℤ → List ℤ → ℕ → Bool
between_at least most l i = le_z least (get_or l i (pos 0)) && le_z (get_or l i (pos 0)) most

-- the mark at a place is one
unfoldable pub mark_at : List ℕ → ℕ → Bool
mark_at l i = mark_fits (get_or l i 0)

-- V above 0 with X3 below, V below 0 with X3 above, or V 0
unfoldable pub opposed_to : ℤ → ℤ → Bool
opposed_to x3 v = (le_z v (pos 0) || lt_z x3 (pos 0)) && (le_z (pos 0) v || lt_z (pos 0) x3)

-- V after so many months, by the side of X3 and by its size
unfoldable pub v_row_fits : ℕ → ℤ → ℤ → Bool
v_row_fits months x3 v = opposed_to x3 v && leb (nat_abs v) (most_u * months)

-- V and the record of the row at a place
unfoldable pub rest_at : ℕ → List ℤ → List (List ℤ) → List ℤ → ℕ → Bool
rest_at capacity x3 records v i = v_row_fits (suc i) (get_or x3 i (pos 0)) (get_or v i (pos 0)) && record_fits capacity (record_at records i)

-- each answer at an item is that the test at the item's place is not passed
abbrev pub AnswersNot : {T : Type 0} → (T → Bool → Type 0) → List T → (ℕ → Bool) → Type 0
AnswersNot {T} answers items test = (i : ℕ) (x : T) (r : Bool) → i < length items → get_or items i x ≡ x → answers x r → r ≡ not (test i)
