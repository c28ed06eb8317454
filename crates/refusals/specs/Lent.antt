-- A proof's vocabulary, which contracts cite: what Refusals.antt says, by the length of what is lent, 0 where it cannot be, and by the records.
-- That it is the same is in proofs/Lent.antt. Assumes nothing.
use Rattle.std.specs.Prelude.{ℕ, Bool, cond, List, ℤ, eqb, ltb, length}
use Rattle.outline.specs.Numbers.{z_fits}
use Rattle.outline.specs.Refusals.{bad_lists, not_a_run, no_such_row, bad_z, or_else}
use Rattle.runs.specs.declared.Run.{Run}
use Rattle.refusals.specs.Book.{Book, long, lengths_fit}
use Rattle.refusals.specs.Refusals.{is_run_for, room_refusal}

-- the length of lists of these lengths, and 0 where they cannot be lent
unfoldable pub lent_length : ℕ → ℕ → ℕ → ℕ → ℕ → ℕ → ℕ → ℕ
lent_length x1 x2 x3 index mark records v = cond (lengths_fit x1 x2 x3 index mark records v) x1 0

abbrev pub lent_long : Book → ℕ
lent_long cs = lent_length (long cs) (length cs.x2) (length cs.x3) (length cs.index) (length cs.mark) (length cs.records) (length cs.v)

-- the number of a month's two readings
abbrev pub reading_refusal : ℕ → ℕ → ℕ
reading_refusal p pe = or_else p pe

-- 1 and 7
unfoldable pub run_refusal_for : ℕ → Run → List (List ℤ) → ℕ
run_refusal_for n r records = cond (eqb n 0) bad_lists (cond (is_run_for n r records) 0 not_a_run)

-- an add of water, by the number of its readings
unfoldable pub water_refusal_for : ℕ → Run → ℕ → List (List ℤ) → ℕ
water_refusal_for n r k records = or_else (run_refusal_for n r records) (or_else k (room_refusal n r.months))

-- an add of Z
unfoldable pub z_refusal_for : ℕ → Run → ℤ → List (List ℤ) → ℕ
z_refusal_for n r z records = or_else (run_refusal_for n r records) (or_else (cond (z_fits z) 0 bad_z) (room_refusal n r.months))

-- a row, of lists that can be lent
unfoldable pub row_refusal_for : ℕ → Run → ℕ → List (List ℤ) → ℕ
row_refusal_for n r i records = cond (is_run_for n r records) (cond (ltb i r.months) 0 no_such_row) not_a_run

-- and by whether they can
unfoldable pub row_number_for : Bool → Run → ℕ → List (List ℤ) → ℕ
row_number_for fit r i records = cond fit (row_refusal_for (length records) r i records) bad_lists
