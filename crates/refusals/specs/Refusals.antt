-- Document 01, the order in which each call on a run gives its refusals. Their numbers are in `Rattle.outline.specs.Refusals`; a start has its own
-- order (`Rattle.starts.specs.Start`), and so has the whole series (`Rattle.series.specs.Series`). Assumes nothing.
use Rattle.std.specs.Prelude.{ℕ, Bool, cond, ◌&&◌, List, ℤ, ltb}
use Rattle.outline.specs.Numbers.{z_fits}
use Rattle.outline.specs.Refusals.{bad_lists, not_a_run, full, no_such_row, bad_z, or_else}
use Rattle.runs.specs.Runs.{is_run}
use Rattle.runs.specs.declared.Run.{Run}
use Rattle.records.specs.Ends.{ends_meet}
use Rattle.refusals.specs.Book.{Book, long, columns_fit}

-- a run, for lists of this length and with these records: what `is_run` asks; and E6, "after any month, the last row's end storages equal the
-- run's", last
unfoldable pub is_run_for : ℕ → Run → List (List ℤ) → Bool
is_run_for n r records = is_run n r && ends_meet r.months r.soil records

abbrev pub is_run_of : Book → Run → Bool
is_run_of cs r = is_run_for (long cs) r cs.records

-- what every call on a run asks first: 1, then 7
unfoldable pub run_refusal : Run → Book → ℕ
run_refusal r cs = cond (columns_fit cs) (cond (is_run_of cs r) 0 not_a_run) bad_lists

-- .. and what every add asks last, of columns of length n: 10
unfoldable pub room_refusal : ℕ → ℕ → ℕ
room_refusal n months = cond (ltb months n) 0 full

-- "At an add of water: 1, 7, precipitation 8 or 9, PE 8 or 9, 10."
unfoldable pub water_refusal : Run → ℕ → ℕ → Book → ℕ
water_refusal r p pe cs = or_else (run_refusal r cs) (or_else p (or_else pe (room_refusal (long cs) r.months)))

-- "At an add of Z: 1, 7, 12, 10."
unfoldable pub z_refusal : Run → ℤ → Book → ℕ
z_refusal r z cs = or_else (run_refusal r cs) (or_else (cond (z_fits z) 0 bad_z) (room_refusal (long cs) r.months))

-- "Row: 1, 7, 11."
unfoldable pub row_refusal : Run → ℕ → Book → ℕ
row_refusal r i cs = or_else (run_refusal r cs) (cond (ltb i r.months) 0 no_such_row)
