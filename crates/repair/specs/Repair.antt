-- Document 02, E8, "Repairing a wrong month": what the call answers, the run that it hands back and what every lent list then holds, the report too. Assumes
-- nothing.
use Rattle.std.specs.Prelude.{ℕ, cond, ◌&&◌, List, ℤ, eqb, ltb, length}
use Rattle.outline.specs.Refusals.{bad_lists, not_a_run, no_such_row, waterless, or_else, unless_refused}
use Rattle.door.specs.Outcome.{Outcome}
use Rattle.door.specs.Readings.{reading}
use Rattle.door.specs.declared.Reading.{Reading}
use Rattle.runs.specs.declared.Run.{Run}
use Rattle.records.specs.Record.{record_at}
use Rattle.refusals.specs.Book.{Book, long, columns_fit}
use Rattle.refusals.specs.Refusals.{is_run_of}
use Rattle.kept_rows.specs.KeptRows.{rows_fit}
use Rattle.report.specs.Report.{changes, reported}
use Rattle.records.specs.Water.{had_water}
use Rattle.reworking.specs.Reworked.{Left, reworked_from}
use Rattle.repair.specs.declared.Repaired.{Repaired}

-- what a repair leaves: its answer, with the run, what is lent, and the report
pub record RepairResult : Type 0 where
  pub answer : Repaired
  pub columns : Book
  pub report : List (List ℤ)

abbrev pub repair_result : Repaired → Book → List (List ℤ) → RepairResult
repair_result a cs report = record { answer = a; columns = cs; report = report }

-- "Refusals: 17 no water in that month, after 11 and before 8; 1 covers the report lists; 7 here also covers any recorded figure outside its range": 1, 7, 11,
-- 17, precipitation 8 or 9, PE 8 or 9; of a row i, the numbers of its two readings, and a report of n places
unfoldable pub repair_refusal : Run → ℕ → ℕ → ℕ → Book → ℕ → ℕ
repair_refusal r i p pe cs n =
    or_else (cond (columns_fit cs && eqb n (long cs)) 0 bad_lists)
    (or_else (cond (is_run_of cs r && rows_fit r.soil.capacity cs r.months) 0 not_a_run)
    (or_else (cond (ltb i r.months) 0 no_such_row) (or_else (cond (had_water (record_at cs.records i)) 0 waterless) (or_else p pe))))

-- the months that changed, where a run of so many months and its columns are left so
abbrev pub changed : ℕ → Book → Left → List (List ℤ)
changed months cs t = changes cs.index t.columns.index cs.mark t.columns.mark months

-- a repair that is done: how many months are reported, the run, the columns and the report
abbrev pub repaired : ℕ → Book → List (List ℤ) → Left → RepairResult
repaired months cs report t =
    repair_result (record { number = 0; changed = length (changed months cs t); run = t.run }) t.columns (reported (length report) (changed months cs t))

-- "A refused call hands back any run it was given and writes nothing."
abbrev pub not_repaired : ℕ → Run → Book → List (List ℤ) → RepairResult
not_repaired k r cs report = repair_result (record { number = k; changed = 0; run = r }) cs report

-- by what the two readings answer
unfoldable pub repair_outcomes : Run → ℕ → Outcome → Outcome → Book → List (List ℤ) → RepairResult
repair_outcomes r i p pe cs report =
    let k = repair_refusal r i p.number pe.number cs (length report) in
    unless_refused k (repaired r.months cs report (reworked_from r i p.water pe.water p.kind cs)) (not_repaired k r cs report)

-- ---- REPAIR A MONTH
unfoldable pub repair : Run → ℕ → Reading → Reading → Book → List (List ℤ) → RepairResult
repair r i p pe cs report = repair_outcomes r i (reading p) (reading pe) cs report
