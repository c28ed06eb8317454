-- A proof's vocabulary, which a contract cites: what both calls ask, 1, 7, the number of what else is handed in, and 18. Assumes nothing.
use Rattle.std.specs.Prelude.{ℕ, Result, Ok, Err}
use Rattle.outline.specs.Refusals.{or_else}
use Rattle.outline.specs.Refused.{refusal_number}
use Rattle.outline.specs.declared.Refusal.{Refusal}
use Rattle.runs.specs.declared.Run.{Run}
use Rattle.refusals.specs.Book.{Book}
use Rattle.sums.specs.declared.Sums.{Sums}
use Rattle.constants.specs.WorkOut.{span_of, record_refusal, years_refusal, not_worked_out, not_summed}
use Rattle.constants.specs.declared.Set.{Set}
use Rattle.constants.specs.declared.Summed.{Summed}
use Rattle.constants.specs.declared.WorkedOut.{WorkedOut}

unfoldable pub asked_refusal : Run → ℕ → Book → ℕ
asked_refusal r k cs = or_else (record_refusal r cs) (or_else k (years_refusal (span_of r cs)))

-- what is answered: a set, or a refusal's number with all figures 0
abbrev pub answered : Result Set Refusal → WorkedOut
answered (Ok s) = record { number = 0; constants = s.constants; departures = s.departures }
answered (Err e) = not_worked_out (refusal_number e)

-- the same of a calendar month's sums, with the years that they are over
abbrev pub answered_sums : Result (ℕ × Sums) Refusal → Summed
answered_sums (Ok p) = record { number = 0; years = p.0; sums = p.1 }
answered_sums (Err e) = not_summed (refusal_number e)
