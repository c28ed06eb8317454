-- A run without its constants, which no month changes: put together with them it is the run again. Assumes nothing.
use Rattle.std.specs.Prelude.{List, ℤ}
use Rattle.runs.specs.declared.Run.{Run}
use Rattle.runs.specs.declared.Progress.{Progress}

abbrev pub progress_of : Run → Progress
progress_of r = record { months = r.months; opens = r.opens; calendar = r.calendar; soil = r.soil; values = r.values }

abbrev pub run_of : Progress → List ℤ → Run
run_of s k = record { months = s.months; opens = s.opens; calendar = s.calendar; soil = s.soil; values = s.values; constants = k }
