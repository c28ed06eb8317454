-- What a repair answers without the run's constants, put together with them. Assumes nothing.
use Rattle.std.specs.Prelude.{List, ℤ}
use Rattle.runs.specs.Progress.{run_of}
use Rattle.repair.specs.declared.Repaired.{Repaired}
use Rattle.repair.specs.declared.Tried.{Tried}

abbrev pub repaired_of : Tried → List ℤ → Repaired
repaired_of t k = record { number = t.number; changed = t.changed; run = run_of t.progress k }
