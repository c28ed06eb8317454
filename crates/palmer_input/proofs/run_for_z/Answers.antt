-- `palmer_input::run_for_z`: the run that `drought::start` gives (`for-z`). Assumes nothing.
use mathlib.Core.Path.{◌∙◌, ap}
use Rattle.starts.specs.declared.Started.{Started}
use Rattle.starts.proofs.Theorems.{for-z}
use Rattle.palmer_input.proofs.run_for_z.Goals as goal

pub returns : goal.returns
returns c = ap (λ (s : Started). s.run) (c.start-started.ensures ∙ for-z)
