-- The figures that Line describes, of what the code answers: those of a line, or a refusal, with every other figure 0. Assumes nothing.
use Rattle.std.specs.Prelude.{Result, Ok, Err}
use Rattle.outline.specs.declared.Refusal.{Refusal}
use Rattle.outline.specs.Refused.{refusal_number}
use Rattle.layout_figures.specs.declared.Figures.{Figures}
use Rattle.layout_figures.specs.Line.{refused}

abbrev pub figures_of : Result Figures Refusal → Figures
figures_of (Ok f) = f
figures_of (Err e) = refused (refusal_number e)
