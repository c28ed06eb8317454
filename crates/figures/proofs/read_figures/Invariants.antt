use Rattle.std.proofs.Common.{◌≡◌, take, map}
use Rattle.figures.specs.Figures.{figures_of, hundredths_of}
use Rattle.figures.specs.Steps.{seen_in}
use Rattle.figures.proofs.read_figures.Given as goal

abbrev pub invariant-loop-m : goal.invariant-loop-m
invariant-loop-m l =
    record {
      seen_so_far : l.seen ≡ seen_in (take l.m (figures_of l.line));
      hundredths_so_far : take l.m l.hundredths ≡ map hundredths_of (take l.m (figures_of l.line));
    }
