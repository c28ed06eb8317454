use Rattle.std.proofs.Common.{◌≡◌, take, map}
use Rattle.layout_months.specs.Months.{months_of, amount_of}
use Rattle.layout_months.specs.Steps.{found_in}
use Rattle.layout_months.proofs.read_months.Given as goal

abbrev pub invariant-loop-m : goal.invariant-loop-m
invariant-loop-m l =
    record {
      found_so_far : l.found ≡ found_in (take l.m (months_of l.line));
      amounts_so_far : take l.m l.amounts ≡ map amount_of (take l.m (months_of l.line));
    }
