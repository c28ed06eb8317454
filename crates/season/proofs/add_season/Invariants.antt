use mathlib.Core.Path.{◌≡◌}
use Prim.Native.Nat.{◌+◌, ◌≤◌}
use lib.ListN.{drop}
use Rattle.refusals.specs.Lists.{held, SameLists}
use Rattle.refusals.specs.Good.{Good}
use Rattle.runs.specs.Progress.{run_of}
use Rattle.season.specs.Season.{season_result, add_each}
use Rattle.season.specs.SoFar.{season_of}
use Rattle.season.proofs.add_season.Given as goal

abbrev pub invariant-loop-i : goal.invariant-loop-i
invariant-loop-i l =
    (add_each (season_result (season_of l.s 0 l.constants) (held l.lists)) (drop l.i l.p) (drop l.i l.pe) ≡ add_each (season_result (season_of l.initial.s 0 l.constants) (held l.initial.lists)) l.p l.pe)
    × Good (run_of l.s.progress l.constants) (held l.lists)
    × (l.s.settled + l.s.progress.opens ≤ l.s.progress.months)
    × (l.s.added ≤ l.s.progress.months)
    × SameLists l.initial.lists l.lists
