-- A month of spells as hindsight has it, and the rows of a list of Z from a fresh run. Assumes nothing.
use Rattle.std.specs.Prelude.{ℕ, List, ℤ, Option, None, Some}
use Rattle.spells.specs.Spells.{step_of}
use Rattle.spells.specs.Values.{fresh}
use Rattle.spells.specs.declared.Running.{Running}
use Rattle.spells.specs.declared.SpellMonth.{SpellMonth}
use Rattle.hindsight.specs.Rule.{Row}
use Rattle.hindsight.specs.Columns.{rows_of}
use Rattle.spells.specs.declared.With.{With}

-- "mark (1 open, 2 settled)", of the month that decides so
abbrev pub mark_for : Option With → ℕ
mark_for None = 1
mark_for (Some w) = 2

-- a month of spells as a row
abbrev pub row_for : SpellMonth → Row
row_for s =
    record {
      x = record { x1 = s.after.x1; x2 = s.after.x2; x3 = s.after.x3 };
      decision = s.decision;
      shown = s.index;
    }

-- the rows of a list of Z, from running values on
abbrev pub next_values : Running → ℤ → Running
next_values v z = (step_of v z).after

abbrev pub row_of_z : Running → ℤ → Row
row_of_z v z = row_for (step_of v z)

abbrev pub rows_of_z : List ℤ → List Row
rows_of_z zs = rows_of next_values row_of_z fresh zs
