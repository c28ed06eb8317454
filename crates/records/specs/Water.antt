-- Document 02, E6: a month's record has "a mark that it had no water". Assumes nothing.
use Rattle.std.specs.Prelude.{Bool}
use Rattle.records.specs.Ends.{amounts}
use Rattle.records.specs.declared.Record.{Record}

-- a month had water: its mark is 1, and 0, or any other number, where it had none
abbrev pub had_water : Record → Bool
had_water m = amounts m.water 1
