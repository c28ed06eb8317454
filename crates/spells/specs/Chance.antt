-- A month of spells without its chance, which a whole series does not show. A proof's vocabulary, which contracts cite. Assumes nothing.
use Rattle.std.specs.Prelude.{Bool, true, false}
use Rattle.spells.specs.declared.SpellMonth.{SpellMonth}

abbrev pub without_chance : SpellMonth → SpellMonth
without_chance m = record { after = m.after; percent = 0; decision = m.decision; index = m.index }

-- a month as it is shown, with its chance or without
abbrev pub chance_shown : Bool → SpellMonth → SpellMonth
chance_shown true m = m
chance_shown false m = without_chance m
