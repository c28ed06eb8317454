-- Document 01, "Worked months", S1 to S6: the spells of single months and the running values, as rows. The crate
-- `demands` joins them with the water's rows to one table, and its one claim is that every row agrees. Assumes nothing.
use Rattle.std.specs.Prelude.{List, [], ◌∷◌, ℤ, pos}
use Rattle.exact.specs.Worked.{Row, ◌gives◌, minus}
use Rattle.spells.specs.declared.Running.{Running}
use Rattle.spells.specs.declared.SpellMonth.{SpellMonth}
use Rattle.spells.specs.Decisions.{decision_number}
use Rattle.spells.specs.Values.{fresh}
use Rattle.spells.specs.Spells.{step_of}

-- nothing is decided, and the month is open
abbrev nothing : ℤ
nothing = pos 0

abbrev with_x1 : ℤ
with_x1 = pos 1

-- "steady": the month decides with X3
abbrev with_x3 : ℤ
with_x3 = pos 3

abbrev decided : SpellMonth → ℤ
decided m = pos (decision_number m.decision)

abbrev chance : SpellMonth → ℤ
chance m = pos m.percent

-- "X3 .., others 0"
abbrev only : ℤ → Running
only x = record { x1 = pos 0; x2 = pos 0; x3 = x; v = pos 0 }

-- "S1: fresh: Z 2,999 makes X3 = 1,000; Z 2,998 makes X1 = 999, X3 = 0, settled."
unfoldable pub s1 : ℤ → SpellMonth
s1 z = step_of fresh z

-- "S2, S3: X3 -1,000, V 0"
unfoldable pub s23 : ℤ → SpellMonth
s23 z = step_of (only (minus 1000)) z

-- "S4: X3 -4,070, others 0; Z 3,590, -1,460, -1,600"
unfoldable pub s4-first : SpellMonth
s4-first = step_of (only (minus 4070)) (pos 3590)

unfoldable pub s4-second : SpellMonth
s4-second = step_of s4-first.after (minus 1460)

unfoldable pub s4-third : SpellMonth
s4-third = step_of s4-second.after (minus 1600)

-- "S5: then Z -1,130", "S6: instead Z 6,273"
unfoldable pub s56 : ℤ → SpellMonth
s56 z = step_of s4-third.after z

abbrev pub spell_table : List Row
spell_table =
    -- S1
    ((s1 (pos 2999)).after.x3 gives pos 1000)
    ∷ ((s1 (pos 2998)).after.x1 gives pos 999)
    ∷ ((s1 (pos 2998)).after.x3 gives pos 0)
    ∷ (decided (s1 (pos 2998)) gives with_x1)
    -- S2: "Z -150 is steady, -947"
    ∷ (decided (s23 (minus 150)) gives with_x3)
    ∷ ((s23 (minus 150)).after.x3 gives minus 947)
    -- "Z -149 is abating, X3 -947, X2 -50, percent 1"
    ∷ (decided (s23 (minus 149)) gives nothing)
    ∷ ((s23 (minus 149)).after.x3 gives minus 947)
    ∷ ((s23 (minus 149)).after.x2 gives minus 50)
    ∷ (chance (s23 (minus 149)) gives pos 1)
    -- S3: "Z 1,041 ends it, index 347"
    ∷ (chance (s23 (pos 1041)) gives pos 100)
    ∷ ((s23 (pos 1041)).after.x3 gives pos 0)
    ∷ ((s23 (pos 1041)).index gives pos 347)
    -- "Z 1,040 abates: X3 -550, X1 347, percent 99"
    ∷ (decided (s23 (pos 1040)) gives nothing)
    ∷ ((s23 (pos 1040)).after.x3 gives minus 550)
    ∷ ((s23 (pos 1040)).after.x1 gives pos 347)
    ∷ (chance (s23 (pos 1040)) gives pos 99)
    -- S4: "percent 40, 27, 12; X3 -2,454, -2,688, -2,944; X1 1,197, 587, 0; X2 0, -487, -970. All open."
    ∷ (chance s4-first gives pos 40)
    ∷ (chance s4-second gives pos 27)
    ∷ (chance s4-third gives pos 12)
    ∷ (s4-first.after.x3 gives minus 2454)
    ∷ (s4-second.after.x3 gives minus 2688)
    ∷ (s4-third.after.x3 gives minus 2944)
    ∷ (s4-first.after.x1 gives pos 1197)
    ∷ (s4-second.after.x1 gives pos 587)
    ∷ (s4-third.after.x1 gives pos 0)
    ∷ (s4-first.after.x2 gives pos 0)
    ∷ (s4-second.after.x2 gives minus 487)
    ∷ (s4-third.after.x2 gives minus 970)
    ∷ (decided s4-first gives nothing)
    ∷ (decided s4-second gives nothing)
    ∷ (decided s4-third gives nothing)
    -- S5: "steady, X3 -3,017"
    ∷ (decided (s56 (minus 1130)) gives with_x3)
    ∷ ((s56 (minus 1130)).after.x3 gives minus 3017)
    -- S6: "index 2,091"
    ∷ ((s56 (pos 6273)).index gives pos 2091)
    ∷ []
