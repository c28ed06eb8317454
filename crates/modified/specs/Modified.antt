-- Document 02, E4, "Second edition, the modified index": "Add the modified index of Heddinghaus and Sabol beside Palmer's: while a drought abates
-- it is (1 - p) X3 + p X1, while a wet spell abates (1 - p) X3 + p X2, with the month's new values, p = 1000 V / Q and not the printed percent;
-- elsewhere X3 if nonzero, else the larger in size of X1 and X2, X2 on a tie. Rounded once, nearest". Q is the one of the percent. Assumes nothing.
use Rattle.std.specs.Prelude.{Bool, true, false, cond, ℤ, pos, neg_ℤ, ◌+ℤ◌, ◌-ℤ◌, ◌*ℤ◌}
use Rattle.std.specs.Int.Signed.{lt_z}
use Rattle.exact.specs.Nearest.{nearest, clip}
use Rattle.outline.specs.Numbers.{weight_of_z, in_force_beyond}
use Rattle.ending.specs.Ending.{turn, q_of, Ending, steady, ended, abating, ending_of}
use Rattle.spells.specs.Spells.{provisional, step_of}
use Rattle.spells.specs.declared.Running.{Running}

-- (1 - p) a + p b with p = 1000 V / Q, as one fraction over Q: "Rounded once, nearest"
unfoldable pub mixed : ℤ → ℤ → ℤ → ℤ → ℤ
mixed v q a b = nearest ((q -ℤ pos weight_of_z *ℤ v) *ℤ a +ℤ pos weight_of_z *ℤ v *ℤ b) (clip q)

-- the side that it leans to: "X1" while a drought abates, "X2" while a wet spell does
unfoldable pub side : Bool → Running → ℤ
side false m = m.x1
side true m = m.x2

-- "with the month's new values", m; of the values before it, s, Q alone. A wet spell's V and Q have the sign turned, both, so that p is the same
unfoldable pub leaning : Bool → Running → Running → ℤ
leaning wet s m = mixed (turn wet m.v) (q_of (turn wet s.x3) (turn wet s.v)) m.x3 (side wet m)

-- "while .. abates"; "elsewhere X3 if nonzero, else ..", as document 01's provisional index has it
unfoldable pub modified_by : Ending → Bool → Running → Running → ℤ
modified_by abating wet s m = leaning wet s m
modified_by steady wet s m = provisional m
modified_by ended wet s m = provisional m

-- a month with a spell in force: a drought, or where `wet` a wet spell
unfoldable pub modified_in : Bool → Running → ℤ → ℤ
modified_in wet s z = modified_by (ending_of (turn wet s.x3) (turn wet s.v) (turn wet z)) wet s (step_of s z).after

-- the modified index of the month with this Z, of the running values before it
unfoldable pub modified_of : Running → ℤ → ℤ
modified_of s z =
    cond (lt_z s.x3 (neg_ℤ (pos in_force_beyond))) (modified_in false s z)
    (cond (lt_z (pos in_force_beyond) s.x3) (modified_in true s z) (provisional (step_of s z).after))
