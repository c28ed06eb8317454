-- Document 01, "One month of spells": the index that a month shows; a month that is steady, abating or without a spell; and the month that
-- what is in force makes. What becomes of a spell in force is the crate `ending`'s. Assumes nothing.
use Rattle.std.specs.Prelude.{ℕ, Bool, true, false, cond, ℤ, pos, neg_ℤ, nat_abs, leb, Option, None, Some}
use Rattle.std.specs.Int.Signed.{le_z, lt_z}
use Rattle.exact.specs.Next.{next_of}
use Rattle.outline.specs.Numbers.{in_force_beyond, founds_from}
use Rattle.ending.specs.Ending.{turn, v_of, q_of, Ending, steady, ended, abating, ending_of, percent_of}
use Rattle.spells.specs.declared.Running.{Running}
use Rattle.spells.specs.declared.With.TheVariants.{X1, X2, X3}
use Rattle.spells.specs.declared.SpellMonth.{SpellMonth}
use Rattle.spells.specs.declared.With.{With}

-- ---- the index that a month shows

-- "larger of 0 and next(X1)", "smaller of 0 and next(X2)"
unfoldable pub raised : ℤ → ℤ
raised x = cond (le_z (pos 0) x) x (pos 0)

unfoldable pub lowered : ℤ → ℤ
lowered x = cond (le_z x (pos 0)) x (pos 0)

abbrev pub is_zero : ℤ → Bool
is_zero x = leb (nat_abs x) 0

-- "the larger in size of X1 and X2, X2 on a tie"
unfoldable pub larger_in_size : ℤ → ℤ → ℤ
larger_in_size x1 x2 = cond (leb (nat_abs x1) (nat_abs x2)) x2 x1

-- "An open month shows a provisional index, fixed when it was added: X3 if nonzero, else .."
unfoldable pub provisional : Running → ℤ
provisional s = cond (is_zero s.x3) (larger_in_size s.x1 s.x2) s.x3

-- ---- the month

-- "X3 = next(X3), X1 = X2 = V = 0, percent 0. This month decides with X3."
unfoldable pub steady_month : ℤ → ℤ → SpellMonth
steady_month x3 z =
    record {
      after = record { x1 = pos 0; x2 = pos 0; x3 = next_of x3 z; v = pos 0 };
      percent = 0;
      decision = Some X3;
      index = next_of x3 z;
    }

-- "X3 = next(X3), V kept, X1 = larger of 0 and next(X1), X2 = smaller of 0 and next(X2)."
unfoldable pub abating_values : Running → ℤ → ℤ → Running
abating_values s v z = record { x1 = raised (next_of s.x1 z); x2 = lowered (next_of s.x2 z); x3 = next_of s.x3 z; v = v }

-- "Nothing is decided."
unfoldable pub abating_month : Running → ℤ → ℤ → ℕ → SpellMonth
abating_month s v z percent =
    record {
      after = abating_values s v z;
      percent = percent;
      decision = None;
      index = provisional (abating_values s v z);
    }

-- "X3 = X1, then X1 = X2 = 0. Decides with X1; the index is the new X3." "likewise with X2"
unfoldable pub founded : ℤ → Option With → ℕ → SpellMonth
founded x d percent =
    record { after = record { x1 = pos 0; x2 = pos 0; x3 = x; v = pos 0 }; percent = percent; decision = d; index = x }

-- neither is founded: X1 and X2 stay, with the decision and the index
unfoldable pub unfounded : ℤ → ℤ → Option With → ℤ → ℕ → SpellMonth
unfounded x1 x2 d index percent =
    record { after = record { x1 = x1; x2 = x2; x3 = pos 0; v = pos 0 }; percent = percent; decision = d; index = index }

-- "X1 at least 1,000: ..
-- Else X2 at most -1,000: ..
-- Else X1 = 0: decides with X2. Else X2 = 0: decides with X1. Else nothing is decided."
unfoldable pub tried : ℤ → ℤ → ℕ → SpellMonth
tried x1 x2 percent =
    cond (le_z (pos founds_from) x1) (founded x1 (Some X1) percent)
    (cond (le_z x2 (neg_ℤ (pos founds_from))) (founded x2 (Some X2) percent)
    (cond (is_zero x1) (unfounded x1 x2 (Some X2) x2 percent)
    (cond (is_zero x2) (unfounded x1 x2 (Some X1) x1 percent)
    (unfounded x1 x2 None (larger_in_size x1 x2) percent))))

-- "No spell, or one just ended: X1 and X2 as in "abating"; percent 0 unless just ended."
unfoldable pub no_spell : Running → ℤ → ℕ → SpellMonth
no_spell s z percent = tried (raised (next_of s.x1 z)) (lowered (next_of s.x2 z)) percent

unfoldable pub ending_month : Ending → Bool → Running → ℤ → SpellMonth
ending_month steady wet s z = steady_month s.x3 z
ending_month ended wet s z = no_spell s z 100
ending_month abating wet s z =
    abating_month s (turn wet (v_of (turn wet s.v) (turn wet z))) z
    (percent_of (v_of (turn wet s.v) (turn wet z)) (q_of (turn wet s.x3) (turn wet s.v)))

-- a month with a spell in force: a drought, or where `wet` a wet spell
unfoldable pub in_force : Bool → Running → ℤ → SpellMonth
in_force wet s z = ending_month (ending_of (turn wet s.x3) (turn wet s.v) (turn wet z)) wet s z

-- "A drought is in force if last month's X3 is below -500, a wet spell if above 500. Otherwise there is none, and X3 and V are read as 0."
unfoldable pub step_of : Running → ℤ → SpellMonth
step_of s z = cond (lt_z s.x3 (neg_ℤ (pos in_force_beyond))) (in_force false s z) (cond (lt_z (pos in_force_beyond) s.x3) (in_force true s z) (no_spell s z 0))
