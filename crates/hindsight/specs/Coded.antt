-- A proof's vocabulary, which contracts cite: the sides as the code tells them; what an add leaves and answers, fact by fact; and the state
-- after a list of Z. Assumes nothing.
use Rattle.std.specs.Prelude.{List, [], ◌∷◌, ◌++◌, Bool, true, false, ◌≡◌, ℕ, suc, ℤ, drop, Option, None, Some}
use Rattle.hindsight.specs.Adding.{History, add_month, settled_count}
use Rattle.spells.specs.declared.With.{With}
use Rattle.spells.specs.declared.With.TheVariants.{X1, X2, X3}
use Rattle.hindsight.specs.declared.Side.{Side}
use Rattle.hindsight.specs.declared.Side.TheVariants.{First, Second}
use Rattle.hindsight.specs.Rule.{X, Row, value_on}

-- ---- the sides

-- "exactly one of X1, X2 nonzero gives the side": the side that a month gives alone, from whether X1 and whether X2 is nonzero
abbrev pub told : Bool → Bool → Option Side
told true true = None
told true false = Some First
told false true = Some Second
told false false = None

-- the side that the deciding month gives; by X3 none is asked for
abbrev pub side_by : With → Side
side_by X1 = First
side_by X2 = Second
side_by X3 = Second

-- "If it decides with X3, the month's index is its own X3. Otherwise .. the month's own value on that side."
abbrev pub value_by : With → Side → X → ℤ
value_by X1 s m = value_on s m
value_by X2 s m = value_on s m
value_by X3 s m = m.x3

-- ---- what an add leaves and answers

-- `held` is the history before the add, r the new month and `months` its place. The columns index₀ and mark₀ become index and mark, which hold
-- the history with the month added, and behind it what stood there. `opens` and `settled` are answered
pub record Adds (held : History) (r : Row) (months : ℕ) (index₀ index : List ℤ) (mark₀ mark : List ℕ) (opens settled : ℕ) : Type 0 where
  pub index_is : index ≡ (add_month held r).index ++ drop (suc months) index₀
  pub mark_is : mark ≡ (add_month held r).mark ++ drop (suc months) mark₀
  pub opens_is : opens ≡ (add_month held r).opens
  pub settled_is : settled ≡ settled_count held r

-- ---- months that come from a step: with a state S it makes a row of each Z (`rows_of`), and the next state

-- the state after a list of Z
abbrev pub state_of : {S Z : Type 0} → (S → Z → S) → S → List Z → S
state_of next s [] = s
state_of next s (z ∷ later) = state_of next (next s z) later
