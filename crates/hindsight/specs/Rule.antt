-- Document 01, "Hindsight": the rule that looks forward from a month. It knows nothing of runs. The document's sentences stand above the
-- definitions that say them. Assumes nothing.
use Rattle.std.specs.Prelude.{List, [], ◌∷◌, map, Bool, true, false, ℕ, zero, suc, ℤ, pos, negsuc, Option, None, Some}
use Rattle.spells.specs.declared.With.{With}
use Rattle.spells.specs.declared.With.TheVariants.{X1, X2, X3}
-- the two sides, X1's and X2's
use Rattle.hindsight.specs.declared.Side.{Side}
use Rattle.hindsight.specs.declared.Side.TheVariants.{First, Second}

-- a month's running values, as its three columns hold them
pub record X : Type 0 where
  pub x1 : ℤ
  pub x2 : ℤ
  pub x3 : ℤ

-- what one month's step gives: its running values, whether and with what it decides, and the index that it shows itself when it is added
-- (the provisional index of a month that does not decide; of one that does the new X3 if one was established, else its value on the deciding side)
pub record Row : Type 0 where
  pub x : X
  pub decision : Option With
  pub shown : ℤ

abbrev pub nonzero : ℤ → Bool
nonzero (pos zero) = false
nonzero (pos (suc n)) = true
nonzero (negsuc n) = true

-- "exactly one of X1, X2 nonzero gives the side"; otherwise it is s
abbrev pub one_of : Bool → Bool → Side → Side
one_of true true s = s
one_of true false s = First
one_of false true s = Second
one_of false false s = s

-- "the first month before the deciding one with exactly one of X1, X2 nonzero gives the side; with none, the deciding month gives it":
-- the months are those from the month itself and before the deciding one, and s is what the deciding month gives
abbrev pub side_from : List X → Side → Side
side_from [] s = s
side_from (m ∷ later) s = one_of (nonzero m.x1) (nonzero m.x2) (side_from later s)

-- the month's own value on a side
abbrev pub value_on : Side → X → ℤ
value_on First m = m.x1
value_on Second m = m.x2

-- the index of the month m, which a later month settles; `later` are the months after m and before the deciding one.
-- "If it decides with X3, the month's index is its own X3. Otherwise .. The index is the month's own value on that side."
abbrev pub settled_index : With → X → List X → ℤ
settled_index X1 m later = value_on (side_from (m ∷ later) First) m
settled_index X2 m later = value_on (side_from (m ∷ later) Second) m
settled_index X3 m later = m.x3

-- "A month's deciding month is the first from it onward that decides." Nobody, or, after the months before it, one that decides with w and shows the index i
pub data Deciding : Type 0 where
  nobody : Deciding
  after : List X → With → ℤ → Deciding

abbrev pub one_earlier : X → Deciding → Deciding
one_earlier m nobody = nobody
one_earlier m (after before w i) = after (m ∷ before) w i

abbrev pub deciding_for : Option With → Row → Deciding → Deciding
deciding_for None r d = one_earlier r.x d
deciding_for (Some w) r d = after [] w r.shown

abbrev pub deciding : List Row → Deciding
deciding [] = nobody
deciding (r ∷ later) = deciding_for r.decision r (deciding later)

-- what the two columns hold of a month
pub record Shown : Type 0 where
  pub mark : ℕ
  pub index : ℤ

-- "With none, the month is open" (mark 1, and its provisional index p). "The deciding month's own index is as above."
abbrev pub shown_by : ℤ → Deciding → Shown
shown_by p nobody = record { mark = 1; index = p }
shown_by p (after [] w i) = record { mark = 2; index = i }
shown_by p (after (m ∷ later) w i) = record { mark = 2; index = settled_index w m later }

-- the month r, followed by the months after it
abbrev pub forward_of : Row → List Row → Shown
forward_of r later = shown_by r.shown (deciding (r ∷ later))

-- THE FORWARD RULE at place i of all months so far (places that are no month's: mark 0)
abbrev pub forward : List Row → ℕ → Shown
forward [] i = record { mark = 0; index = pos 0 }
forward (r ∷ later) zero = forward_of r later
forward (r ∷ later) (suc i) = forward later i

-- the forward rule at each month in turn
abbrev pub forward_all : List Row → List Shown
forward_all [] = []
forward_all (r ∷ later) = forward_of r later ∷ forward_all later

-- the two columns that the forward rule fills
abbrev pub index_of : Shown → ℤ
index_of a = a.index

abbrev pub mark_of : Shown → ℕ
mark_of a = a.mark

abbrev pub forward_indexes : List Row → List ℤ
forward_indexes rows = map index_of (forward_all rows)

abbrev pub forward_marks : List Row → List ℕ
forward_marks rows = map mark_of (forward_all rows)
