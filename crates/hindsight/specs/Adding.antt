-- Document 01, "What can be asked": an add writes the new month's place, and index and mark of the open months that it settles. The rule
-- that adds months one by one, on the history of a run: what its columns hold of the months added so far. Assumes nothing.
use Rattle.std.specs.Prelude.{List, [], ◌∷◌, ◌++◌, ℕ, suc, ◌-◌, ℤ, length, take, drop, replicate, Option, None, Some}
use Rattle.spells.specs.declared.With.{With}
use Rattle.hindsight.specs.Rule.{X, Row, settled_index}

-- of the months so far: X1, X2 and X3 of each (`past`), its index, its mark, and how many of them, the last, are open
pub record History : Type 0 where
  pub past : List X
  pub index : List ℤ
  pub mark : List ℕ
  pub opens : ℕ

-- no month yet
abbrev pub fresh : History
fresh = record { past = []; index = []; mark = []; opens = 0 }

-- the indexes of open months, which stand directly before a month that decides with w
abbrev pub settled_all : With → List X → List ℤ
settled_all w [] = []
settled_all w (m ∷ later) = settled_index w m later ∷ settled_all w later

-- how many months are not open: the open ones come after them
abbrev pub kept : History → ℕ
kept held = length held.past - held.opens

-- a month that does not decide is one more open month. One that decides rewrites index and mark of the last open months, and writes its own
abbrev pub add_as : Option With → History → Row → History
add_as None held r =
    record {
      past = held.past ++ (r.x ∷ []);
      index = held.index ++ (r.shown ∷ []);
      mark = held.mark ++ (1 ∷ []);
      opens = suc held.opens;
    }
add_as (Some w) held r =
    record {
      past = held.past ++ (r.x ∷ []);
      index = take (kept held) held.index ++ (settled_all w (drop (kept held) held.past) ++ (r.shown ∷ []));
      mark = take (kept held) held.mark ++ (replicate held.opens 2 ++ (2 ∷ []));
      opens = 0;
    }

-- ADDING ONE MONTH
abbrev pub add_month : History → Row → History
add_month held r = add_as r.decision held r

-- what the add answers: "the open months before it plus one if it decides, else 0"
abbrev pub settled_as : Option With → ℕ → ℕ
settled_as None opens = 0
settled_as (Some w) opens = suc opens

abbrev pub settled_count : History → Row → ℕ
settled_count held r = settled_as r.decision held.opens

-- THE FOLD: months added one by one to a history; `add_all` to none
abbrev pub add_to : History → List Row → History
add_to held [] = held
add_to held (r ∷ later) = add_to (add_month held r) later

abbrev pub add_all : List Row → History
add_all rows = add_to fresh rows
