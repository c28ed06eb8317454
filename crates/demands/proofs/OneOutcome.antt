-- Any two outcomes that a promise of `drought`, of `season` or of `repair` allows are identical: each promise is an equation of the whole outcome with a definition of the
-- input. Assumes nothing.
use mathlib.Core.Path.{◌≡◌, sym, ap, ◌∙◌}
use mathlib.Core.List.{List}
use lib.IntN.{ℤ}
use Rattle.refusals.specs.Book.{Book}
use Rattle.adding.specs.Taken.{Result, result_of}
use Rattle.adding.specs.declared.Added.{Added}
use Rattle.drought.specs.declared.Shown.{Shown}
use Rattle.season.specs.Season.{SeasonResult, season_result}
use Rattle.season.specs.declared.Season.{Season}
use Rattle.repair.specs.Repair.{RepairResult, repair_result}
use Rattle.repair.specs.declared.Repaired.{Repaired}

-- an add: the answer with the run in it, and all that is lent
pub one-add : (said : Result) (a b : Added) (cs ds : Book) → result_of a cs ≡ said → result_of b ds ≡ said → (a ≡ b) × (cs ≡ ds)
one-add said a b cs ds p q = let e = p ∙ sym q in (ap (λ (r : Result). r.answer) e, ap (λ (r : Result). r.columns) e)

-- a row
pub one-row : (said a b : Shown) → a ≡ said → b ≡ said → a ≡ b
one-row said a b p q = p ∙ sym q

-- a season: the answer with the run in it, and all that is lent
pub one-season : (said : SeasonResult) (a b : Season) (cs ds : Book) → season_result a cs ≡ said → season_result b ds ≡ said → (a ≡ b) × (cs ≡ ds)
one-season said a b cs ds p q = let e = p ∙ sym q in (ap (λ (t : SeasonResult). t.answer) e, ap (λ (t : SeasonResult). t.columns) e)

-- a repair: the answer with the run in it, all that is lent, and the report
pub one-repair : (said : RepairResult) (a b : Repaired) (cs ds : Book) (k l : List (List ℤ)) → repair_result a cs k ≡ said → repair_result b ds l ≡ said → (a ≡ b) × (cs ≡ ds) × (k ≡ l)
one-repair said a b cs ds k l p q = let e = p ∙ sym q in (ap (λ (t : RepairResult). t.answer) e, ap (λ (t : RepairResult). t.columns) e, ap (λ (t : RepairResult). t.report) e)
