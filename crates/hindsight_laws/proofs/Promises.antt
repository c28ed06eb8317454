-- A step with a state in front of the adding, and that a promise of `add` leaves no choice. Assumes nothing.
use mathlib.Core.Path.{◌≡◌, refl, sym, ◌∙◌}
use mathlib.Core.List.{List, [], ◌∷◌}
use Prim.Native.Nat.{ℕ}
use lib.IntN.{ℤ}
use Rattle.hindsight.specs.Rule.{Row}
use Rattle.hindsight.specs.Adding.{History, fresh, add_month, add_to, add_all}
use Rattle.hindsight.specs.Columns.{rows_of}
use Rattle.hindsight.specs.Coded.{Adds}

-- months Z that a step with a state S turns into rows, one after another: adding them singly is adding the list of their rows,
-- so every theorem on `add_all` holds of them
module _ {S Z : Type 0} (next : S → Z → S) (row : S → Z → Row) where
  abbrev pub add_singly : S → History → List Z → History
  add_singly s run [] = run
  add_singly s run (z ∷ later) = add_singly (next s z) (add_month run (row s z)) later

  singly : (s : S) (run : History) (zs : List Z) → add_singly s run zs ≡ add_to run (rows_of next row s zs)
  singly s run [] = refl
  singly s run (z ∷ later) = singly (next s z) (add_month run (row s z)) later

  pub singly-all : (s : S) (zs : List Z) → add_singly s fresh zs ≡ add_all (rows_of next row s zs)
  singly-all s zs = singly s fresh zs

-- any two outcomes of an add that its promise allows are identical
pub adds_same : (run : History) (r : Row) (months : ℕ) (index₀ : List ℤ) (mark₀ : List ℕ) (i i' : List ℤ) (m m' : List ℕ) (o o' t t' : ℕ)
    → Adds run r months index₀ i mark₀ m o t → Adds run r months index₀ i' mark₀ m' o' t' → (i ≡ i') × (m ≡ m') × (o ≡ o') × (t ≡ t')
adds_same run r months index₀ mark₀ i i' m m' o o' t t' a b =
    (a.index_is ∙ sym b.index_is, a.mark_is ∙ sym b.mark_is, a.opens_is ∙ sym b.opens_is, a.settled_is ∙ sym b.settled_is)
