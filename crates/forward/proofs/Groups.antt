-- A group of open months, and the month that decides it: what is written of the group is what the forward rule says. Assumes nothing.
use mathlib.Core.Path.{◌≡◌, refl, sym, ap, ◌∙◌}
use mathlib.Core.List.{List, [], ◌∷◌, map}
use Prim.Native.Nat.{ℕ}
use lib.IntN.{ℤ, pos}
use Rattle.spells.specs.declared.Running.{Running}
use Rattle.spells.specs.declared.With.{With}
use Rattle.spells.specs.declared.With.TheVariants.{X1, X2, X3}
use Rattle.spells.specs.Spells.{step_of}
use Rattle.spells.proofs.Choices.{provisional-x3}
use Rattle.spell_laws.proofs.Theorems.{decides-nothing}
use Rattle.spell_laws.proofs.Reached.{open-values, none_stays}
use Rattle.hindsight.specs.declared.Side.{Side}
use Rattle.hindsight.specs.declared.Side.TheVariants.{First, Second}
use Rattle.hindsight.specs.Rule.{X, Row, side_from, nonzero, one_of, value_on}
use Rattle.hindsight.specs.Adding.{settled_all}
use Rattle.hindsight.specs.Columns.{rows_of}
use Rattle.hindsight.specs.Months.{next_values, row_of_z}
use Rattle.hindsight.specs.Coded.{state_of, side_by}
use Rattle.hindsight_laws.proofs.Hindsight.{x_of, shown_of, Wait}
use Rattle.sides.specs.Sides.{sides_of, code, codes, with_side}
use Rattle.forward.specs.Groups.{group_indexes}
use Rattle.std.specs.Prelude.{Some}

-- the rows of months from running values on, and the values after them
abbrev pub rows : Running → List ℤ → List Row
rows v zs = rows_of next_values row_of_z v zs

abbrev pub values_after : Running → List ℤ → Running
values_after v zs = state_of next_values v zs

-- ---- what a decision leaves of a group

pub by-sides : (by : With) (shown : List ℤ) (sides : List X) → (by ≡ X3 → ⊥) → group_indexes (Some by) shown sides ≡ settled_all (with_side (side_by by)) sides
by-sides X1 shown sides h = refl
by-sides X2 shown sides h = refl
by-sides X3 shown sides h = absurd (h refl)

pub by-x3 : (by : With) (shown : List ℤ) (sides : List X) → by ≡ X3 → group_indexes (Some by) shown sides ≡ shown
by-x3 X1 shown sides h = cc
by-x3 X2 shown sides h = cc
by-x3 X3 shown sides h = refl

-- ---- the sides: of months that decide nothing X1 and X2 are those of `sides_of`, and X3 has no part in it

abbrev without : X → X
without m = record { x1 = m.x1; x2 = m.x2; x3 = pos 0 }

open-sides : (v : Running) (zs : List ℤ) → Wait (rows v zs) → map without (map x_of (rows v zs)) ≡ sides_of v.x1 v.x2 zs
open-sides v [] w = refl
open-sides v (z ∷ zs) w = let e = open-values v z w.0 in rw (open-sides (next_values v z) zs w.1, e.0, e.1) refl

codes-without : (l : List X) → codes (map without l) ≡ codes l
codes-without [] = refl
codes-without (m ∷ l) = ap (λ (k : List ℕ). code m ∷ k) (codes-without l)

side-without : (l : List X) (s : Side) → side_from (map without l) s ≡ side_from l s
side-without [] s = refl
side-without (m ∷ l) s = ap (one_of (nonzero m.x1) (nonzero m.x2)) (side-without l s)

value-without : (s : Side) (m : X) → value_on s (without m) ≡ value_on s m
value-without First m = refl
value-without Second m = refl

settled-x1 : (l : List X) → settled_all X1 (map without l) ≡ settled_all X1 l
settled-x1 [] = refl
settled-x1 (m ∷ l) = rw (side-without (m ∷ l) First, value-without (side_from (m ∷ l) First) m, settled-x1 l) refl

settled-x2 : (l : List X) → settled_all X2 (map without l) ≡ settled_all X2 l
settled-x2 [] = refl
settled-x2 (m ∷ l) = rw (side-without (m ∷ l) Second, value-without (side_from (m ∷ l) Second) m, settled-x2 l) refl

-- ---- X3: what a month that decides with X3 comes from has X3 nonzero, and so on back, so each of the months before it shows its X3

x3-stands : (v : Running) (zs : List ℤ) (z : ℤ) → Wait (rows v zs) → (step_of (values_after v zs) z).decision ≡ Some X3
    → (v.x3 ≡ pos 0 → ⊥) × (settled_all X3 (map x_of (rows v zs)) ≡ map shown_of (rows v zs))
x3-stands v [] z w d = (λ e. (none_stays v z e).0 d, refl)
x3-stands v (y ∷ zs) z w d =
    let k = x3-stands (next_values v y) zs z w.1 d in
    let shown : (step_of v y).index ≡ (step_of v y).after.x3 = (decides-nothing v y w.0).0 ∙ provisional-x3 (next_values v y) k.0 in
    (λ e. k.0 ((none_stays v y e).1 w.0), rw (shown, k.1) refl)

-- ---- the group

module _ (v : Running) (zs : List ℤ) (wait : Wait (rows v zs)) where
  pub group-codes : codes (map x_of (rows v zs)) ≡ codes (sides_of v.x1 v.x2 zs)
  group-codes = sym (codes-without (map x_of (rows v zs))) ∙ ap codes (open-sides v zs wait)

  pub group-indexes : (z : ℤ) (w : With) → (step_of (values_after v zs) z).decision ≡ Some w
      → group_indexes (Some w) (map shown_of (rows v zs)) (sides_of v.x1 v.x2 zs) ≡ settled_all w (map x_of (rows v zs))
  group-indexes z X1 d = rw (← open-sides v zs wait) (settled-x1 (map x_of (rows v zs)))
  group-indexes z X2 d = rw (← open-sides v zs wait) (settled-x2 (map x_of (rows v zs)))
  group-indexes z X3 d = sym (x3-stands v zs z wait d).1
