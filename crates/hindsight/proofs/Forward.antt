-- The forward rule at each month in turn is the forward rule at each place. Assumes nothing.
use mathlib.Core.Path.{◌≡◌, refl, ap}
use mathlib.Core.List.{List, [], ◌∷◌, map}
use Prim.Native.Nat.{ℕ, zero, suc}
use lib.IntN.{pos}
use lib.ListN.{length, get_or}
use Rattle.hindsight.specs.Rule.{Row, forward, forward_all}

pub length-forward_all : (l : List Row) → length (forward_all l) ≡ length l
length-forward_all [] = refl
length-forward_all (r ∷ l) = ap suc (length-forward_all l)

pub get_d-forward_all : (rows : List Row) (i : ℕ) → get_or (forward_all rows) i (record { mark = 0; index = pos 0 }) ≡ forward rows i
get_d-forward_all [] i = refl
get_d-forward_all (r ∷ rows) zero = refl
get_d-forward_all (r ∷ rows) (suc i) = get_d-forward_all rows i

pub get_d_map : {A B : Type 0} (f : A → B) (l : List A) (i : ℕ) (d : A) → get_or (map f l) i (f d) ≡ f (get_or l i d)
get_d_map f [] i d = refl
get_d_map f (x ∷ l) zero d = refl
get_d_map f (x ∷ l) (suc i) d = get_d_map f l i d
