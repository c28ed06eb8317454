-- A loop that goes over bytes one by one, and what it makes of them as a fold: what has been made so far, and the bytes still to come, make
-- the whole (`fold_more`, `fold-all`). Over any state and any step. Assumes nothing.
use mathlib.Core.Path.{◌≡◌, sym, ap, ◌∙◌}
use mathlib.Core.List.{List, foldl}
use Prim.Native.Nat.{ℕ, ◌+◌, ◌≤◌, ◌<◌}
use native.Mathlib.Numerals.{add-one}
use lib.ListN.{length, drop, get_or, drop_of_length-le}
use lib.Seq.{drop-cons}

module _ {S : Type 0} (step : S → ℕ → S) (bytes : List ℕ) (s w : S) (i : ℕ) where
  -- one byte more
  pub fold_more : i < length bytes → foldl step s (drop i bytes) ≡ w → foldl step (step s (get_or bytes i 0)) (drop (i + 1) bytes) ≡ w
  fold_more h e = rw add-one (sym (ap (foldl step s) (drop-cons bytes i 0 h)) ∙ e)

  -- none left
  pub fold-all : length bytes ≤ i → foldl step s (drop i bytes) ≡ w → s ≡ w
  fold-all h e = sym (ap (foldl step s) (drop_of_length-le bytes h)) ∙ e
