-- A figure as the code holds it: its text, and whether it fits, are the figure's own. Assumes nothing.
use mathlib.Core.Path.{◌≡◌, refl}
use mathlib.Core.Bool.{Bool, true, false, not, ◌&&◌}
use Prim.Native.Nat.{suc}
use lib.IntN.{pos, negsuc}
use lib.Dec.{eqb}
use Rattle.fields.specs.Written.{value_text, size_fits}
use Rattle.figures.specs.Figures.{mark_hundredths, is_mark, figure_text, figure_fits}
use Rattle.figures.specs.declared.Figure.{Figure}
use Rattle.figures.specs.declared.Figure.TheVariants.{Value, Missing, Malformed}
use Rattle.sent_months.specs.Signed.{sent_of, sent_text, sent_fits}

-- a figure that is sent is a value or missing
abbrev pub IsSent : Figure → Type 0
IsSent (Value h) = Unit {0}
IsSent Missing = Unit {0}
IsSent Malformed = ⊥

pub text-is : (f : Figure) → IsSent f → sent_text (sent_of f) ≡ figure_text f
unfolding value_text
text-is (Value (pos n)) h = refl
text-is (Value (negsuc n)) h = refl
text-is Missing h = refl
text-is Malformed h = absurd h

pub fits-is : (f : Figure) → IsSent f → sent_fits (sent_of f) ≡ figure_fits f
unfolding is_mark
fits-is (Value (pos n)) h = turned (size_fits false n) true
  where
    turned : (a b : Bool) → (b && a) ≡ (a && b)
    turned true true = refl
    turned true false = refl
    turned false true = refl
    turned false false = refl
fits-is (Value (negsuc n)) h = turned (size_fits true (suc n)) (not (eqb (suc n) mark_hundredths))
  where
    turned : (a b : Bool) → (b && a) ≡ (a && b)
    turned true true = refl
    turned true false = refl
    turned false true = refl
    turned false false = refl
fits-is Missing h = refl
fits-is Malformed h = absurd h
