-- What is written of a figure that fits is read as that figure: no value can be read as the mark, and the mark is. Assumes nothing.
use mathlib.Core.Path.{◌≡◌, refl, ap, ◌∙◌}
use mathlib.Core.Bool.{Bool, true, false, not, and-eq-true_iff}
use Prim.Native.Nat.{ℕ, suc}
use native.Mathlib.Omega.{arith}
use lib.IntN.{pos, negsuc}
use lib.Dec.{eqb}
use Rattle.fields.specs.Written.{value_text, size_fits}
use Rattle.fields.proofs.Inverse.{read_written}
use Rattle.figures.specs.Figures.{mark_hundredths, is_mark, figure_said, figure_of, figure_text, figure_fits}
use Rattle.figures.specs.declared.Figure.{Figure}
use Rattle.figures.specs.declared.Figure.TheVariants.{Value, Missing, Malformed}

pub figure-back : (f : Figure) → figure_fits f ≡ true → figure_of (figure_text f) ≡ f
unfolding figure_of value_text is_mark
figure-back (Value (pos n)) h = ap figure_said (read_written false n ((and-eq-true_iff (size_fits false n) true).0 h).0)
figure-back (Value (negsuc n)) h =
    let t = (and-eq-true_iff (size_fits true (suc n)) (not (eqb (suc n) mark_hundredths))).0 h in
    ap figure_said (read_written true (suc n) t.0) ∙ rw (not-true (eqb (suc n) mark_hundredths) t.1)
  where
    not-true : (b : Bool) → not b ≡ true → b ≡ false
    not-true false e = refl
    not-true true e = let z : ◌≡◌ {A = ℕ} 0 1 = cc in absurd (omega arith)
figure-back Missing h = ap figure_said (read_written true mark_hundredths refl)
figure-back Malformed h = let z : ◌≡◌ {A = ℕ} 0 1 = cc in absurd (omega arith)
