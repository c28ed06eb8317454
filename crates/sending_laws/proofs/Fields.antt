-- A line that was written, field by field: its heading, each of its twelve values, and what follows them. The idea: every figure that is sent has seven
-- characters, so the fields of the text are the texts of the figures. Assumes nothing.
use mathlib.Core.Path.{◌≡◌, refl, sym, ap, ◌∙◌}
use mathlib.Core.Bool.{true, and-eq-true_iff}
use mathlib.Core.List.{List, [], ◌∷◌, ◌++◌, append_assoc}
use Prim.Native.Nat.{ℕ, zero, suc, ◌+◌, ◌*◌, ◌<◌}
use native.Mathlib.Omega.{arith}
use lib.ListN.{length, take, drop, get_or, length-append}
use lib.Seq.{take_at, drop_at, drop-drop, ext_get_or}
use Rattle.fields.specs.Columns.{width, heading_columns, last_column, months_of_year, after}
use Rattle.layout_heading.specs.Written.{heading_text}
use Rattle.refusals.specs.Book.{Book}
use Rattle.figures.specs.Figures.{figure_of, figures_of, figure_text, figures_text, figure_fits}
use Rattle.figures.specs.declared.Element.{Element}
use Rattle.figures.specs.declared.Figure.{Figure}
use Rattle.figures.specs.declared.Figure.TheVariants.{Malformed}
use Rattle.figures.proofs.FigureLaws.{field, figures-twelve, figure-at}
use Rattle.figures.proofs.Inverse.{figure-back}
use Rattle.sent_months.specs.Sent.{year_sent}
use Rattle.sent_months.proofs.Holds.{IsSent}
use Rattle.sending.specs.Sending.{line_text, all_fit}
use Rattle.sending.proofs.Lines.{sent-at, month-is-sent, seven, ten}

-- ---- figures that are all sent
abbrev pub AllSent : List Figure → Type 0
AllSent fs = (m : ℕ) → m < length fs → IsSent (get_or fs m Malformed)

pub year-sent : (e : Element) (cs : Book) (c months which : ℕ) → AllSent (year_sent e cs c months which)
year-sent e cs c months which m h = rw (sent-at e cs c months which m h) (month-is-sent e cs c months which m)

rest-sent : (f : Figure) (fs : List Figure) → AllSent (f ∷ fs) → AllSent fs
rest-sent f fs a m h = a (suc m) (omega arith)

-- each of figures that all fit
pub each_fits : (fs : List Figure) → all_fit fs ≡ true → (m : ℕ) → m < length fs → figure_fits (get_or fs m Malformed) ≡ true
unfolding all_fit
each_fits [] a m h = absurd (omega arith)
each_fits (f ∷ fs) a zero h = ((and-eq-true_iff (figure_fits f) (all_fit fs)).0 a).0
each_fits (f ∷ fs) a (suc m) h = each_fits fs ((and-eq-true_iff (figure_fits f) (all_fit fs)).0 a).1 m (omega arith)

-- ---- the texts of figures, one after another
pub texts-long : (fs : List Figure) → AllSent fs → length (figures_text fs) ≡ width * length fs
unfolding figures_text
texts-long [] a = refl
texts-long (f ∷ fs) a = length-append (figure_text f) (figures_text fs) ∙ omega (arith, seven f (a 0 (omega arith)), texts-long fs (rest-sent f fs a))

text_at : (fs : List Figure) (rest : List ℕ) → AllSent fs → (m : ℕ) → m < length fs → take width (drop (width * m) (figures_text fs ++ rest)) ≡ figure_text (get_or fs m Malformed)
unfolding figures_text
text_at [] rest a m h = absurd (omega arith)
text_at (f ∷ fs) rest a zero h =
    ap (take width) (append_assoc (figure_text f) (figures_text fs) rest) ∙ take_at (figure_text f) (figures_text fs ++ rest) width (seven f (a 0 h))
text_at (f ∷ fs) rest a (suc m) h =
    ap (take width)
    (ap (λ (n : ℕ). drop n ((figure_text f ++ figures_text fs) ++ rest)) (onward m)
    ∙ sym (drop-drop (width * m) width ((figure_text f ++ figures_text fs) ++ rest))
    ∙ ap (drop (width * m)) (ap (drop width) (append_assoc (figure_text f) (figures_text fs) rest) ∙ drop_at (figure_text f) (figures_text fs ++ rest) width (seven f (a 0 (omega arith)))))
    ∙ text_at fs rest (rest-sent f fs a) m (omega arith)
  where
    onward : (m : ℕ) → width * suc m ≡ width + width * m
    onward m = omega arith

-- ---- a whole line
module _ (s d e y : ℕ) (fs : List Figure) (a : AllSent fs) (twelve : length fs ≡ months_of_year) where
  pub line-long : length (line_text s d e y fs) ≡ last_column
  unfolding line_text
  line-long = length-append (heading_text s d e y) (figures_text fs) ∙ omega (arith, ten s d e y, texts-long fs a)

  module _ (spaces : List ℕ) where
    abbrev whole : List ℕ
    whole = line_text s d e y fs ++ spaces

    pub after_is : after whole ≡ spaces
    after_is = drop_at (line_text s d e y fs) spaces last_column line-long

    pub field_is : (m : ℕ) → m < months_of_year → field whole m ≡ figure_text (get_or fs m Malformed)
    unfolding line_text
    field_is m h =
        ap (take width)
        (sym (drop-drop (width * m) heading_columns whole)
        ∙ ap (drop (width * m)) (ap (drop heading_columns) (append_assoc (heading_text s d e y) (figures_text fs) spaces) ∙ drop_at (heading_text s d e y) (figures_text fs ++ spaces) heading_columns (ten s d e y)))
        ∙ text_at fs spaces a m (omega (arith, twelve))

    -- what is written is read
    pub figures-are : all_fit fs ≡ true → figures_of whole ≡ fs
    figures-are f =
        ext_get_or Malformed (figures_of whole) fs (figures-twelve whole ∙ sym twelve)
        (λ m h. let b : m < months_of_year = omega (arith, figures-twelve whole) in figure-at whole m b ∙ ap figure_of (field_is m b) ∙ figure-back (get_or fs m Malformed) (each_fits fs f m (omega (arith, twelve))))
