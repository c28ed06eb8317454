-- A line month by month: the twelve months of a year, whether they fit, and a text laid field after field. Assumes nothing.
use mathlib.Core.Path.{◌≡◌, refl, sym, ap, ap₂, ◌∙◌}
use mathlib.Core.Bool.{Bool, true, false, ◌&&◌}
use mathlib.Core.List.{List, [], ◌∷◌, ◌++◌, append_assoc, append-nil}
use Prim.Native.Nat.{ℕ, zero, suc, ◌+◌, ◌-◌, ◌*◌, ◌≤◌, ◌<◌}
use native.Mathlib.Numerals.{add-one}
use native.Mathlib.Omega.{arith}
use lib.IntN.{pos, negsuc}
use lib.Dec.{leb, ltb}
use lib.ListN.{length, take, drop, get_or, drop_of_length-le}
use lib.Seq.{take_at, drop_at, drop-drop, drop-cons, take-suc}
use Rattle.fields.specs.Columns.{width, heading_columns, last_column, months_of_year}
use Rattle.fields.specs.Written.{field_text, value_text}
use Rattle.layout_heading.specs.Written.{heading_text}
use Rattle.refusals.specs.Book.{Book}
use Rattle.figures.specs.Figures.{figure_text, figures_text, figure_fits}
use Rattle.figures.specs.declared.Element.{Element}
use Rattle.figures.specs.declared.Figure.{Figure}
use Rattle.figures.specs.declared.Figure.TheVariants.{Value, Missing, Malformed}
use Rattle.sent_months.specs.Sent.{is_sent, row_sent, month_sent, year_sent}
use Rattle.sent_months.proofs.Holds.{IsSent}
use Rattle.sending.specs.Sending.{all_fit}

-- ---- the months of a year
module _ (e : Element) (cs : Book) (c months which : ℕ) where
  pub sent-at : (m : ℕ) → m < months_of_year → get_or (year_sent e cs c months which) m Malformed ≡ month_sent e cs c months which m
  sent-at zero h = refl
  sent-at (suc zero) h = refl
  sent-at (suc (suc zero)) h = refl
  sent-at (suc (suc (suc zero))) h = refl
  sent-at (suc (suc (suc (suc zero)))) h = refl
  sent-at (suc (suc (suc (suc (suc zero))))) h = refl
  sent-at (suc (suc (suc (suc (suc (suc zero)))))) h = refl
  sent-at (suc (suc (suc (suc (suc (suc (suc zero))))))) h = refl
  sent-at (suc (suc (suc (suc (suc (suc (suc (suc zero)))))))) h = refl
  sent-at (suc (suc (suc (suc (suc (suc (suc (suc (suc zero))))))))) h = refl
  sent-at (suc (suc (suc (suc (suc (suc (suc (suc (suc (suc zero)))))))))) h = refl
  sent-at (suc (suc (suc (suc (suc (suc (suc (suc (suc (suc (suc zero))))))))))) h = refl
  sent-at (suc (suc (suc (suc (suc (suc (suc (suc (suc (suc (suc (suc m)))))))))))) h = absurd (omega arith)

-- each is a value or missing
row_by : (e : Element) (cs : Book) (i : ℕ) (t : Bool) → is_sent e (get_or cs.mark i 0) ≡ t → IsSent (row_sent e cs i)
unfolding row_sent
row_by e cs i true p = rw p tt
row_by e cs i false p = rw p tt

month-by : (e : Element) (cs : Book) (c months which m : ℕ) (t : Bool) → (leb (c - 1) (12 * which + m) && ltb (12 * which + m - (c - 1)) months) ≡ t → IsSent (month_sent e cs c months which m)
unfolding month_sent
month-by e cs c months which m true p = rw p (row_by e cs _ _ refl)
month-by e cs c months which m false p = rw p tt

pub month-is-sent : (e : Element) (cs : Book) (c months which m : ℕ) → IsSent (month_sent e cs c months which m)
month-is-sent e cs c months which m = month-by e cs c months which m _ refl

-- ---- whether those that are left fit
module _ (fs : List Figure) (m : ℕ) where
  fits-left : m < length fs → drop m fs ≡ get_or fs m Malformed ∷ drop (m + 1) fs
  fits-left h = rw (add-one m) (drop-cons fs m Malformed h)

  pub fit_on : m < length fs → figure_fits (get_or fs m Malformed) ≡ true → all_fit (drop (m + 1) fs) ≡ all_fit (drop m fs)
  unfolding all_fit
  fit_on h e = rw (fits-left h, e) refl

  pub fit-off : m < length fs → figure_fits (get_or fs m Malformed) ≡ false → all_fit (drop m fs) ≡ false
  unfolding all_fit
  fit-off h e = rw (fits-left h, e) refl

  pub fit-end : length fs ≤ m → all_fit (drop m fs) ≡ true
  unfolding all_fit
  fit-end h = rw (drop_of_length-le fs h) refl

-- ---- the texts so far, and one more
texts-more : (fs : List Figure) (f : Figure) → figures_text (fs ++ f ∷ []) ≡ figures_text fs ++ figure_text f
unfolding figures_text
texts-more [] f = append-nil (figure_text f)
texts-more (g ∷ gs) f = ap (λ (t : List ℕ). figure_text g ++ t) (texts-more gs f) ∙ sym (append_assoc (figure_text g) (figures_text gs) (figure_text f))

pub texts-next : (fs : List Figure) (m : ℕ) → m < length fs → figures_text (take (m + 1) fs) ≡ figures_text (take m fs) ++ figure_text (get_or fs m Malformed)
texts-next fs m h = rw (add-one m) (ap figures_text (take-suc fs m Malformed h) ∙ texts-more (take m fs) (get_or fs m Malformed))

-- each has seven characters
pub seven : (f : Figure) → IsSent f → length (figure_text f) ≡ width
unfolding field_text value_text
seven (Value (pos n)) h = refl
seven (Value (negsuc n)) h = refl
seven Missing h = refl
seven Malformed h = absurd h

pub ten : (s d e y : ℕ) → length (heading_text s d e y) ≡ heading_columns
unfolding heading_text
ten s d e y = refl

-- ---- a field laid where the text so far ends, in a list whose rest is as it was
module _ (text field line : List ℕ) (at : ℕ) (long : length text ≡ at) where
  pub laid_next : take at (text ++ drop at line) ++ (field ++ drop (at + width - at) (drop at (text ++ drop at line))) ≡ (text ++ field) ++ drop (at + width) line
  laid_next =
      ap₂ (λ (a b : List ℕ). a ++ (field ++ drop (at + width - at) b)) (take_at text (drop at line) at long) (drop_at text (drop at line) at long)
      ∙ ap (λ (r : List ℕ). text ++ (field ++ r)) (drop-drop (at + width - at) at line ∙ ap (λ (n : ℕ). drop n line) (onward at))
      ∙ sym (append_assoc text field (drop (at + width) line))
    where
      onward : (at : ℕ) → at + (at + width - at) ≡ at + width
      onward at = omega arith

-- what is left after the last column, of a list whose first ten were written
pub last_rest : (heading line : List ℕ) → length heading ≡ heading_columns → drop last_column (heading ++ drop heading_columns line) ≡ drop last_column line
last_rest heading line h =
    sym (drop-drop 84 heading_columns (heading ++ drop heading_columns line))
    ∙ ap (drop 84) (drop_at heading (drop heading_columns line) heading_columns h)
    ∙ drop-drop 84 heading_columns line
