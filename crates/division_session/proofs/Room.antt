-- What the program lends is enough, whatever the input. The idea: a line that is taken has a year of four digits, no less than the year that
-- had to follow, so the rows so far end a row before the room does, and no row is longer than that. Assumes nothing.
use mathlib.Core.Path.{◌≡◌, refl, sym, ◌∙◌}
use mathlib.Core.Bool.{Bool, true, false, cond, and-false}
use mathlib.Core.List.{List, [], ◌∷◌, map}
use Rattle.std.specs.Prelude.{Option, Some, None}
use Prim.Native.Nat.{ℕ, zero, suc, ◌+◌, ◌*◌, ◌/◌, ◌%◌, ◌≤◌, ◌<◌}
use native.Mathlib.Omega.{arith}
use lib.Dec.{leb, eqb}
use lib.ListN.{length, take, drop, length-append, length-take, length-drop, length-map}
use borrow.Author.Tests.{leb-true, eqb-true}
use Rattle.outline.proofs.Refusals.{holds_of}
use Rattle.text.specs.Bytes.{minus_sign, all_digits, natural}
use Rattle.text.proofs.Digits.{apart}
use Rattle.fields.specs.Columns.{year, values, months_of_year}
use Rattle.fields.specs.Field.{field_of}
use Rattle.fields.specs.Refusals.{another}
use Rattle.fields.specs.declared.Number.{Number}
use Rattle.fields.proofs.Naturals.{natural-small}
use Rattle.layout_months.specs.Months.{most_hundredths, is_mark, in_range, rain_of, month_said, month_of, months_of, is_present, amount_of, count_of}
use Rattle.layout_months.specs.declared.Month.{Month}
use Rattle.layout_months.specs.declared.Month.TheVariants.{Amount, Missing, Outside}
use Rattle.layout_months.proofs.Months.{months-twelve}
use Rattle.layout_heading.specs.Heading.{headed}
use Rattle.layout.specs.Rainfall.{is_line, rain_fits, is_named, is_year, refusal, year_said}
use Rattle.layout.proofs.Refusals.{number_is}
use Rattle.rows.specs.Text.{numeral, month_text, months_text, year_text}
use Rattle.rows.specs.Room.{laid, most_year}
use Rattle.rows.proofs.Digits.{numeral-length}
use Rattle.division_session.specs.ByLines.{expected}
use Rattle.division_session.specs.Session.{Session, Held, most_years, Closed, closed, row_text, closed_by, line_closed, last_closed}

-- ---- what is so of both ways is so
pub cond-so : {A : Type 0} (P : A → Type 0) (t : Bool) (x y : A) → P x → P y → P (cond t x y)
cond-so P true x y p q = p
cond-so P false x y p q = q

-- ---- a line that is taken has a year of four digits
year-by : (line : List ℕ) (t : Bool) → all_digits (year line) ≡ t → is_line line ≡ true → natural (year line) < most_years
unfolding is_line headed
year-by line true e h = natural-small (year line) (omega (arith, length-take 4 (drop 6 line))) e
year-by line false e h = absurd (apart (simp (e, and-false) at h))

accepted-by : (line : List ℕ) (s d y : ℕ) (a b c t : Bool) → is_line line ≡ a → rain_fits line ≡ b → is_named line s d ≡ c → is_year line y ≡ t → refusal line s d y ≡ 0 → y < most_years
unfolding refusal is_year
accepted-by line s d y true true true true e f g i h = omega (arith, year-by line _ refl e, eqb-true (natural (year line)) y i)
accepted-by line s d y true true true false e f g i h = absurd (omega (arith, rw (e, f, g, i) at h))
accepted-by line s d y true true false t e f g i h = absurd (omega (arith, rw (e, f, g) at h))
accepted-by line s d y true false c t e f g i h = absurd (omega (arith, rw (e, f) at h))
accepted-by line s d y false b c t e f g i h = absurd (omega (arith, rw e at h))

pub accepted-year : (line : List ℕ) (s d y : ℕ) → refusal line s d y ≡ 0 → y < most_years
accepted-year line s d y = accepted-by line s d y _ _ _ _ refl refl refl refl

-- ---- its row: a month has at most 100,000 thousandths, and at most twelve are present
rain-by : (minus : Bool) (n : ℕ) (t : Bool) → leb n most_hundredths ≡ t → amount_of (rain_of minus n) ≤ 100000
unfolding rain_of in_range
rain-by minus n true e =
    let small : Month → Type 0 = λ m. amount_of m ≤ 100000 in
    let h = leb-true n most_hundredths e in
    cond-so small (is_mark minus n) Missing _ (omega arith) (cond-so small (in_range minus n) (Amount (10 * n)) Outside (omega arith) (omega arith))
rain-by minus n false e = rw e (cond-so (λ m. amount_of m ≤ 100000) (is_mark minus n) Missing Outside (omega arith) (omega arith))

said-small : (f : Option Number) → amount_of (month_said f) ≤ 100000
said-small (Some n) = rain-by n.minus n.hundredths _ refl
said-small None = omega arith

month-short : (f : List ℕ) (bit : ℕ) → length (month_text (amount_of (month_of f)) bit) ≤ 10
unfolding month_text month_of
month-short f bit =
    let n = amount_of (month_of f) in
    cond-so (λ l. length l ≤ 10) (eqb bit 1) (numeral n) (minus_sign ∷ []) (numeral-length n (omega (arith, said-small (field_of f)))) (omega arith)

months-short : (fs : List (List ℕ)) (set : ℕ) → length (months_text (map amount_of (map month_of fs)) set) ≤ 11 * length fs
unfolding months_text
months-short [] set = omega arith
months-short (f ∷ fs) set = rw length-append (omega (arith, month-short f (set % 2), months-short fs (set / 2)))

count-short : (bs : List Bool) → count_of bs ≤ length bs
unfolding count_of
count-short [] = omega arith
count-short (true ∷ bs) = omega (arith, count-short bs)
count-short (false ∷ bs) = omega (arith, count-short bs)

told-short : (fs : List (List ℕ)) (y set : ℕ) → length (map month_of fs) ≡ months_of_year → y < most_years → length (year_text y (map amount_of (map month_of fs)) set (count_of (map is_present (map month_of fs)))) ≤ most_year
unfolding year_text
told-short fs y set l h =
    let bs = map is_present (map month_of fs) in
    let n : count_of bs ≤ months_of_year = omega (arith, count-short bs, length-map (map month_of fs) is_present) in
    simp length-append (omega (arith, length-map fs month_of, numeral-length y (omega arith), months-short fs set, numeral-length (count_of bs) (omega arith)))

pub row-short : (line : List ℕ) (s d y : ℕ) → refusal line s d y ≡ 0 → length (row_text (year_said line s d y) y) ≤ most_year
unfolding year_said months_of
row-short line s d y h = rw h (told-short (values line) y _ (months-twelve line) (accepted-year line s d y h))

-- ---- the rows so far leave room for one more
follows : (next : ℕ) (line : List ℕ) → next ≤ expected next line
unfolding expected
follows zero line = omega arith
follows (suc n) line = omega arith

laid-length : (text : List ℕ) (at : ℕ) (out : List ℕ) → at + length text ≤ length out → length (laid text at out) ≡ length out
laid-length text at out h = simp (length-append, length-take, length-drop) (omega arith)

-- what is held, of what a line closed leaves beside the line
abbrev pub HeldBy : List ℕ → Closed → Type 0
HeldBy line c = Held c.session line c.out

-- what is read of a line, and the year that it must have
abbrev read : Session → List ℕ → List ℕ
read s line = take s.kept line

abbrev year_for : Session → List ℕ → ℕ
year_for s line = expected s.next (read s line)

module _ (s : Session) (line out : List ℕ) (h : Held s line out) where
  pub room-for-row : refusal (take s.kept line) s.state s.division (expected s.next (take s.kept line)) ≡ 0 → s.end + most_year ≤ length out
  room-for-row e = omega (arith, accepted-year _ _ _ _ e, follows s.next (read s line))

  closed-by : (n : ℕ) → let year = year_said (read s line) s.state s.division (year_for s line) in year.number ≡ n → HeldBy line (closed_by n s out year (year_for s line))
  closed-by zero e =
      let taken = sym (number_is _ _ _ _) ∙ e in
      let year = year_said (read s line) s.state s.division (year_for s line) in
      let short = row-short _ _ _ _ taken in
      let left = room-for-row taken in
      omega (arith, accepted-year _ _ _ _ taken, follows s.next (read s line), laid-length (row_text year (year_for s line)) s.end out (omega arith))
  closed-by (suc k) e = cond-so (HeldBy line) (eqb (suc k) another) _ _ (omega arith) (omega arith)

  pub held-closed : HeldBy line (line_closed s (take s.kept line) out)
  unfolding line_closed
  held-closed = closed-by (year_said (read s line) s.state s.division (year_for s line)).number refl

-- ---- the end
pub held-last : (s : Session) (line out : List ℕ) → Held s line out → HeldBy line (last_closed s line out)
unfolding last_closed
held-last s line out h =
    holds_of (HeldBy line) s.refused _ (closed s out) (cond-so (HeldBy line) (eqb s.kept 0) (closed s out) _ h (held-closed s line out h)) h
