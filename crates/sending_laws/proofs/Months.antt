-- What a month sends: nothing that is not settled, every row once, and its calendar month. Assumes nothing.
use mathlib.Core.Path.{◌≡◌, refl, ap, ◌∙◌}
use mathlib.Core.Bool.{Bool, true, false, cond, ◌&&◌}
use mathlib.Core.List.{List}
use Prim.Native.Nat.{ℕ, ◌+◌, ◌-◌, ◌*◌, ◌/◌, ◌%◌, ◌≤◌, ◌<◌}
use native.Mathlib.Omega.{arith}
use lib.IntN.{ℤ, pos}
use lib.Dec.{eqb, leb, ltb}
use lib.ListN.{length, get_or}
use borrow.Author.Tests.{ne_eqb, eqb-true, le-leb, lt-ltb, leb-true, ltb-true}
use Rattle.outline.specs.Numbers.{last_month}
use Rattle.runs.specs.declared.Run.{Run}
use Rattle.refusals.specs.Book.{Book, book}
use Rattle.refusals.specs.Refusals.{run_refusal}
use Rattle.reopening.specs.Before.{calendar_back}
use Rattle.years.specs.Years.{calendar_first}
use Rattle.figures.specs.declared.Element.{Element}
use Rattle.figures.specs.declared.Element.TheVariants.{Index}
use Rattle.figures.specs.declared.Figure.{Figure}
use Rattle.figures.specs.declared.Figure.TheVariants.{Missing}
use Rattle.sent_months.specs.Sent.{nearest_hundredths, row_sent, month_sent}
use Rattle.sending.specs.Sending.{year_of, line_refusal, write_line}
use Rattle.sending_laws.specs.SentOut.{Settled, Rows}

-- ---- nothing unsettled
not-settled : (cs : Book) (i : ℕ) → (get_or cs.mark i 0 ≡ 2 → ⊥) → row_sent Index cs i ≡ Missing
unfolding row_sent
not-settled cs i h = rw (ne_eqb (get_or cs.mark i 0) 2 h) refl

-- other indexes, that agree where a month is settled
module _ (cs : Book) (index : List ℤ) (agree : (i : ℕ) → get_or cs.mark i 0 ≡ 2 → get_or index i (pos 0) ≡ get_or cs.index i (pos 0)) where
  abbrev other : Book
  other = book cs.x1 cs.x2 cs.x3 index cs.mark cs.records cs.v

  row_by : (i : ℕ) (t : Bool) → eqb (get_or cs.mark i 0) 2 ≡ t → row_sent Index other i ≡ row_sent Index cs i
  unfolding row_sent
  row_by i true e = rw e (ap nearest_hundredths (agree i (eqb-true (get_or cs.mark i 0) 2 e)))
  row_by i false e = rw e refl

  month-same : (c months which m : ℕ) → month_sent Index other c months which m ≡ month_sent Index cs c months which m
  unfolding month_sent
  month-same c months which m =
      ap (λ (f : Figure). cond (leb (c - 1) (last_month * which + m) && ltb (last_month * which + m - (c - 1)) months) f Missing)
      (row_by (last_month * which + m - (c - 1)) (eqb (get_or cs.mark (last_month * which + m - (c - 1)) 0) 2) refl)

  year-same : (r : Run) (which : ℕ) → year_of r Index which other ≡ year_of r Index which cs
  year-same r which =
      let same = month-same (calendar_first r) r.months which in
      rw (same 0, same 1, same 2, same 3, same 4, same 5, same 6, same 7, same 8, same 9, same 10, same 11) refl

  same-refusal : (r : Run) → length index ≡ length cs.index → run_refusal r other ≡ run_refusal r cs
  unfolding run_refusal
  same-refusal r l = rw l refl

  same_line : (r : Run) (s d y which : ℕ) (line : List ℕ) → length index ≡ length cs.index → write_line r Index s d y which other line ≡ write_line r Index s d y which cs line
  unfolding write_line line_refusal
  same_line r s d y which line l = rw (same-refusal r l, year-same r which) refl

pub nothing-unsettled : Settled
nothing-unsettled = record { unsettled = not-settled; nothing = λ r s d y which cs index line l agree. same_line cs index agree r s d y which line l }

-- ---- which month stands where
module _ (e : Element) (cs : Book) (c months : ℕ) where
  every-row : (i : ℕ) → i < months → month_sent e cs c months ((c - 1 + i) / last_month) ((c - 1 + i) % last_month) ≡ row_sent e cs i
  unfolding month_sent
  every-row i h = rw (whole (c - 1 + i), le-leb (c - 1) (c - 1 + i) (omega arith), less (c - 1) i, lt-ltb i months h) refl
    where
      whole : (p : ℕ) → last_month * (p / last_month) + p % last_month ≡ p
      whole p = omega arith

      less : (a i : ℕ) → a + i - a ≡ i
      less a i = omega arith

  no_row : (which m : ℕ) (s t : Bool) → leb (c - 1) (last_month * which + m) ≡ s → ltb (last_month * which + m - (c - 1)) months ≡ t → ((i : ℕ) → i < months → c - 1 + i ≡ last_month * which + m → ⊥) → month_sent e cs c months which m ≡ Missing
  unfolding month_sent
  no_row which m false t p q h = rw p refl
  no_row which m true false p q h = rw (p, q) refl
  no_row which m true true p q h =
      absurd (h (last_month * which + m - (c - 1)) (ltb-true (last_month * which + m - (c - 1)) months q) (back (c - 1) (last_month * which + m) (leb-true (c - 1) (last_month * which + m) p)))
    where
      back : (a p : ℕ) → a ≤ p → a + (p - a) ≡ p
      back a p l = omega arith

-- whole years later is the same month
years-on : (b n : ℕ) → (b + 12 * n) % 12 ≡ b % 12
years-on b n = omega arith

-- i + k as whole years and a rest, and k so too
by-rests : (c i k q u w v : ℕ) → q ≤ 11 → w ≤ 11 → 12 * u + q ≡ i + k → 12 * v + w ≡ k → c + 11 - q + i ≡ c + 11 - w + 12 * (u - v)
by-rests c i k q u w v p r e f = omega arith

level : (c i k : ℕ) → (c + 11 - (i + k) % 12 + i) % 12 ≡ (c + 11 - k % 12) % 12
level c i k = ap (λ (n : ℕ). n % 12) (by-rests c i k ((i + k) % 12) ((i + k) / 12) (k % 12) (k / 12) (low (i + k)) (low k) (whole (i + k)) (whole k)) ∙ years-on (c + 11 - k % 12) ((i + k) / 12 - k / 12)
  where
    low : (n : ℕ) → n % 12 ≤ 11
    low n = omega arith

    whole : (n : ℕ) → 12 * (n / 12) + n % 12 ≡ n
    whole n = omega arith

shift : (x i : ℕ) → (x % 12 + 1 - 1 + i) % 12 ≡ (x + i) % 12
shift x i = omega arith

row-month : (r : Run) (i : ℕ) → i ≤ r.months → (calendar_first r - 1 + i) % last_month + 1 ≡ calendar_back r.calendar (r.months - i)
unfolding calendar_back
row-month r i l =
    ap (λ (n : ℕ). n + 1)
    (shift (r.calendar + 11 - r.months % 12) i ∙ ap (λ (m : ℕ). (r.calendar + 11 - m % 12 + i) % 12) (parted r.months i l) ∙ level r.calendar i (r.months - i))
  where
    parted : (m i : ℕ) → i ≤ m → m ≡ i + (m - i)
    parted m i l = omega arith

pub every-month : Rows
every-month = record { every = every-row; outside = λ e cs c months which m. no_row e cs c months which m _ _ refl refl; calendar = row-month }
