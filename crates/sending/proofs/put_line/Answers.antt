-- `sending::put_line`: the text so far, and the rest of the list as it was. Assumes nothing.
use mathlib.Core.Path.{◌≡◌, refl, sym, ap, ap₂, ◌∙◌}
use mathlib.Core.List.{List, ◌++◌, append_assoc, append-nil}
use Prim.Native.Nat.{ℕ, ◌+◌, ◌-◌, ◌*◌, ◌≤◌, ◌<◌}
use native.Mathlib.Omega.{arith}
use lib.ListN.{length, take, drop, get_or, length-append, length-drop}
use lib.Seq.{length-take-le, drop_at}
use borrow.Rule.Slice.PartMut.{same_len_mid}
use Rattle.fields.specs.Columns.{heading_columns, width, last_column, months_of_year}
use Rattle.layout_heading.specs.Written.{heading_text}
use Rattle.refusals.specs.Lists.{read}
use Rattle.figures.specs.Figures.{figure_text, figures_text}
use Rattle.figures.specs.declared.Figure.{Figure}
use Rattle.figures.specs.declared.Figure.TheVariants.{Malformed}
use Rattle.sent_months.specs.Sent.{month_sent, year_sent}
use Rattle.sent_months.specs.Signed.{sent_text}
use Rattle.sent_months.specs.declared.SentYear.{SentYear}
use Rattle.sent_months.proofs.Holds.{text-is}
use Rattle.sending.specs.Sending.{line_text}
use Rattle.sending.proofs.Lines.{sent-at, month-is-sent, texts-next, seven, ten, laid_next, last_rest}
use Rattle.sending.proofs.put_line.Goals as goal
use Rattle.sending.proofs.put_line.Goals.{After-month}

-- the months of the year
abbrev year : SentYear → List Figure
year s = year_sent s.element (read s.rows) s.calendar s.months s.which

-- the heading as it was written, and the list then
module _ (h line : List ℕ) (state division number year : ℕ) (h-is : h ≡ heading_text state division number year) (room : last_column ≤ length line) where
  heading-ten : length h ≡ heading_columns
  heading-ten = ap length h-is ∙ ten state division number year

  begun-long : length (h ++ drop heading_columns line) ≡ length line
  begun-long = length-append h (drop heading_columns line) ∙ omega (arith, heading-ten, length-drop heading_columns line, room)

-- what a month is written as
month-text : (t : After-month) → sent_text t.month.result ≡ figure_text (get_or (year t.args.sent.now) t.loop-m.m Malformed)
month-text t =
    let s = t.args.sent.now in
    ap sent_text t.month.ensures ∙ text-is (month_sent s.element (read s.rows) s.calendar s.months s.which t.loop-m.m) (month-is-sent s.element (read s.rows) s.calendar s.months s.which t.loop-m.m)
    ∙ ap figure_text (sym (sent-at s.element (read s.rows) s.calendar s.months s.which t.loop-m.m t.loop-m-test.true))

month-seven : (t : After-month) → length (figure_text (get_or (year t.args.sent.now) t.loop-m.m Malformed)) ≡ width
month-seven t =
    let s = t.args.sent.now in
    rw (sent-at s.element (read s.rows) s.calendar s.months s.which t.loop-m.m t.loop-m-test.true)
    (seven (month_sent s.element (read s.rows) s.calendar s.months s.which t.loop-m.m) (month-is-sent s.element (read s.rows) s.calendar s.months s.which t.loop-m.m))

-- ---- one month more
one_more : (m : ℕ) → heading_columns + width * m + width ≡ heading_columns + width * (m + 1)
one_more m = omega arith

module _ (h line : List ℕ) (fs : List Figure) (m : ℕ) (b : m < length fs) (long : length (h ++ figures_text (take m fs)) ≡ heading_columns + width * m) (seven : length (figure_text (get_or fs m Malformed)) ≡ width) where
  abbrev so_far : List ℕ
  so_far = h ++ figures_text (take m fs)

  text-next : so_far ++ figure_text (get_or fs m Malformed) ≡ h ++ figures_text (take (m + 1) fs)
  text-next = append_assoc h (figures_text (take m fs)) (figure_text (get_or fs m Malformed)) ∙ ap (λ (t : List ℕ). h ++ t) (sym (texts-next fs m b))

  long-next : length (h ++ figures_text (take (m + 1) fs)) ≡ heading_columns + width * (m + 1)
  long-next = sym (ap length text-next) ∙ length-append so_far (figure_text (get_or fs m Malformed)) ∙ omega arith

  line-next : let at = heading_columns + width * m in take at (so_far ++ drop at line) ++ (figure_text (get_or fs m Malformed) ++ drop (at + width - at) (drop at (so_far ++ drop at line))) ≡ (h ++ figures_text (take (m + 1) fs)) ++ drop (heading_columns + width * (m + 1)) line
  line-next =
      laid_next so_far (figure_text (get_or fs m Malformed)) line (heading_columns + width * m) long
      ∙ ap₂ (λ (t : List ℕ) (n : ℕ). t ++ drop n line) text-next (one_more m)

pub slice_bounds-write-end : goal.slice_bounds-write-end
slice_bounds-write-end c = omega (arith, c.requires.last_column_in_bounds)

pub write-requires : goal.write-requires
write-requires c = length-take-le heading_columns c.args.line.now (omega (arith, c.requires.last_column_in_bounds))

pub loop-m-init : goal.loop-m-init
unfolding figures_text
loop-m-init c =
    let a = c.args in
    let g = a.heading in
    let h = heading_text g.state g.division g.element g.year in
    let e = c.write.ensures in
    let t = heading-ten c.write.new.heading a.line.now g.state g.division g.element g.year e c.requires.last_column_in_bounds in record {
      same_room = refl;
      text_long = ap length (append-nil h) ∙ sym (ap length e) ∙ t;
      text_laid = ap₂ (λ (h r : List ℕ). h ++ r) (e ∙ sym (append-nil h)) (sym (drop_at c.write.new.heading (drop heading_columns a.line.now) heading_columns t));
    }

-- the list stays as long as it was
line-long : (h line l : List ℕ) (state division number year : ℕ) → h ≡ heading_text state division number year → last_column ≤ length line → length l ≡ length (h ++ drop heading_columns line) → last_column ≤ length l
line-long h line l state division number year h-is room e = omega (arith, e, begun-long h line state division number year h-is room)

pub slice_bounds-write_sent-end : goal.slice_bounds-write_sent-end
slice_bounds-write_sent-end c =
    let a = c.args in
    let g = a.heading in
    omega (arith, c.loop-m-test.true, line-long c.write.new.heading a.line.now c.loop-m.line g.state g.division g.element g.year c.write.ensures c.requires.last_column_in_bounds c.loop-m.invariant.same_room)

pub write_sent-requires : goal.write_sent-requires
write_sent-requires c =
    let a = c.args in
    let g = a.heading in
    let k = heading_columns + width * c.loop-m.m in
    let long = line-long c.write.new.heading a.line.now c.loop-m.line g.state g.division g.element g.year c.write.ensures c.requires.last_column_in_bounds c.loop-m.invariant.same_room in
    rw (part-seven k) (length-take-le width (drop k c.loop-m.line) (omega (arith, length-drop k c.loop-m.line, c.loop-m-test.true, long)))
  where
    part-seven : (k : ℕ) → k + width - k ≡ width
    part-seven k = omega arith

pub loop-m-preserved : goal.loop-m-preserved
loop-m-preserved c =
    let a = c.args in
    let g = a.heading in
    let t = (goal.at.loop-m-preserved c).After-month in
    let y = year a.sent.now in
    let h = heading_text g.state g.division g.element g.year in
    let begun = c.write.new.heading ++ drop heading_columns a.line.now in
    let m = c.loop-m.m in
    let k = heading_columns + width * m in
    let b : m < months_of_year = c.loop-m-test.true in record {
      same_room = same_len_mid k (k + width - k) c.loop-m.line c.write_sent.new.field c.write_sent.auto.field ∙ c.loop-m.invariant.same_room;
      text_long = long-next h begun y m b c.loop-m.invariant.text_long (month-seven t);
      text_laid = ap₂ (λ (l f : List ℕ). take k l ++ (f ++ drop (k + width - k) (drop k l))) c.loop-m.invariant.text_laid (c.write_sent.ensures ∙ month-text t)
          ∙ line-next h begun y m b c.loop-m.invariant.text_long (month-seven t);
    }

pub shape_of-line : goal.shape_of-line
shape_of-line c =
    let a = c.args in
    let g = a.heading in
    c.loop-m.invariant.same_room ∙ begun-long c.write.new.heading a.line.now g.state g.division g.element g.year c.write.ensures c.requires.last_column_in_bounds

pub returns : goal.returns
unfolding line_text
returns c =
    let a = c.args in
    let g = a.heading in
    let m-is : c.loop-m.m ≡ months_of_year = omega (arith, c.loop-m-test.false) in
    (rw m-is at c.loop-m.invariant.text_laid)
    ∙ ap (λ (r : List ℕ). (heading_text g.state g.division g.element g.year ++ figures_text (year a.sent.now)) ++ r)
    (last_rest c.write.new.heading a.line.now (heading-ten c.write.new.heading a.line.now g.state g.division g.element g.year c.write.ensures c.requires.last_column_in_bounds))
