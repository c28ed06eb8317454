-- `figures::read_figures`: what is seen so far is what is seen in the months so far, and the hundredths so far are theirs. Assumes nothing.
use mathlib.Core.Path.{◌≡◌, refl, sym, ap, ◌∙◌}
use mathlib.Core.Bool.{false}
use mathlib.Core.List.{List, [], ◌∷◌, ◌++◌, map, map-append}
use Prim.Native.Nat.{ℕ, ◌+◌, ◌-◌, ◌*◌, ◌^◌, ◌%◌, ◌≤◌, ◌<◌}
use native.Mathlib.Numerals.{add-one}
use native.Mathlib.Omega.{arith}
use lib.IntN.{ℤ}
use lib.ListN.{length, take, drop, set}
use lib.Pow.{pow_mono}
use mir.Syntax.{w32}
use mir.Facts.{to_z-of_z}
use lib.Seq.{take-suc, take-suc-set, take_all, length-take-le}
use Rattle.fields.specs.Columns.{heading_columns, months_of_year, width}
use Rattle.layout_months.specs.Months.{some, set_of}
use Rattle.figures.specs.Figures.{figure_said, figure_of, figures_of, hundredths_of}
use Rattle.figures.specs.Steps.{seen_in, and_figure}
use Rattle.figures.specs.declared.Seen.{Seen}
use Rattle.figures.specs.declared.Figure.{Figure}
use Rattle.figures.specs.declared.Figure.TheVariants.{Malformed}
use Rattle.figures.proofs.FigureLaws.{field-small, figures-twelve, field, figure-at, seen_more, seen_below}
use Rattle.figures.proofs.read_figures.Goals as goal
use Rattle.figures.proofs.read_figures.Goals.{After-read_field}

-- ---- the months so far, and one more
module _ (line : List ℕ) (m : ℕ) (h : m < months_of_year) where
  so-many : length (take m (figures_of line)) ≡ m
  so-many = length-take-le m (figures_of line) (omega (arith, figures-twelve line))

  next : take (m + 1) (figures_of line) ≡ take m (figures_of line) ++ figure_of (field line m) ∷ []
  next =
      rw (add-one m)
      (take-suc (figures_of line) m Malformed (omega (arith, figures-twelve line)) ∙ ap (λ (x : Figure). take m (figures_of line) ++ x ∷ []) (figure-at line m h))

  seen_next : and_figure (seen_in (take m (figures_of line))) (figure_of (field line m)) (2 ^ m) ≡ seen_in (take (m + 1) (figures_of line))
  seen_next =
      ap (λ (n : ℕ). and_figure (seen_in (take m (figures_of line))) (figure_of (field line m)) (2 ^ n)) (sym so-many)
      ∙ seen_more (take m (figures_of line)) (figure_of (field line m)) ∙ ap seen_in (sym next)

  values-next : (a : List ℤ) → length a ≡ months_of_year → take m a ≡ map hundredths_of (take m (figures_of line)) → take (m + 1) (set a m (hundredths_of (figure_of (field line m)))) ≡ map hundredths_of (take (m + 1) (figures_of line))
  values-next a l e =
      rw (add-one m) (take-suc-set a m (hundredths_of (figure_of (field line m))) (omega arith))
      ∙ ap (λ (s : List ℤ). s ++ hundredths_of (figure_of (field line m)) ∷ []) e
      ∙ sym (map-append hundredths_of (take m (figures_of line)) (figure_of (field line m) ∷ []))
      ∙ ap (map hundredths_of) (sym next)

  bit_below : 2 ^ m ≤ 2048
  bit_below = pow_mono {i = m} {j = 11} (omega arith)

  -- the bit as the code shifts it
  bit_is : 1 * 2 ^ m % 4294967296 ≡ 2 ^ m
  bit_is = omega (arith, bit_below)

-- ---- the columns that are read
seven : (k : ℕ) → k + width - k ≡ width
seven k = omega arith

said-is : (c : After-read_field) → figure_said c.read_field.result ≡ figure_of (field c.args.line.now c.loop-m.m)
unfolding figure_of
said-is c =
    ap figure_said c.read_field.ensures ∙ ap (λ (n : ℕ). figure_of (take n (drop (heading_columns + width * c.loop-m.m) c.args.line.now))) (seven (heading_columns + width * c.loop-m.m))

-- ---- none yet
none : (s : Seen) → (s.malformed ≡ false) × (s.present ≡ 0) → s ≡ seen_in []
unfolding seen_in set_of some
none s e = rw (e.0, e.1) refl

pub loop-m-init : goal.loop-m-init
loop-m-init c = record { seen_so_far = none c.default-seen.result c.default-seen.ensures; hundredths_so_far = refl }

pub figure_said-figure-requires : goal.figure_said-figure-requires
figure_said-figure-requires c = rw c.read_field.ensures (field-small _)

pub and-seen-requires : goal.and-seen-requires
and-seen-requires c =
    let l = c.args.line.now in
    let h = c.loop-m-test.true in
    let b = seen_below (take c.loop-m.m (figures_of l)) c.loop-m.seen c.loop-m.invariant.seen_so_far in
    let w = rw (so-many l c.loop-m.m h) at b in
    omega (arith, w, bit_below l c.loop-m.m h)

pub loop-m-preserved : goal.loop-m-preserved
loop-m-preserved c =
    let l = c.args.line.now in
    let m = c.loop-m.m in
    let h = c.loop-m-test.true in
    let x = c.figure_said-figure.ensures ∙ said-is (goal.at.loop-m-preserved c).After-read_field in
    let f = to_z-of_z {w = w32} {z = c.hundredths_of.result} (record { sfits = c.hundredths_of.type_inv }) in record {
      seen_so_far = rw (c.and-seen.ensures, bit_is l m h, x, c.loop-m.invariant.seen_so_far) (seen_next l m h);
      hundredths_so_far = rw (f, c.hundredths_of.ensures, x) (values-next l m h c.loop-m.hundredths (c.loop-m.auto.hundredths ∙ c.requires.hundredths_len) c.loop-m.invariant.hundredths_so_far);
    }

pub returns : goal.returns
returns c =
    let l = c.args.line.now in
    let t : take c.loop-m.m (figures_of l) ≡ figures_of l = take_all c.loop-m.m (figures_of l) (omega (arith, figures-twelve l, c.loop-m-test.false)) in record {
      value = c.loop-m.invariant.seen_so_far ∙ ap seen_in t;
      hundredths_after = sym (take_all c.loop-m.m c.loop-m.hundredths (omega (arith, c.loop-m.auto.hundredths, c.requires.hundredths_len, c.loop-m-test.false))) ∙ c.loop-m.invariant.hundredths_so_far ∙ ap (map hundredths_of) t;
    }
