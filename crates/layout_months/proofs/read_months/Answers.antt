-- `layout_months::read_months`: what is found so far is what is found in the months so far, and the amounts so far are theirs. Assumes nothing.
use Rattle.std.proofs.Common.{◌≡◌, refl, sym, ap, ◌∙◌, List, [], ◌∷◌, ◌++◌, map, ℕ, ◌+◌, ◌-◌, ◌*◌, ◌^◌, ◌%◌, ◌≤◌, ◌<◌, length, take, drop, add-one, arith}
use mathlib.Core.List.{map-append}
use lib.ListN.{set}
use lib.Pow.{pow_mono}
use lib.Seq.{take-suc, take-suc-set, take_all, length-take-le}
use Rattle.fields.specs.Columns.{heading_columns, months_of_year, width}
use Rattle.layout_months.specs.Months.{month_said, month_of, months_of, amount_of, set_of}
use Rattle.layout_months.specs.Steps.{found_in, and_month}
use Rattle.layout_months.specs.declared.Found.{Found}
use Rattle.layout_months.specs.declared.Month.{Month}
use Rattle.layout_months.specs.declared.Month.TheVariants.{Malformed}
use Rattle.layout_months.proofs.Months.{months-twelve, field, month-at, found-more, found_below}
use Rattle.layout_months.proofs.read_months.Goals as goal
use Rattle.layout_months.proofs.read_months.Goals.{After-read_field-said}

-- ---- the months so far, and one more
module _ (line : List ℕ) (m : ℕ) (h : m < months_of_year) where
  so-many : length (take m (months_of line)) ≡ m
  so-many = length-take-le m (months_of line) (omega (arith, months-twelve line))

  next : take (m + 1) (months_of line) ≡ take m (months_of line) ++ month_of (field line m) ∷ []
  next =
      rw (add-one m)
      (take-suc (months_of line) m Malformed (omega (arith, months-twelve line)) ∙ ap (λ (x : Month). take m (months_of line) ++ x ∷ []) (month-at line m h))

  bit_below : 2 ^ m ≤ 2048
  bit_below = pow_mono {i = m} {j = 11} (omega arith)

  -- the bit as the code shifts it
  bit_is : 1 * 2 ^ m % 4294967296 ≡ 2 ^ m
  bit_is = omega (arith, bit_below)

  found-next : and_month (found_in (take m (months_of line))) (month_of (field line m)) (2 ^ m) ≡ found_in (take (m + 1) (months_of line))
  found-next =
      ap (λ (n : ℕ). and_month (found_in (take m (months_of line))) (month_of (field line m)) (2 ^ n)) (sym so-many)
      ∙ found-more (take m (months_of line)) (month_of (field line m)) ∙ ap found_in (sym next)

  amounts-next : (a : List ℕ) → length a ≡ months_of_year → take m a ≡ map amount_of (take m (months_of line)) → take (m + 1) (set a m (amount_of (month_of (field line m)))) ≡ map amount_of (take (m + 1) (months_of line))
  amounts-next a l e =
      rw (add-one m) (take-suc-set a m (amount_of (month_of (field line m))) (omega arith))
      ∙ ap (λ (s : List ℕ). s ++ amount_of (month_of (field line m)) ∷ []) e
      ∙ sym (map-append amount_of (take m (months_of line)) (month_of (field line m) ∷ []))
      ∙ ap (map amount_of) (sym next)

-- ---- the columns that are read
seven : (k : ℕ) → k + width - k ≡ width
seven k = omega arith

month-is : (c : After-read_field-said) → month_said c.read_field-said.result ≡ month_of (field c.args.line.now c.loop-m.m)
unfolding month_of
month-is c =
    ap month_said c.read_field-said.ensures ∙ ap (λ (n : ℕ). month_of (take n (drop (heading_columns + width * c.loop-m.m) c.args.line.now))) (seven (heading_columns + width * c.loop-m.m))

-- ---- none yet
none : (f : Found) → (f.malformed ≡ 0) × ((f.bad ≡ 0) × (f.present ≡ 0)) → f ≡ found_in []
unfolding found_in set_of
none f e = rw (e.0, e.1.0, e.1.1) refl

pub loop-m-init : goal.loop-m-init
loop-m-init c = record { found_so_far = none c.default-found.result c.default-found.ensures; amounts_so_far = refl }

pub and-found-requires : goal.and-found-requires
and-found-requires c =
    let l = c.args.line.now in
    let h = c.loop-m-test.true in
    let b = found_below (take c.loop-m.m (months_of l)) c.loop-m.found c.loop-m.invariant.found_so_far in
    let n = so-many l c.loop-m.m h in
    let p = bit_below l c.loop-m.m h in
    let w = rw n at b in
    record { bit_bound = omega (arith, w.0, p); bit_bound_2 = omega (arith, w.1, p); bit_bound_3 = omega (arith, w.2, p) }

pub loop-m-preserved : goal.loop-m-preserved
loop-m-preserved c =
    let l = c.args.line.now in
    let m = c.loop-m.m in
    let h = c.loop-m-test.true in
    let x = month-is (goal.at.loop-m-preserved c).After-read_field-said in record {
      found_so_far = rw (c.and-found.ensures, bit_is l m h, c.month_said.ensures, x, c.loop-m.invariant.found_so_far) (found-next l m h);
      amounts_so_far = rw (c.amount.ensures, x) (amounts-next l m h c.loop-m.amounts (c.loop-m.auto.amounts ∙ c.requires.amounts_len) c.loop-m.invariant.amounts_so_far);
    }

pub returns : goal.returns
returns c =
    let l = c.args.line.now in
    let t : take c.loop-m.m (months_of l) ≡ months_of l = take_all c.loop-m.m (months_of l) (omega (arith, months-twelve l, c.loop-m-test.false)) in record {
      value = c.loop-m.invariant.found_so_far ∙ ap found_in t;
      amounts_after = sym (take_all c.loop-m.m c.loop-m.amounts (omega (arith, c.loop-m.auto.amounts, c.requires.amounts_len, c.loop-m-test.false))) ∙ c.loop-m.invariant.amounts_so_far ∙ ap (map amount_of) t;
    }
