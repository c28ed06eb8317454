-- A number in its range, the twelve months of a line, and what is found of them one after another. Assumes nothing.
use mathlib.Core.Path.{◌≡◌, refl, sym, ap}
use mathlib.Core.Bool.{Bool, true, false, beq, ◌&&◌, and-eq-true_iff}
use mathlib.Core.List.{List, [], ◌∷◌, ◌++◌, map, map-append}
use Prim.Native.Nat.{ℕ, zero, suc, ◌+◌, ◌*◌, ◌^◌, ◌≤◌, ◌<◌}
use native.Mathlib.Omega.{arith}
use lib.Count.{count_trailing_zeros}
use lib.Dec.{eqb}
use lib.ListN.{length, take, drop, get_or, length-map}
use borrow.Author.Tests.{leb-true, eqb-true, eqb-false}
use Rattle.fields.specs.Columns.{values, heading_columns, first_value, months_of_year, width}
use Rattle.layout_months.specs.Months.{mark_hundredths, most_hundredths, is_mark, in_range, month_of, months_of, is_present, set_of, month_at_fault, first_bad}
use Rattle.layout_months.specs.Steps.{found_in, and_month, column_of}
use Rattle.layout_months.specs.declared.Found.{Found}
use Rattle.layout_months.specs.declared.Month.{Month}
use Rattle.layout_months.specs.declared.Month.TheVariants.{Amount, Missing, Outside, Malformed}
use Rattle.layout_months.proofs.Sets.{set_below, set_more, set_same, first_rest}

pub range_most : (minus : Bool) (n : ℕ) → in_range minus n ≡ true → n ≤ most_hundredths
unfolding in_range
range_most minus n h = leb-true n most_hundredths ((and-eq-true_iff _ _).0 h).0

-- a number that is the mark, as the code compares the two
pub mark-is : (b minus : Bool) (n : ℕ) → b ≡ (beq minus true && eqb n mark_hundredths) → b ≡ is_mark minus n
unfolding is_mark
mark-is b true n e = e
mark-is b false n e = e

-- ---- the months of a line
pub months-twelve : (line : List ℕ) → length (months_of line) ≡ months_of_year
unfolding months_of values
months-twelve line = refl

-- the columns of month m, from 0
abbrev pub field : List ℕ → ℕ → List ℕ
field line m = take width (drop (heading_columns + width * m) line)

pub month-at : (line : List ℕ) (m : ℕ) → m < months_of_year → get_or (months_of line) m Malformed ≡ month_of (field line m)
unfolding months_of values
month-at line zero h = refl
month-at line (suc zero) h = refl
month-at line (suc (suc zero)) h = refl
month-at line (suc (suc (suc zero))) h = refl
month-at line (suc (suc (suc (suc zero)))) h = refl
month-at line (suc (suc (suc (suc (suc zero))))) h = refl
month-at line (suc (suc (suc (suc (suc (suc zero)))))) h = refl
month-at line (suc (suc (suc (suc (suc (suc (suc zero))))))) h = refl
month-at line (suc (suc (suc (suc (suc (suc (suc (suc zero)))))))) h = refl
month-at line (suc (suc (suc (suc (suc (suc (suc (suc (suc zero))))))))) h = refl
month-at line (suc (suc (suc (suc (suc (suc (suc (suc (suc (suc zero)))))))))) h = refl
month-at line (suc (suc (suc (suc (suc (suc (suc (suc (suc (suc (suc zero))))))))))) h = refl
month-at line (suc (suc (suc (suc (suc (suc (suc (suc (suc (suc (suc (suc m)))))))))))) h = absurd (omega arith)

-- ---- one month more
module _ (f : Month → Bool) (ms : List Month) (x : Month) where
  set_on : f x ≡ true → set_of (map f (ms ++ x ∷ [])) ≡ set_of (map f ms) + 2 ^ length ms
  set_on e = rw (map-append f ms (x ∷ []), e, set_more (map f ms), length-map ms f)

  set-off : f x ≡ false → set_of (map f (ms ++ x ∷ [])) ≡ set_of (map f ms)
  set-off e = rw (map-append f ms (x ∷ []), e, set_same (map f ms))

pub found-more : (ms : List Month) (x : Month) → and_month (found_in ms) x (2 ^ length ms) ≡ found_in (ms ++ x ∷ [])
unfolding found_in
found-more ms (Amount n) = let x = Amount n in rw (set-off (month_at_fault false) ms x refl, set-off (month_at_fault true) ms x refl, set_on is_present ms x refl)
found-more ms Missing = rw (set-off (month_at_fault false) ms Missing refl, set-off (month_at_fault true) ms Missing refl, set-off is_present ms Missing refl)
found-more ms Outside = rw (set-off (month_at_fault false) ms Outside refl, set_on (month_at_fault true) ms Outside refl, set-off is_present ms Outside refl)
found-more ms Malformed = rw (set_on (month_at_fault false) ms Malformed refl, set_on (month_at_fault true) ms Malformed refl, set-off is_present ms Malformed refl)

pub found-present : (ms : List Month) (f : Found) → f ≡ found_in ms → f.present ≡ set_of (map is_present ms)
unfolding found_in
found-present ms f e = ap (λ (f : Found). f.present) e

-- each of its sets is below the power of two of the months' count
pub found_below : (ms : List Month) (f : Found) → f ≡ found_in ms → (f.malformed < 2 ^ length ms) × (f.bad < 2 ^ length ms) × (f.present < 2 ^ length ms)
unfolding found_in
found_below ms f e = rw e (below (month_at_fault false), below (month_at_fault true), below is_present)
  where
    below : (g : Month → Bool) → set_of (map g ms) < 2 ^ length ms
    below g = rw (length-map ms g) at (set_below (map g ms))

-- ---- the first month at fault
module _ (rain : Bool) where
  zeros_by : (column k : ℕ) (m : Month) (ms : List Month) (t : Bool) → month_at_fault rain m ≡ t → ((set_of (map (month_at_fault rain) ms) ≡ 0 → ⊥) → column + width + width * count_trailing_zeros k (set_of (map (month_at_fault rain) ms)) ≡ first_bad rain (column + width) ms) → (set_of (map (month_at_fault rain) (m ∷ ms)) ≡ 0 → ⊥) → column + width * count_trailing_zeros (suc k) (set_of (map (month_at_fault rain) (m ∷ ms))) ≡ first_bad rain column (m ∷ ms)
  unfolding set_of first_bad count_trailing_zeros
  zeros_by column k m ms true e rest h = rw (e, (first_rest true (set_of (map (month_at_fault rain) ms))).0) (omega arith)
  zeros_by column k m ms false e rest h =
      let s = set_of (map (month_at_fault rain) ms) in
      let r = rest (λ z. h (rw (e, z))) in
      rw (e, (first_rest false s).0, (first_rest false s).1) (omega (arith, r))

  zeros-bad : (column k : ℕ) (ms : List Month) → length ms ≤ k → (set_of (map (month_at_fault rain) ms) ≡ 0 → ⊥) → column + width * count_trailing_zeros k (set_of (map (month_at_fault rain) ms)) ≡ first_bad rain column ms
  unfolding set_of
  zeros-bad column k [] l h = absurd (h refl)
  zeros-bad column zero (m ∷ ms) l h = absurd (omega arith)
  zeros-bad column (suc k) (m ∷ ms) l h = zeros_by column k m ms (month_at_fault rain m) refl (zeros-bad (column + width) k ms (omega arith)) h

  none-by : (column : ℕ) (m : Month) (ms : List Month) (t : Bool) → month_at_fault rain m ≡ t → (set_of (map (month_at_fault rain) ms) ≡ 0 → first_bad rain (column + width) ms ≡ 0) → set_of (map (month_at_fault rain) (m ∷ ms)) ≡ 0 → first_bad rain column (m ∷ ms) ≡ 0
  unfolding set_of first_bad
  none-by column m ms true e rest h = absurd (omega (arith, rw e at h))
  none-by column m ms false e rest h = rw e (rest (omega (arith, rw e at h)))

  none-bad : (column : ℕ) (ms : List Month) → set_of (map (month_at_fault rain) ms) ≡ 0 → first_bad rain column ms ≡ 0
  unfolding first_bad
  none-bad column [] h = refl
  none-bad column (m ∷ ms) h = none-by column m ms (month_at_fault rain m) refl (none-bad (column + width) ms) h

  column-by : (ms : List Month) (t : Bool) → eqb (set_of (map (month_at_fault rain) ms)) 0 ≡ t → length ms ≤ 32 → column_of (set_of (map (month_at_fault rain) ms)) ≡ first_bad rain first_value ms
  unfolding column_of
  column-by ms true e l = rw e (sym (none-bad first_value ms (eqb-true _ _ e)))
  column-by ms false e l = rw e (zeros-bad first_value 32 ms l (eqb-false _ _ e))

  pub first-bad : (line : List ℕ) → column_of (set_of (map (month_at_fault rain) (months_of line))) ≡ first_bad rain first_value (months_of line)
  first-bad line = column-by (months_of line) _ refl (omega (arith, months-twelve line))
