-- The laws of the figures: a value's size, the twelve months of a line, and what is seen of them one after another. Assumes nothing.
use mathlib.Core.Path.{◌≡◌, refl, ap}
use mathlib.Core.Bool.{Bool, true, false, beq, ◌&&◌, ◌||◌, and-eq-true_iff}
use mathlib.Core.List.{List, [], ◌∷◌, ◌++◌, map, map-append}
use Prim.Native.Nat.{ℕ, zero, suc, ◌+◌, ◌*◌, ◌^◌, ◌<◌}
use native.Mathlib.Omega.{arith}
use lib.Dec.{eqb}
use lib.ListN.{length, take, drop, get_or, length-take, length-map}
use Rattle.text.specs.Bytes.{point, all_digits}
use Rattle.fields.specs.Columns.{values, heading_columns, months_of_year, width}
use Rattle.fields.specs.Field.{units, decimals, plain, well_formed, hundredths, field_of}
use Rattle.fields.proofs.Naturals.{natural-small}
use Rattle.fields.proofs.Fields.{units-short}
use Rattle.layout_months.specs.Months.{some, set_of}
use Rattle.layout_months.proofs.Sets.{set_below, set_more, set_same}
use Rattle.figures.specs.Figures.{mark_hundredths, is_mark, figure_of, figures_of, is_malformed, is_present}
use Rattle.figures.specs.Steps.{Small, seen_in, and_figure}
use Rattle.figures.specs.declared.Figure.{Figure}
use Rattle.figures.specs.declared.Figure.TheVariants.{Value, Missing, Malformed}
use Rattle.figures.specs.declared.Seen.{Seen}

-- ---- what a value says fits 32 bits
well-formed-digits : (f : List ℕ) → well_formed f ≡ true → (all_digits (units f) ≡ true) × (all_digits (decimals f) ≡ true)
unfolding well_formed
well-formed-digits f w =
    let ab = eqb (get_or f 4 0) point && plain (units f) in
    let l = (and-eq-true_iff (ab && all_digits (units f)) (all_digits (decimals f))).0 w in
    (((and-eq-true_iff ab (all_digits (units f))).0 l.0).1, l.1)

small_by : (f : List ℕ) (t : Bool) → well_formed f ≡ t → Small (field_of f)
unfolding field_of hundredths
small_by f true e =
    let d = well-formed-digits f e in
    rw e (omega (arith, natural-small (units f) (units-short f) d.0, natural-small (decimals f) (omega (arith, length-take 2 (drop 5 f))) d.1))
small_by f false e = rw e tt

pub field-small : (f : List ℕ) → Small (field_of f)
field-small f = small_by f (well_formed f) refl

-- ---- a number that is the mark, as the code compares the two
pub mark-is : (b minus : Bool) (n : ℕ) → b ≡ (beq minus true && eqb n mark_hundredths) → b ≡ is_mark minus n
unfolding is_mark
mark-is b true n e = e
mark-is b false n e = e

-- ---- the months of a line
pub figures-twelve : (line : List ℕ) → length (figures_of line) ≡ months_of_year
unfolding figures_of values
figures-twelve line = refl

-- the columns of month m, from 0
abbrev pub field : List ℕ → ℕ → List ℕ
field line m = take width (drop (heading_columns + width * m) line)

pub figure-at : (line : List ℕ) (m : ℕ) → m < months_of_year → get_or (figures_of line) m Malformed ≡ figure_of (field line m)
unfolding figures_of values
figure-at line zero h = refl
figure-at line (suc zero) h = refl
figure-at line (suc (suc zero)) h = refl
figure-at line (suc (suc (suc zero))) h = refl
figure-at line (suc (suc (suc (suc zero)))) h = refl
figure-at line (suc (suc (suc (suc (suc zero))))) h = refl
figure-at line (suc (suc (suc (suc (suc (suc zero)))))) h = refl
figure-at line (suc (suc (suc (suc (suc (suc (suc zero))))))) h = refl
figure-at line (suc (suc (suc (suc (suc (suc (suc (suc zero)))))))) h = refl
figure-at line (suc (suc (suc (suc (suc (suc (suc (suc (suc zero))))))))) h = refl
figure-at line (suc (suc (suc (suc (suc (suc (suc (suc (suc (suc zero)))))))))) h = refl
figure-at line (suc (suc (suc (suc (suc (suc (suc (suc (suc (suc (suc zero))))))))))) h = refl
figure-at line (suc (suc (suc (suc (suc (suc (suc (suc (suc (suc (suc (suc m)))))))))))) h = absurd (omega arith)

-- ---- one month more
module _ (fs : List Figure) (x : Figure) where
  set_on : is_present x ≡ true → set_of (map is_present (fs ++ x ∷ [])) ≡ set_of (map is_present fs) + 2 ^ length fs
  set_on e = rw (map-append is_present fs (x ∷ []), e, set_more (map is_present fs), length-map fs is_present)

  set-off : is_present x ≡ false → set_of (map is_present (fs ++ x ∷ [])) ≡ set_of (map is_present fs)
  set-off e = rw (map-append is_present fs (x ∷ []), e, set_same (map is_present fs))

some_more : (bs : List Bool) (b : Bool) → some (bs ++ b ∷ []) ≡ (some bs || b)
unfolding some
some_more [] true = refl
some_more [] false = refl
some_more (true ∷ bs) b = refl
some_more (false ∷ bs) b = some_more bs b

or-false : (b : Bool) → (b || false) ≡ b
or-false true = refl
or-false false = refl

or-true : (b : Bool) → (b || true) ≡ true
or-true true = refl
or-true false = refl

module _ (fs : List Figure) (x : Figure) where
  bad-on : is_malformed x ≡ true → some (map is_malformed (fs ++ x ∷ [])) ≡ true
  bad-on e = rw (map-append is_malformed fs (x ∷ []), e, some_more (map is_malformed fs) true) (or-true (some (map is_malformed fs)))

  bad-off : is_malformed x ≡ false → some (map is_malformed (fs ++ x ∷ [])) ≡ some (map is_malformed fs)
  bad-off e = rw (map-append is_malformed fs (x ∷ []), e, some_more (map is_malformed fs) false) (or-false (some (map is_malformed fs)))

pub seen_more : (fs : List Figure) (x : Figure) → and_figure (seen_in fs) x (2 ^ length fs) ≡ seen_in (fs ++ x ∷ [])
unfolding seen_in
seen_more fs (Value h) = let x = Value h in rw (bad-off fs x refl, set_on fs x refl)
seen_more fs Missing = rw (bad-off fs Missing refl, set-off fs Missing refl)
seen_more fs Malformed = rw (bad-on fs Malformed refl, set-off fs Malformed refl)

-- the set is below the power of two of the months' count
pub seen_below : (fs : List Figure) (s : Seen) → s ≡ seen_in fs → s.present < 2 ^ length fs
unfolding seen_in
seen_below fs s e = rw e (rw (length-map fs is_present) at (set_below (map is_present fs)))

pub seen-present : (fs : List Figure) (s : Seen) → s ≡ seen_in fs → s.present ≡ set_of (map is_present fs)
unfolding seen_in
seen-present fs s e = ap (λ (s : Seen). s.present) e

pub seen-malformed : (fs : List Figure) (s : Seen) → s ≡ seen_in fs → s.malformed ≡ some (map is_malformed fs)
unfolding seen_in
seen-malformed fs s e = ap (λ (s : Seen). s.malformed) e
