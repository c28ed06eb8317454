-- A set of months as a number, January lowest: its ones are the months present, and the zeros below the lowest one of its complement are
-- those before the first missing. The idea: the first month is the number's rest by two, and the others are its half. Assumes nothing.
use mathlib.Core.Path.{◌≡◌, refl, sym, ap, ap₂, ◌∙◌}
use mathlib.Core.Bool.{Bool, true, false}
use mathlib.Core.List.{List, [], ◌∷◌, ◌++◌}
use Prim.Native.Nat.{ℕ, zero, suc, ◌+◌, ◌-◌, ◌*◌, ◌/◌, ◌%◌, ◌^◌, ◌≤◌, ◌<◌}
use native.Mathlib.Nat.{pow-suc}
use native.Mathlib.Omega.{arith}
use lib.Count.{ones, ones_step, count_trailing_zeros}
use lib.Dec.{eqb}
use lib.ListN.{length}
use borrow.Author.Tests.{eqb-true, eqb-false}
use Rattle.layout_months.specs.Months.{bit, set_of, count_of, first_missing}
use Rattle.fields.specs.Columns.{months_of_year}
use Rattle.layout_months.specs.Steps.{all_months, lowest_missing}

-- ---- the set's range, and one month more
pub set_below : (bs : List Bool) → set_of bs < 2 ^ length bs
unfolding set_of
set_below [] = omega arith
set_below (true ∷ bs) = omega (arith, set_below bs, pow-suc 2 (length bs))
set_below (false ∷ bs) = omega (arith, set_below bs, pow-suc 2 (length bs))

pub set_more : (bs : List Bool) → set_of (bs ++ true ∷ []) ≡ set_of bs + 2 ^ length bs
unfolding set_of
set_more [] = refl
set_more (b ∷ bs) = omega (arith, set_more bs, pow-suc 2 (length bs))

pub set_same : (bs : List Bool) → set_of (bs ++ false ∷ []) ≡ set_of bs
unfolding set_of
set_same [] = refl
set_same (b ∷ bs) = omega (arith, set_same bs)

-- ---- its ones
pub first_rest : (b : Bool) (s : ℕ) → ((bit b + 2 * s) % 2 ≡ bit b) × ((bit b + 2 * s) / 2 ≡ s)
first_rest true s = (omega arith, omega arith)
first_rest false s = (omega arith, omega arith)

pub ones-count : (bs : List Bool) → ones (set_of bs) ≡ count_of bs
unfolding set_of count_of ones
ones-count [] = refl
ones-count (b ∷ bs) =
    ones_step (bit b + 2 * set_of bs) ∙ ap₂ (λ (x y : ℕ). x + ones y) (first_rest b (set_of bs)).0 (first_rest b (set_of bs)).1 ∙ ap (λ (x : ℕ). bit b + x) (ones-count bs)

-- ---- the first missing month
-- the set that holds them all
abbrev full : List Bool → ℕ
full bs = 2 ^ length bs - 1

all_there : (m : ℕ) (bs : List Bool) → set_of bs ≡ full bs → first_missing m bs ≡ 0
unfolding set_of first_missing
all_there m [] e = refl
all_there m (true ∷ bs) e = all_there (m + 1) bs (omega (arith, pow-suc 2 (length bs), set_below bs))
all_there m (false ∷ bs) e = absurd (omega (arith, pow-suc 2 (length bs), set_below bs))

missing-rest : (bs : List Bool) → let n = full (true ∷ bs) - set_of (true ∷ bs) in (n % 2 ≡ 0) × (n / 2 ≡ full bs - set_of bs)
unfolding set_of
missing-rest bs = (omega (arith, pow-suc 2 (length bs), set_below bs), omega (arith, pow-suc 2 (length bs), set_below bs))

missing-first : (bs : List Bool) → (full (false ∷ bs) - set_of (false ∷ bs)) % 2 ≡ 1
unfolding set_of
missing-first bs = omega (arith, pow-suc 2 (length bs), set_below bs)

zeros-first : (m k : ℕ) (bs : List Bool) → length bs ≤ k → (set_of bs ≡ full bs → ⊥) → count_trailing_zeros k (full bs - set_of bs) + m ≡ first_missing m bs
unfolding first_missing count_trailing_zeros set_of
zeros-first m k [] h e = absurd (e refl)
zeros-first m zero (b ∷ bs) h e = absurd (omega arith)
zeros-first m (suc k) (true ∷ bs) h e =
    let r = missing-rest bs in
    let t = zeros-first (m + 1) k bs (omega arith) (λ g. e (omega (arith, pow-suc 2 (length bs), set_below bs))) in
    rw (r.0, r.1) (omega (arith, t))
zeros-first m (suc k) (false ∷ bs) h e = rw (missing-first bs) (omega arith)

lowest_by : (bs : List Bool) (t : Bool) → eqb (set_of bs) all_months ≡ t → length bs ≡ months_of_year → lowest_missing (set_of bs) ≡ first_missing 1 bs
unfolding lowest_missing
lowest_by bs true e l = rw e (sym (all_there 1 bs (eqb-true _ _ e ∙ sym (ap (λ (n : ℕ). 2 ^ n - 1) l))))
lowest_by bs false e l =
    rw (e) (ap (λ (n : ℕ). count_trailing_zeros 32 (n - set_of bs) + 1) (sym (ap (λ (n : ℕ). 2 ^ n - 1) l)) ∙ zeros-first 1 32 bs (omega arith) (λ g. eqb-false _ _ e (g ∙ ap (λ (n : ℕ). 2 ^ n - 1) l)))

pub lowest-first : (bs : List Bool) → length bs ≡ months_of_year → lowest_missing (set_of bs) ≡ first_missing 1 bs
lowest-first bs = lowest_by bs (eqb (set_of bs) all_months) refl
