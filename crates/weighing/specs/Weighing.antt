-- Document 02, E10: "Twelve first weights K' are lent in ten-thousandths, 0 to 100,000. With D the calendar month's mean size of P - CAFEC by the new constants ..,
-- K = nearest to 176,700,000 K' / sum of D K'." What the years come to, calendar month by calendar month from January, which is 0 here, on; and the sixty
-- constants, "January first, each month in the order alpha, beta, gamma, delta, K". Assumes nothing.
use Rattle.std.specs.Prelude.{ℕ, zero, suc, ◌+◌, ◌*◌, Bool, List, [], ◌∷◌, ◌++◌, ℤ, pos, nat_abs, leb, get_or}
use Rattle.outline.specs.Numbers.{last_month}
use Rattle.outline.specs.Every.{all_of}
use Rattle.exact.specs.Nearest.{nearest_ℕ}
use Rattle.water.specs.Constants.{most_gamma, most_k}
use Rattle.water.specs.declared.Constants.{Constants}
use Rattle.kept_rows.specs.KeptRows.{amount_fits}
use Rattle.sums.specs.Sums.{row_in, sums_of, gamma_of, shares_of}
use Rattle.sums.specs.declared.Sums.{Sums}
use Rattle.departures.specs.Departures.{mean_of}

-- so many whole years of a soil of this capacity, whose first January stands at a row of the records
pub record Span : Type 0 where
  pub capacity : ℕ
  pub records : List (List ℤ)
  pub first : ℕ
  pub years : ℕ

abbrev pub span : ℕ → List (List ℤ) → ℕ → ℕ → Span
span capacity records first years = record { capacity = capacity; records = records; first = first; years = years }

-- ---- a calendar month over the years: its sums, its four constants and D
unfoldable pub sums_in : Span → ℕ → Sums
sums_in s m = sums_of (row_in s.capacity s.records (s.first + m)) s.years

unfoldable pub shares_in : Span → ℕ → Constants
shares_in s m = shares_of (sums_in s m)

unfoldable pub departure_in : Span → ℕ → ℕ
departure_in s m = mean_of (shares_in s m) (row_in s.capacity s.records (s.first + m)) s.years

-- "19 gamma out of range": not so of the first so many months
abbrev pub gammas_fit : Span → ℕ → Bool
gammas_fit s = all_of (λ m. leb (gamma_of (sums_in s m)) most_gamma)

-- ---- the first weights
abbrev pub weight_at : List ℤ → ℕ → ℕ
weight_at weights m = nat_abs (get_or weights m (pos 0))

-- "0 to 100,000": so are the first so many
abbrev pub weights_fit : List ℤ → ℕ → Bool
weights_fit weights = all_of (λ m. amount_fits most_k (get_or weights m (pos 0)))

-- "sum of D K'", of the first so many months
unfoldable pub products : List ℕ → List ℤ → ℕ → ℕ
products means weights zero = 0
products means weights (suc m) = products means weights m + get_or means m 0 * weight_at weights m

-- ---- "K = nearest to 176,700,000 K' / sum of D K'"
abbrev pub whole : ℕ
whole = 176700000

unfoldable pub k_of : ℕ → ℕ → ℕ
k_of total weight = nearest_ℕ (whole * weight) total

-- not "a K out of range", of the first so many months
abbrev pub ks_fit : ℕ → List ℤ → ℕ → Bool
ks_fit total weights = all_of (λ m. leb (k_of total (weight_at weights m)) most_k)

-- ---- lists by the month: those of k months from the m-th on, one after another
unfoldable pub monthly : {A : Type 0} → (ℕ → List A) → ℕ → ℕ → List A
monthly f m zero = []
monthly f m (suc k) = f m ++ monthly f (suc m) k

-- a month's five
abbrev pub five_of : Constants → ℕ → List ℤ
five_of c k = pos c.alpha ∷ pos c.beta ∷ pos c.gamma ∷ pos c.delta ∷ pos k ∷ []

-- the twelve D
abbrev pub departures_in : Span → List ℕ
departures_in s = monthly (λ m. departure_in s m ∷ []) 0 last_month

-- the sum of D K'
abbrev pub total_in : Span → List ℤ → ℕ
total_in s weights = products (departures_in s) weights last_month

-- the sixty constants
abbrev pub sixty_in : Span → List ℤ → List ℤ
sixty_in s weights = monthly (λ m. five_of (shares_in s m) (k_of (total_in s weights) (weight_at weights m))) 0 last_month
