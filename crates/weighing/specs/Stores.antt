-- A proof's vocabulary, which contracts cite: what is worked out of the years, as stores into lists, and the rows of the years. Assumes nothing.
use Rattle.std.specs.Prelude.{ℕ, zero, suc, ◌+◌, ◌*◌, ◌<◌, List, ℤ, pos, set}
use Rattle.outline.specs.Numbers.{many_of_a_month, last_month}
use Rattle.water.specs.declared.Constants.{Constants}
use Rattle.given_rows.specs.Facts.{Watered}
use Rattle.weighing.specs.Weighing.{weight_at, k_of}

-- the rows of every calendar month are such as an add gives
abbrev pub Years : ℕ → List (List ℤ) → ℕ → ℕ → Type 0
Years capacity records first years = (m : ℕ) → m < last_month → Watered capacity records (first + m) years

-- four of a month's five, put from a place on
abbrev pub with_four : List ℤ → ℕ → Constants → List ℤ
with_four l at k = set (set (set (set l at (pos k.alpha)) (at + 1) (pos k.beta)) (at + 2) (pos k.gamma)) (at + 3) (pos k.delta)

-- of the first so many months
unfoldable pub fours_to : (ℕ → Constants) → List ℤ → ℕ → List ℤ
fours_to shares l zero = l
fours_to shares l (suc m) = with_four (fours_to shares l m) (many_of_a_month * m) (shares m)

-- D of the first so many months
unfoldable pub means_to : (ℕ → ℕ) → List ℕ → ℕ → List ℕ
means_to means l zero = l
means_to means l (suc m) = set (means_to means l m) m (means m)

-- K of the first so many months
unfoldable pub ks_to : ℕ → List ℤ → List ℤ → ℕ → List ℤ
ks_to total weights l zero = l
ks_to total weights l (suc m) = set (ks_to total weights l m) (many_of_a_month * m + 4) (pos (k_of total (weight_at weights m)))

-- the most that a D, of 32 bits, times a weight comes to
abbrev pub most_product : ℕ
most_product = 429496729500000
