-- A proof's vocabulary, which contracts cite. Assumes nothing.
use Rattle.std.specs.Prelude.{ℕ, ◌+◌, ◌*◌, Bool, ◌&&◌, List, ℤ, pos, get_or}
use Rattle.std.specs.Int.Signed.{le_z}
use Rattle.outline.specs.Numbers.{many_of_a_month}
use Rattle.outline.specs.Every.{all_of}
use Rattle.water.specs.Constants.{most_k}
use Rattle.ranges.specs.Ranges.{constant_fits}

-- a month's five, from place k on, are each in its range
unfoldable pub five_fit : List ℤ → ℕ → Bool
five_fit l k = constant_fits l k && constant_fits l (k + 1) && constant_fits l (k + 2) && constant_fits l (k + 3) && constant_fits l (k + 4)

-- the same, with K not below a least one
unfoldable pub five_from : ℤ → List ℤ → ℕ → Bool
five_from least l k =
    constant_fits l k && constant_fits l (k + 1) && constant_fits l (k + 2) && constant_fits l (k + 3) && (le_z least (get_or l (k + 4) (pos 0)) && le_z (get_or l (k + 4) (pos 0)) (pos most_k))

-- and so of the first so many months
abbrev pub fit_from : ℤ → List ℤ → ℕ → Bool
fit_from least l months = all_of (λ (m : ℕ). five_from least l (many_of_a_month * m)) months
