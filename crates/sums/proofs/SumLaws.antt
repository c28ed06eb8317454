-- The sums of rows that an add gives: ET is at most PE, R at most PR, L at most PL in each row, and so in the sums (`sums-fit`). A part of its whole
-- is at most one, so alpha, beta and delta are in their ranges whatever the record is (`alpha-most`, `beta-most`, `delta-most`); gamma need
-- not be. Assumes nothing.
use mathlib.Core.Path.{◌≡◌, refl}
use mathlib.Core.List.{List}
use Prim.Native.Nat.{ℕ, zero, suc, ◌+◌, ◌*◌, ◌≤◌, ◌<◌}
use native.Mathlib.Nat.{mul-suc}
use native.Mathlib.Numerals.{add-one}
use native.Mathlib.Omega.{arith}
use lib.IntN.{ℤ}
use Rattle.outline.specs.Numbers.{last_month}
use Rattle.exact.specs.Nearest.{nearest_ℕ}
use Rattle.exact.proofs.Nearest.{near_none, near_within}
use Rattle.water.specs.Constants.{one, most_share, most_gamma}
use Rattle.water.specs.Bounds.{ConstantsFit}
use Rattle.water.proofs.WaterLaws.{potentials-fit, potential-shares}
use Rattle.records.specs.Record.{record_at}
use Rattle.given_rows.specs.Facts.{RowFits, Watered}
use Rattle.given_rows.specs.declared.WaterRow.{WaterRow}
use Rattle.given_rows.proofs.RowLaws.{row_fits}
use Rattle.sums.specs.Sums.{no_sums, plus, row_in, sums_of, alpha_of, beta_of, gamma_of, delta_of, shares_of}
use Rattle.sums.specs.SumsFit.{SumsFit, Within, without_pr}
use Rattle.sums.specs.declared.Sums.{Sums}

-- ---- the rows of a calendar month, each of which an add gives
pub rows_fit : (capacity : ℕ) (records : List (List ℤ)) (at years : ℕ) → Watered capacity records at years → (y : ℕ) → y < years → RowFits (row_in capacity records at y)
rows_fit capacity records at years w y b = row_fits capacity (record_at records (at + last_month * y)) w.least w.most (w.given y b)

-- ---- the sums
-- sums that are each 0
pub zero-is : (s : Sums) → (s.et ≡ 0) × ((s.pe ≡ 0) × ((s.r ≡ 0) × ((s.pr ≡ 0) × ((s.ro ≡ 0) × ((s.pro ≡ 0) × ((s.l ≡ 0) × (s.pl ≡ 0))))))) → s ≡ no_sums
zero-is s e = go s.et s.pe s.r s.pr s.ro s.pro s.l s.pl e.0 e.1.0 e.1.1.0 e.1.1.1.0 e.1.1.1.1.0 e.1.1.1.1.1.0 e.1.1.1.1.1.1.0 e.1.1.1.1.1.1.1
  where
    go :
        (et pe r pr ro pro l pl : ℕ) →
        et ≡ 0 → pe ≡ 0 → r ≡ 0 → pr ≡ 0 → ro ≡ 0 → pro ≡ 0 → l ≡ 0 → pl ≡ 0 →
        ◌≡◌ {A = Sums} (record { et = et; pe = pe; r = r; pr = pr; ro = ro; pro = pro; l = l; pl = pl }) no_sums
    go et pe r pr ro pro l pl a b c d e f g h = rw (a, b, c, d, e, f, g, h) refl

none-fit : SumsFit no_sums 0
none-fit =
    record {
      et = omega arith;
      pe = omega arith;
      r = omega arith;
      pr = omega arith;
      ro = omega arith;
      pro = omega arith;
      l = omega arith;
      pl = omega arith;
    }

-- one month more
pub plus-fit : (s : Sums) (w : WaterRow) (k : ℕ) → SumsFit s k → RowFits w → SumsFit (plus s w) (suc k)
unfolding plus
plus-fit s w k f g =
    let q = potentials-fit w.soil w.pe g.soil in
    record {
      et = omega (arith, f.et, g.et);
      pe = omega (arith, f.pe, g.pe);
      r = omega (arith, f.r, g.r);
      pr = omega (arith, f.pr, q);
      ro = omega (arith, f.ro, g.ro, g.p);
      pro = omega (arith, f.pro, q);
      l = omega (arith, f.l, g.l);
      pl = omega (arith, f.pl, q);
    }

module _ (row : ℕ → WaterRow) where
  pub sums_none : no_sums ≡ without_pr (sums_of row 0)
  unfolding sums_of
  sums_none = refl

  sums-last : (k : ℕ) → sums_of row (suc k) ≡ plus (sums_of row k) (row k)
  unfolding sums_of
  sums-last k = refl

  -- all but PR's, with one month more
  pub sums-more : (k : ℕ) (s t : Sums) → s ≡ without_pr (sums_of row k) → t ≡ without_pr (plus s (row k)) → t ≡ without_pr (sums_of row (k + 1))
  unfolding plus
  sums-more k s t p q = rw (add-one k, sums-last k, q, p) refl

  -- PR and PRO share the capacity of every month
  pub pr-rest : (capacity : ℕ) → ((y : ℕ) → (row y).soil.capacity ≡ capacity) → (k : ℕ) → ((y : ℕ) → y < k → RowFits (row y)) → (sums_of row k).pr + (sums_of row k).pro ≡ capacity * k
  unfolding sums_of plus
  pr-rest capacity c zero f = omega arith
  pr-rest capacity c (suc k) f =
      let h = pr-rest capacity c k (λ y b. f y (omega arith)) in
      let p = potential-shares (row k).soil (row k).pe (f k (omega arith)).soil in
      omega (arith, h, p, c k, mul-suc capacity k)

  pub sums-fit : (k : ℕ) → ((y : ℕ) → y < k → RowFits (row y)) → SumsFit (sums_of row k) k
  unfolding sums_of
  sums-fit zero f = none-fit
  sums-fit (suc k) f = rw (sums-last k) (plus-fit (sums_of row k) (row k) k (sums-fit k (λ y h. f y (omega arith))) (f k (omega arith)))

-- each of them is low
pub fit-within : (s : Sums) (k n : ℕ) → k ≤ n → SumsFit s k → Within (without_pr s) n
fit-within s k n h f =
    record {
      et = omega (arith, f.et, f.pe);
      pe = omega (arith, f.pe);
      r = omega (arith, f.r, f.pr);
      ro = omega (arith, f.ro);
      pro = omega (arith, f.pro);
      l = omega (arith, f.l, f.pl);
      pl = omega (arith, f.pl);
    }

-- sums over fewer years are within those over more
pub fit-more : (s : Sums) (k n : ℕ) → k ≤ n → SumsFit s k → SumsFit s n
fit-more s k n h f =
    record {
      et = f.et;
      pe = omega (arith, f.pe);
      r = f.r;
      pr = omega (arith, f.pr);
      ro = omega (arith, f.ro);
      pro = omega (arith, f.pro);
      l = f.l;
      pl = omega (arith, f.pl);
    }

-- ---- the shares
-- a part of its whole is at most one, also where both are 0
pub share-most : (a b : ℕ) → a ≤ b → nearest_ℕ (one * a) b ≤ most_share
share-most a zero h = rw (near_none (one * a)) (omega arith)
share-most a (suc b) h = near_within (one * a) (suc b) most_share (omega arith) (omega arith)

module _ (s : Sums) (k : ℕ) (f : SumsFit s k) where
  pub alpha-most : alpha_of s ≤ most_share
  alpha-most = share-most s.et s.pe f.et

  pub beta-most : beta_of s ≤ most_share
  beta-most = share-most s.r s.pr f.r

  pub delta-most : delta_of s ≤ most_share
  delta-most = share-most s.l s.pl f.l

  -- all that is left to ask is gamma
  pub shares-fit : gamma_of s ≤ most_gamma → ConstantsFit (shares_of s)
  shares-fit g = record { alpha = alpha-most; beta = beta-most; gamma = g; delta = delta-most; weight = omega arith }
