-- The theorems about a run. What is tested is what is said: `is_run` holds exactly where `RunFits` does (`run_fits`, `fits-run`), so that a
-- month of spells may be asked (`values_fit`); and nothing that holds a K of 0 is a run. Each chain of tests is taken apart once. Assumes
-- nothing.
use mathlib.Core.Path.{◌≡◌, refl}
use mathlib.Core.Bool.{Bool, true, false, not, ◌&&◌, ◌||◌}
use Prim.Native.Nat.{ℕ, ◌≤◌}
use native.Mathlib.Omega.{arith}
use borrow.Author.Tests.{leb-true, le-leb, not-true}
use lib.Dec.{leb}
use lib.IntN.{ℤ, pos, nat_abs}
use lib.Signed.{le_z, lt_z, ◌<ℤ◌}
use Rattle.outline.specs.Numbers.{most_x, most_months}
use Rattle.outline.proofs.Tests.{if-so, first, second, both}
use Rattle.exact.proofs.Z.{le_yes, le-no, lt_yes}
use Rattle.exact.proofs.Orders.{le_is, le_not, lt-is}
use Rattle.water.specs.Layers.{least_capacity, most_capacity, surface_holds, underlying_holds, SoilFits}
use Rattle.water.specs.declared.Soil.{Soil}
use Rattle.spells.specs.ValuesFit.{ValuesFit}
use Rattle.ranges.specs.Ranges.{constants_fit, calendar_fits}
use Rattle.ranges.proofs.RangeLaws.{calendar-is, is-calendar}
use Rattle.calendar.specs.Calendar.{some_zero_k, ZeroK}
use Rattle.calendar.proofs.CalendarLaws.{constants-at-fit, no-zero-k-exactly}
use Rattle.runs.specs.Runs.{soil_fits, sizes_fit, signs_fit, v_fits, is_run}
use Rattle.runs.specs.RunFits.{RunFits}
use Rattle.runs.specs.declared.Run.{Run}

-- ---- chains of three, four and nine tests
three : (a b c : Bool) → (a && b && c) ≡ true → (a ≡ true) × (b ≡ true) × (c ≡ true)
three a b c h =
    let p = first (a && b) c h in
    (first a b p, second a b p, second (a && b) c h)

four : (a b c d : Bool) → (a && b && c && d) ≡ true → (a ≡ true) × (b ≡ true) × (c ≡ true) × (d ≡ true)
four a b c d h =
    let p = three a b c (first (a && b && c) d h) in
    (p.0, p.1, p.2, second (a && b && c) d h)

nine : (a b c d e f g k l : Bool) → (a && b && c && d && e && f && g && k && l) ≡ true
    → ((a ≡ true) × (b ≡ true) × (c ≡ true) × (d ≡ true)) × ((e ≡ true) × (f ≡ true) × (g ≡ true) × (k ≡ true) × (l ≡ true))
nine a b c d e f g k l h =
    let x = a && b && c && d in
    let o = first (x && e && f && g && k) l h in
    let p = first (x && e && f && g) k o in
    let q = first (x && e && f) g p in
    let r = first (x && e) f q in
    (four a b c d (first x e r), (second x e r, second (x && e) f q, second (x && e && f) g p, second (x && e && f && g) k o, second (x && e && f && g && k) l h))

-- `a <= b || c < d`: the second, where the first does not hold
or_else : (a b c d : ℤ) → (le_z a b || lt_z c d) ≡ true → b <ℤ a → c <ℤ d
or_else a b c d h g = lt_yes c d (rw (le_not a b g) at h)

else-or : (a b c d : ℤ) → (b <ℤ a → c <ℤ d) → (le_z a b || lt_z c d) ≡ true
else-or a b c d f = outcome (le_z a b) (le-no a b)
  where
    outcome : (t : Bool) → (t ≡ false → b <ℤ a) → (t || lt_z c d) ≡ true
    outcome true g = refl
    outcome false g = lt-is c d (f (g refl))

-- ---- the soil
pub soil-fits : (s : Soil) → soil_fits s ≡ true → SoilFits s
unfolding soil_fits
soil-fits s h =
    let p = four (leb least_capacity s.capacity) (leb s.capacity most_capacity) (leb s.surface (surface_holds s.capacity)) (leb s.underlying (underlying_holds s.capacity)) h in
    record { least = leb-true _ _ p.0; most = leb-true _ _ p.1; surface = leb-true _ _ p.2; underlying = leb-true _ _ p.3 }

pub fits-soil : (s : Soil) → SoilFits s → soil_fits s ≡ true
unfolding soil_fits
fits-soil s f = both (both (both (le-leb _ _ f.least) (le-leb _ _ f.most)) (le-leb _ _ f.surface)) (le-leb _ _ f.underlying)

-- ---- a run
module _ (long : ℕ) (r : Run) where
  -- what is tested, as facts
  pub run_fits : is_run long r ≡ true → RunFits long r
  unfolding is_run sizes_fit signs_fit v_fits
  run_fits h =
      let v = r.values in
      let p = nine (leb r.months long) (leb r.opens r.months) (constants_fit r.constants) (not (some_zero_k r.constants)) (soil_fits r.soil) (calendar_fits r.calendar) (sizes_fit v) (signs_fit v) (v_fits r.months v) h in
      let c = calendar-is r.calendar p.1.1 in
      let z = three (leb (nat_abs v.x1) most_x) (leb (nat_abs v.x2) most_x) (leb (nat_abs v.x3) most_x) p.1.2 in
      let s = four (le_z (pos 0) v.x1) (le_z v.x2 (pos 0)) (le_z v.v (pos 0) || lt_z v.x3 (pos 0)) (le_z (pos 0) v.v || lt_z (pos 0) v.x3) p.1.3 in
      record {
        months = leb-true _ _ p.0.0;
        opens = leb-true _ _ p.0.1;
        soil = soil-fits r.soil p.1.0;
        first_month = c.0;
        last_month = c.1;
        constants = p.0.2;
        all_count = not-true (some_zero_k r.constants) p.0.3;
        month_constants = constants-at-fit r.constants r.calendar p.0.2 p.1.1;
        x1_size = leb-true _ _ z.0;
        x2_size = leb-true _ _ z.1;
        x3_size = leb-true _ _ z.2;
        v_size = leb-true _ _ p.1.4;
        x1_sign = le_yes _ _ s.0;
        x2_sign = le_yes _ _ s.1;
        v_above = or_else v.v (pos 0) v.x3 (pos 0) s.2;
        v_below = or_else (pos 0) v.v (pos 0) v.x3 s.3;
      }

  -- one that holds a K of 0 is none, whatever else it holds
  pub zero-k-no-run : ZeroK r.constants → is_run long r ≡ false
  zero-k-no-run z = if-so (is_run long r) (λ t. absurd ((no-zero-k-exactly r.constants).0 (run_fits t).all_count z)) (λ f. f)

  module _ (f : RunFits long r) where
    sizes : sizes_fit r.values ≡ true
    unfolding sizes_fit
    sizes = both (both (le-leb _ _ f.x1_size) (le-leb _ _ f.x2_size)) (le-leb _ _ f.x3_size)

    signs : signs_fit r.values ≡ true
    unfolding signs_fit
    signs =
        let v = r.values in
        both (both (both (le_is _ _ f.x1_sign) (le_is _ _ f.x2_sign)) (else-or v.v (pos 0) v.x3 (pos 0) f.v_above)) (else-or (pos 0) v.v (pos 0) v.x3 f.v_below)

    size-v : v_fits r.months r.values ≡ true
    unfolding v_fits
    size-v = le-leb _ _ f.v_size

    before-values : (leb r.months long && leb r.opens r.months && constants_fit r.constants && not (some_zero_k r.constants) && soil_fits r.soil && calendar_fits r.calendar) ≡ true
    before-values =
        both (both (both (both (both (le-leb _ _ f.months) (le-leb _ _ f.opens)) f.constants) (rw f.all_count)) (fits-soil r.soil f.soil)) (is-calendar _ f.first_month f.last_month)

    -- and back: what an add hands back is shown to be a run so
    pub fits-run : is_run long r ≡ true
    unfolding is_run
    fits-run = both (both (both before-values sizes) signs) size-v

  -- a run's values have room in the arithmetic of a month of spells
  pub values_fit : long ≤ most_months → RunFits long r → ValuesFit r.values
  values_fit h f =
      record {
        x1_size = f.x1_size;
        x2_size = f.x2_size;
        x3_size = f.x3_size;
        v_size = omega arith;
        x1_sign = f.x1_sign;
        x2_sign = f.x2_sign;
        v_above = f.v_above;
        v_below = f.v_below;
      }
