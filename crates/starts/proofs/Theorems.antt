-- The theorems about a start: one that is not refused gives a run, there is one for Z alone, every soil that fits has one, and the promise
-- of `start` allows one answer. Assumes nothing.
use mathlib.Core.Path.{◌≡◌, refl, sym, ◌∙◌}
use mathlib.Core.Bool.{Bool, true, false, not, cond}
use mathlib.Core.List.{List}
use Prim.Native.Nat.{ℕ, ◌≤◌}
use native.Mathlib.Omega.{arith}
use borrow.Author.Tests.{le-leb}
use lib.Dec.{eqb}
use lib.IntN.{ℤ, pos, nat_abs}
use lib.ListN.{length}
use Rattle.outline.specs.Numbers.{many_constants}
use Rattle.outline.specs.Refusals.{not_sixty, bad_constant, zero_k, bad_capacity, bad_storage, bad_month}
use Rattle.outline.proofs.Tests.{both}
use Rattle.exact.proofs.Orders.{natural}
use Rattle.water.specs.Layers.{least_capacity, most_capacity, surface_holds, underlying_holds, SoilFits}
use Rattle.water.specs.declared.Soil.{Soil}
use Rattle.ranges.specs.Ranges.{limit_of, constant_fits, constants_fit_to, constants_fit}
use Rattle.ranges.proofs.RangeLaws.{is-calendar}
use Rattle.calendar.specs.Calendar.{constants_at, zero_k_within, some_zero_k}
use Rattle.calendar.proofs.CalendarLaws.{constants-at-fit, no-zero-k-exactly}
use Rattle.runs.specs.Runs.{is_run}
use Rattle.runs.specs.RunFits.{RunFits}
use Rattle.runs.proofs.RunLaws.{fits-run}
use Rattle.starts.specs.Start.{up_to, capacity_fits, storages_fit, month_fits, start_refusal, fresh_run, started, start_of, ones, run_for_z}
use Rattle.starts.specs.declared.Started.{Started}
use Rattle.starts.proofs.StartLaws.{capacity-is, month-is, surface-is, underlying-is, start_fits}

module _ (cs : List ℤ) (c ss su m : ℤ) where
  -- the run of a start that is not refused, as facts
  pub fresh-fits : start_refusal cs c ss su m ≡ 0 → (long : ℕ) → RunFits long (fresh_run cs c ss su m)
  fresh-fits h long =
      let f = start_fits cs c ss su m h in
      let k = capacity-is c f.capacity in
      let n = month-is m f.month in
      record {
        months = omega arith;
        opens = omega arith;
        soil = record { least = k.1; most = k.2; surface = (surface-is c ss su f.storages).2; underlying = (underlying-is c ss su f.storages).2 };
        first_month = n.1;
        last_month = n.2;
        constants = f.constants.fit;
        all_count = (no-zero-k-exactly cs).1 f.constants.all_count;
        month_constants = constants-at-fit cs (nat_abs m) f.constants.fit (is-calendar (nat_abs m) n.1 n.2);
        x1_size = omega arith;
        x2_size = omega arith;
        x3_size = omega arith;
        v_size = omega arith;
        x1_sign = natural 0;
        x2_sign = natural 0;
        v_above = λ g. absurd g.lt;
        v_below = λ g. absurd g.lt;
      }

  -- a start that is not refused gives a run, for columns of any length
  pub start-is-run : start_refusal cs c ss su m ≡ 0 → (long : ℕ) → is_run long (fresh_run cs c ss su m) ≡ true
  start-is-run h long = fits-run long (fresh_run cs c ss su m) (fresh-fits h long)

  -- any two answers that the promise of `start` allows are the same
  pub one-start : (a b : Started) → a ≡ start_of cs c ss su m → b ≡ start_of cs c ss su m → a ≡ b
  one-start a b p q = p ∙ sym q

-- a run for Z alone: its start is not refused, and gives it
pub z-starts : start_refusal ones (pos least_capacity) (pos 0) (pos 0) (pos 1) ≡ 0
unfolding start_refusal capacity_fits storages_fit month_fits limit_of constant_fits constants_fit_to constants_at zero_k_within surface_holds underlying_holds
z-starts = refl

pub for-z : start_of ones (pos least_capacity) (pos 0) (pos 0) (pos 1) ≡ started 0 run_for_z
unfolding start_of start_refusal capacity_fits storages_fit month_fits limit_of constant_fits constants_fit_to constants_at zero_k_within surface_holds underlying_holds
for-z = refl

-- ---- every soil that fits has its start
-- a number that is not below 0, and not above the most
up-to : (most n : ℕ) → n ≤ most → up_to most (pos n) ≡ true
up-to most n h = both (le-leb 0 n (omega arith)) (le-leb n most h)

soil-passes : (s : Soil) → SoilFits s → (capacity_fits (pos s.capacity) ≡ true) × (storages_fit (pos s.capacity) (pos s.surface) (pos s.underlying) ≡ true)
unfolding capacity_fits storages_fit
soil-passes s f = (
  both (le-leb least_capacity s.capacity f.least) (le-leb s.capacity most_capacity f.most),
  both (up-to (surface_holds s.capacity) s.surface f.surface) (up-to (underlying_holds s.capacity) s.underlying f.underlying),
)

-- neither 4 nor 5 is left of the six tests
neither : (a b z e : Bool) → let k = cond a (cond b (cond (not z) (cond e 0 bad_month) zero_k) bad_constant) not_sixty in (k ≡ bad_capacity → ⊥) × (k ≡ bad_storage → ⊥)
neither true true false true = ((λ h. omega arith), (λ h. omega arith))
neither true true false false = ((λ h. omega arith), (λ h. omega arith))
neither true true true e = ((λ h. omega arith), (λ h. omega arith))
neither true false z e = ((λ h. omega arith), (λ h. omega arith))
neither false b z e = ((λ h. omega arith), (λ h. omega arith))

pub soil-starts : (cs : List ℤ) (s : Soil) (m : ℤ) → SoilFits s
    → let k = start_refusal cs (pos s.capacity) (pos s.surface) (pos s.underlying) m in (k ≡ bad_capacity → ⊥) × (k ≡ bad_storage → ⊥)
unfolding start_refusal
soil-starts cs s m f =
    let p = soil-passes s f in
    rw (p.0, p.1) (neither (eqb (length cs) many_constants) (constants_fit cs) (some_zero_k cs) (month_fits m))
