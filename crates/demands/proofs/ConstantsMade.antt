-- What the constants that are worked out are made of, calendar month by calendar month: the sums that the other call answers with, the weight and D. Assumes nothing.
use mathlib.Core.Path.{◌≡◌, refl, sym, ap, ◌∙◌}
use mathlib.Core.Bool.{true}
use mathlib.Core.List.{List, [], ◌∷◌}
use Prim.Native.Nat.{ℕ, suc, ◌+◌, ◌-◌, ◌*◌, ◌<◌}
use native.Mathlib.Omega.{arith}
use borrow.Author.Tests.{le-leb}
use lib.IntN.{ℤ, pos}
use lib.ListN.{get_or}
use Rattle.outline.specs.Numbers.{many_of_a_month, last_month}
use Rattle.outline.proofs.Tests.{both}
use Rattle.calendar.specs.Calendar.{constants_at}
use Rattle.water.specs.declared.Constants.{Constants}
use Rattle.runs.specs.declared.Run.{Run}
use Rattle.starts.specs.Start.{month_fits}
use Rattle.refusals.specs.Book.{Book}
use Rattle.sums.specs.Sums.{alpha_of, beta_of, gamma_of, delta_of}
use Rattle.sums.specs.declared.Sums.{Sums}
use Rattle.weighing.specs.Weighing.{Span, sums_in, shares_in, departure_in, weight_at, k_of, departures_in, total_in, sixty_in}
use Rattle.weighing.proofs.Monthly.{monthly-at}
use Rattle.weighing.proofs.SetLaws.{sixty-at}
use Rattle.constants.specs.WorkOut.{span_of, work_out, sum_month}
use Rattle.constants.specs.declared.WorkedOut.{WorkedOut}
use Rattle.constants.specs.declared.Summed.{Summed}
use Rattle.demands.specs.WorkedOut.{Workable, WorkOutGives, work-0, sum-0}
use Rattle.demands.proofs.ConstantsGiven.{worked, works-exactly, summed-up, sums-exactly}

month-fits : (m : ℕ) → m < last_month → month_fits (pos (suc m)) ≡ true
unfolding month_fits
month-fits m l = both (le-leb 1 (suc m) (omega arith)) (le-leb (suc m) last_month l)

-- a month's five, among the sixty
module _ (s : Span) (weights : List ℤ) (m : ℕ) (l : m < last_month) where
  abbrev five : Sums → Constants
  five t = record { alpha = alpha_of t; beta = beta_of t; gamma = gamma_of t; delta = delta_of t; k = k_of (total_in s weights) (weight_at weights m) }

  five-at : constants_at (sixty_in s weights) (suc m) ≡ five (sums_in s m)
  unfolding constants_at shares_in
  five-at =
      let e : suc m - 1 ≡ m = omega arith in
      let z : many_of_a_month * m ≡ many_of_a_month * m + 0 = omega arith in
      rw (e, ap (λ (i : ℕ). get_or (sixty_in s weights) i (pos 0)) z ∙ sixty-at s weights m 0 l (omega arith), sixty-at s weights m 1 l (omega arith), sixty-at s weights m 2 l (omega arith), sixty-at s weights m 3 l (omega arith), sixty-at s weights m 4 l (omega arith))

  departure-at : get_or (departures_in s) m 0 ≡ departure_in s m
  departure-at =
      let e : m ≡ 1 * m + 0 = omega arith in
      ap (λ (i : ℕ). get_or (departures_in s) i 0) e ∙ monthly-at (λ i. departure_in s i ∷ []) 1 (λ i. refl) m last_month 0 0 l (omega arith)

module _ (r : Run) (weights : List ℤ) (cs : Book) (done : (work_out r weights cs).number ≡ 0) where
  abbrev its : Span
  its = span_of r cs

  asked-all : WorkOutGives r weights cs 0 → Workable r weights cs
  asked-all (work-0 w g k z) = w

  module _ (m : ℕ) (l : m < last_month) where
    sums-done : (sum_month r (pos (suc m)) cs).number ≡ 0
    sums-done = let w = asked-all ((works-exactly r weights cs 0).0 done) in (sums-exactly r (pos (suc m)) cs 0).1 (sum-0 w.given (month-fits m l) w.years)

    sums-are : (sum_month r (pos (suc m)) cs).sums ≡ sums_in its m
    sums-are = let e : suc m - 1 ≡ m = omega arith in ap (λ (t : Summed). t.sums) (summed-up r (pos (suc m)) cs sums-done) ∙ ap (sums_in its) e

    pub made :
        let t = sum_month r (pos (suc m)) cs in
        let s = t.sums in
        (t.number ≡ 0)
        × (s ≡ sums_in its m)
        × (constants_at (work_out r weights cs).constants (suc m) ≡ record { alpha = alpha_of s; beta = beta_of s; gamma = gamma_of s; delta = delta_of s; k = k_of (total_in its weights) (weight_at weights m) })
        × (get_or (work_out r weights cs).departures m 0 ≡ departure_in its m)
    made = (
      sums-done,
      sums-are,
      ap (λ (a : WorkedOut). constants_at a.constants (suc m)) (worked r weights cs done) ∙ five-at its weights m l ∙ ap (five its weights m l) (sym sums-are),
      ap (λ (a : WorkedOut). get_or a.departures m 0) (worked r weights cs done) ∙ departure-at its weights m l,
    )
