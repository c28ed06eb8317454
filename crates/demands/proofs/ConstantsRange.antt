-- The constants that are worked out are in their ranges: alpha, beta and delta whatever the record is, for a part is at most its whole; and what is answered with 0 is
-- taken by a start, always. The sums and D have room in 32 bits. Assumes nothing.
use mathlib.Core.Path.{◌≡◌, sym, subst}
use mathlib.Core.Bool.{true}
use mathlib.Core.List.{List}
use Prim.Native.Nat.{ℕ, ◌+◌, ◌≤◌, ◌<◌}
use native.Mathlib.Omega.{arith}
use lib.IntN.{ℤ}
use Rattle.outline.specs.Numbers.{last_month}
use Rattle.water.specs.Constants.{most_gamma}
use Rattle.runs.specs.declared.Run.{Run}
use Rattle.starts.specs.Start.{capacity_fits, storages_fit, month_fits, start_refusal}
use Rattle.starts.specs.Given.{ConstantsTaken}
use Rattle.starts.proofs.StartLaws.{not-refused}
use Rattle.refusals.specs.Book.{Book}
use Rattle.given_rows.specs.Facts.{most_years}
use Rattle.sums.specs.Sums.{row_in, gamma_of}
use Rattle.sums.specs.SumsFit.{SumsFit}
use Rattle.sums.specs.declared.Sums.{Sums}
use Rattle.sums.proofs.SumLaws.{rows_fit, alpha-most, beta-most, delta-most}
use Rattle.departures.proofs.DepartureLaws.{mean-most}
use Rattle.weighing.specs.Weighing.{Span, sums_in, shares_in, departure_in, sixty_in}
use Rattle.weighing.specs.Stores.{Years}
use Rattle.weighing.proofs.SetLaws.{sums-room, in-range, sixty-long, sixty-fits}
use Rattle.constants.specs.WorkOut.{span_of, record_refusal, years_refusal, work_out}
use Rattle.constants.specs.declared.WorkedOut.{WorkedOut}
use Rattle.constants.proofs.Passes.{watered}
use Rattle.demands.specs.WorkedOut.{WorkOutGives, work-0, SharesIn, Room}
use Rattle.demands.proofs.ConstantsGiven.{record-0, years-0, gammas-in, ks-in, worked, works-exactly}

-- ---- sums over so many years, each part within its whole
shares-in : (s : Sums) (k : ℕ) → SumsFit s k → SharesIn s
shares-in s k f = record { alpha = alpha-most s k f; beta = beta-most s k f; delta = delta-most s k f }

has_room : (s : Sums) → SumsFit s most_years → Room s
has_room s f =
    record {
      et = omega (arith, f.et, f.pe);
      pe = omega (arith, f.pe);
      r = omega (arith, f.r, f.pr);
      pr = omega (arith, f.pr);
      ro = omega (arith, f.ro);
      pro = omega (arith, f.pro);
      l = omega (arith, f.l, f.pl);
      pl = omega (arith, f.pl);
    }

-- D of a calendar month, where its gamma is in range
departure-in : (s : Span) → Years s.capacity s.records s.first s.years → (m : ℕ) → m < last_month → gamma_of (sums_in s m) ≤ most_gamma → departure_in s m ≤ 350000
unfolding departure_in
departure-in s y m l g =
    mean-most (shares_in s m) (row_in s.capacity s.records (s.first + m)) s.years (in-range s y m l g)
    (rows_fit s.capacity s.records (s.first + m) s.years (y m l))

-- ---- of a run whose record and years are not refused
module _ (r : Run) (cs : Book) (k : record_refusal r cs ≡ 0) (h : years_refusal (span_of r cs) ≡ 0) (m : ℕ) (l : m < last_month) where
  abbrev its : Span
  its = span_of r cs

  summed : SumsFit (sums_in its m) most_years
  summed = sums-room its (watered r cs k h) m l

  pub shares : SharesIn (sums_in its m)
  shares = shares-in (sums_in its m) most_years summed

  pub room : Room (sums_in its m) × (gamma_of (sums_in its m) ≤ most_gamma → departure_in its m ≤ 350000)
  room = (has_room (sums_in its m) summed, departure-in its (watered r cs k h) m l)

-- ---- what is answered with 0
module _ (r : Run) (weights : List ℤ) (cs : Book) where
  abbrev years-of : Span
  years-of = span_of r cs

  set-taken : WorkOutGives r weights cs 0 → ConstantsTaken (sixty_in years-of weights)
  set-taken (work-0 w g k z) =
      let y = watered r cs (record-0 r cs w.given) (years-0 years-of w.years) in
      record { sixty = sixty-long years-of weights; fit = sixty-fits years-of weights y (gammas-in years-of weights g) (ks-in years-of weights k); all_count = z }

  pub starts : (work_out r weights cs).number ≡ 0
      → let set = (work_out r weights cs).constants in
      ConstantsTaken set × ((c ss su m : ℤ) → capacity_fits c ≡ true → storages_fit c ss su ≡ true → month_fits m ≡ true → start_refusal set c ss su m ≡ 0)
  starts e =
      let t = subst (λ (a : WorkedOut). ConstantsTaken a.constants) (sym (worked r weights cs e)) (set-taken ((works-exactly r weights cs 0).0 e)) in
      (t, λ c ss su m hc hs hm. not-refused _ c ss su m (record { constants = t; capacity = hc; storages = hs; month = hm }))
