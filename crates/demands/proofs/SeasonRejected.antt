-- WRONG SEASONS, and that none keeps the promise of the call, as proofs/Rejected.antt has it for the single calls: a program is any function
-- from what is handed in to what it leaves; each theorem takes one that keeps the promise and is wrong in the way that the theorem names, and
-- comes to a contradiction on months that are worked out here. Assumes nothing.
use mathlib.Core.Path.{◌≡◌, refl, sym, ap, ◌∙◌}
use mathlib.Core.List.{List, [], ◌∷◌}
use native.Mathlib.Omega.{arith}
use lib.IntN.{ℤ, pos, negsuc}
use lib.ListN.{length}
use Rattle.exact.specs.Nearest.{nearest, nearest_ℕ}
use Rattle.exact.specs.Next.{next_of}
use Rattle.door.specs.Readings.{reading, whole}
use Rattle.water.specs.Layers.{surface_holds, underlying_holds}
use Rattle.water.specs.Balance.{under_loss, balance_of, wet_month, to_surface, to_underlying}
use Rattle.water.specs.Expected.{potential_surface, potential_underlying, potentials_of, n_of, expected_of, z_of, month_of}
use Rattle.spells.specs.Spells.{raised, lowered, larger_in_size, provisional, steady_month, abating_values, abating_month, founded, unfounded, tried, no_spell, ending_month, in_force, step_of}
use Rattle.ending.specs.Ending.{turn, u_of, v_of, e_of, q_of, ending_of, percent_of}
use Rattle.ranges.specs.Ranges.{limit_of, constant_fits, constants_fit_to, calendar_fits}
use Rattle.calendar.specs.Calendar.{constants_at, zero_k_within, next_calendar}
use Rattle.runs.specs.Runs.{soil_fits, sizes_fit, signs_fit, v_fits, is_run}
use Rattle.outline.specs.Numbers.{length_fits, z_fits}
use Rattle.starts.specs.Start.{fresh_run, ones}
use Rattle.runs.specs.declared.Run.{Run}
use Rattle.records.specs.Ends.{amounts, ends_meet}
use Rattle.refusals.specs.Book.{Book, lengths_fit}
use Rattle.refusals.specs.Refusals.{is_run_for, run_refusal, room_refusal, water_refusal}
use Rattle.adding.specs.Figures.{no_figures}
use Rattle.drought.specs.Calls.{add_outcomes, add_water}
use Rattle.adding.specs.Taken.{taken, taken_water}
use Rattle.adding.specs.declared.Figures.{Figures}
use Rattle.season.specs.Season.{SeasonResult, add_each, season_refusal, add_season}
use Rattle.season_month.specs.Listed.{listed}
use Rattle.demands.proofs.Rejected.{blank}

-- a run as a start gives it. With such constants a few thousandths of rain are no anomaly
abbrev begun : Run
begun = fresh_run ones (pos 6000) (pos 0) (pos 0) (pos 1)

-- a thousandth, two thousandths, and a missing month; PE is 0
abbrev rain : List ℤ
rain = pos 1 ∷ pos 2 ∷ negsuc 0 ∷ []

abbrev none : List ℤ
none = pos 0 ∷ pos 0 ∷ pos 0 ∷ []

abbrev broken : SeasonResult
broken = add_season begun rain none (blank 3)

-- the first month alone
abbrev one : SeasonResult
one = add_season begun (pos 1 ∷ []) (pos 0 ∷ []) (blank 3)

-- the first two
abbrev two : SeasonResult
two = add_season begun (pos 1 ∷ pos 2 ∷ []) (pos 0 ∷ pos 0 ∷ []) (blank 3)

-- the second, after the first
abbrev last : SeasonResult
last = add_season one.answer.run (pos 2 ∷ []) (pos 0 ∷ []) one.columns

record WorkedSeason : Type 0 where
  broken_number : broken.answer.number ≡ 8
  broken_added : broken.answer.added ≡ 2
  broken_months : broken.answer.run.months ≡ 2
  broken_p : broken.answer.figures.water.p ≡ 2
  broken_settled : broken.answer.settled ≡ 2
  one_number : one.answer.number ≡ 0
  one_p : one.answer.figures.water.p ≡ 1
  one_settled : one.answer.settled ≡ 1
  two_number : two.answer.number ≡ 0
  two_p : two.answer.figures.water.p ≡ 2
  two_settled : two.answer.settled ≡ 2
  last_settled : last.answer.settled ≡ 1

worked : WorkedSeason
unfolding nearest nearest_ℕ next_of turn u_of v_of e_of q_of ending_of percent_of raised lowered larger_in_size provisional steady_month abating_values abating_month founded unfounded tried no_spell ending_month in_force step_of surface_holds underlying_holds under_loss balance_of wet_month to_surface to_underlying potential_surface potential_underlying potentials_of n_of expected_of z_of month_of limit_of constant_fits constants_fit_to constants_at zero_k_within calendar_fits next_calendar length_fits z_fits soil_fits sizes_fit signs_fit v_fits is_run is_run_for ends_meet amounts reading whole lengths_fit run_refusal room_refusal water_refusal taken taken_water add_outcomes add_water listed add_each season_refusal add_season
worked =
    record {
      broken_number = refl;
      broken_added = refl;
      broken_months = refl;
      broken_p = refl;
      broken_settled = refl;
      one_number = refl;
      one_p = refl;
      one_settled = refl;
      two_number = refl;
      two_p = refl;
      two_settled = refl;
      last_settled = refl;
    }

module _ (f : Run → List ℤ → List ℤ → Book → SeasonResult) (keeps : (r : Run) (ps pes : List ℤ) (cs : Book) → f r ps pes cs ≡ add_season r ps pes cs) where
  is-broken : f begun rain none (blank 3) ≡ broken
  is-broken = keeps begun rain none (blank 3)

  is_one : f begun (pos 1 ∷ []) (pos 0 ∷ []) (blank 3) ≡ one
  is_one = keeps begun (pos 1 ∷ []) (pos 0 ∷ []) (blank 3)

  is-two : f begun (pos 1 ∷ pos 2 ∷ []) (pos 0 ∷ pos 0 ∷ []) (blank 3) ≡ two
  is-two = keeps begun (pos 1 ∷ pos 2 ∷ []) (pos 0 ∷ pos 0 ∷ []) (blank 3)

  is_last : f one.answer.run (pos 2 ∷ []) (pos 0 ∷ []) one.columns ≡ last
  is_last = keeps one.answer.run (pos 2 ∷ []) (pos 0 ∷ []) one.columns

  -- stops one month late: the missing month, here always the last, is counted as added
  pub stops-late : ((r : Run) (ps pes : List ℤ) (cs : Book) → (f r ps pes cs).answer.number ≡ 8 → (f r ps pes cs).answer.added ≡ length ps) → ⊥
  stops-late h =
      let a = rw is-broken at (h begun rain none (blank 3)) in
      let e = sym worked.broken_added ∙ a worked.broken_number in
      omega arith

  -- drops the earlier months on a refusal
  pub drops-earlier : ((r : Run) (ps pes : List ℤ) (cs : Book) → (f r ps pes cs).answer.number ≡ 8 → (f r ps pes cs).answer.run ≡ r) → ⊥
  drops-earlier h =
      let a = rw is-broken at (h begun rain none (blank 3)) in
      let e = sym worked.broken_months ∙ ap (λ (r : Run). r.months) (a worked.broken_number) in
      omega arith

  -- .. or their figures
  pub drops-figures : ((r : Run) (ps pes : List ℤ) (cs : Book) → (f r ps pes cs).answer.number ≡ 8 → (f r ps pes cs).answer.figures ≡ no_figures) → ⊥
  drops-figures h =
      let a = rw is-broken at (h begun rain none (blank 3)) in
      let e = sym worked.broken_p ∙ ap (λ (g : Figures). g.water.p) (a worked.broken_number) in
      omega arith

  -- answers the first month's figures
  pub first-figures : ((r : Run) (p q pe qe : ℤ) (cs : Book) → (f r (p ∷ q ∷ []) (pe ∷ qe ∷ []) cs).answer.number ≡ 0 → (f r (p ∷ q ∷ []) (pe ∷ qe ∷ []) cs).answer.figures ≡ (f r (p ∷ []) (pe ∷ []) cs).answer.figures) → ⊥
  first-figures h =
      let a = rw (is-two, is_one) at (h begun (pos 1) (pos 2) (pos 0) (pos 0) (blank 3)) in
      let e = sym worked.two_p ∙ ap (λ (g : Figures). g.water.p) (a worked.two_number) ∙ worked.one_p in
      omega arith

  -- the settled counts of the last month only
  pub last-settled-only : ((r : Run) (p q pe qe : ℤ) (cs : Book) → (f r (p ∷ q ∷ []) (pe ∷ qe ∷ []) cs).answer.number ≡ 0 → let t = f r (p ∷ []) (pe ∷ []) cs in (f r (p ∷ q ∷ []) (pe ∷ qe ∷ []) cs).answer.settled ≡ (f t.answer.run (q ∷ []) (qe ∷ []) t.columns).answer.settled) → ⊥
  last-settled-only h =
      let a = rw (is-two, is_one, is_last) at (h begun (pos 1) (pos 2) (pos 0) (pos 0) (blank 3)) in
      let e = sym worked.two_settled ∙ a worked.two_number ∙ worked.last_settled in
      omega arith
