-- A run of no months that no start gave, with X3 -3,000: a dry month is added to it by its own call, and a repair with the readings that stand there then changes that
-- month, which was open at -2,691 and is settled at 0 from a fresh run's values. By computation. Assumes nothing.
use mathlib.Core.Path.{◌≡◌, refl, sym, ◌∙◌}
use mathlib.Core.List.{List, [], ◌∷◌}
use Prim.Native.Nat.{ℕ}
use native.Mathlib.Omega.{arith}
use lib.IntN.{ℤ, pos}
use lib.ListN.{replicate}
use Rattle.outline.specs.Numbers.{length_fits, z_fits}
use Rattle.exact.specs.Nearest.{nearest, nearest_ℕ}
use Rattle.exact.specs.Next.{next_of}
use Rattle.exact.specs.Worked.{minus}
use Rattle.door.specs.Readings.{whole, reading}
use Rattle.door.specs.declared.Reading.{Reading}
use Rattle.door.specs.declared.Reading.TheVariants.{Whole}
use Rattle.water.specs.Layers.{surface_holds, underlying_holds}
use Rattle.water.specs.Balance.{under_loss, loss_surface, loss_underlying, dry_month, to_surface, to_underlying, wet_month, balance_of}
use Rattle.water.specs.Expected.{potential_surface, potential_underlying, potentials_of, n_of, cafec_of, z_of, expected_of, month_of}
use Rattle.ending.specs.Ending.{turn, u_of, v_of, e_of, q_of, ending_of, percent_of}
use Rattle.spells.specs.Spells.{raised, lowered, larger_in_size, provisional, steady_month, abating_values, abating_month, founded, unfounded, tried, no_spell, ending_month, in_force, step_of}
use Rattle.modified.specs.Modified.{mixed, side, leaning, modified_by, modified_in, modified_of}
use Rattle.ranges.specs.Ranges.{limit_of, constant_fits, constants_fit_to, calendar_fits}
use Rattle.calendar.specs.Calendar.{constants_at, zero_k_within, next_calendar}
use Rattle.runs.specs.Runs.{soil_fits, sizes_fit, signs_fit, v_fits, is_run}
use Rattle.starts.specs.Start.{run_for_z}
use Rattle.records.specs.Ends.{amounts, ends_meet}
use Rattle.refusals.specs.Book.{book, lengths_fit}
use Rattle.refusals.specs.Refusals.{is_run_for, run_refusal, room_refusal, water_refusal}
use Rattle.adding.specs.Taken.{taken, taken_water}
use Rattle.drought.specs.Calls.{add_outcomes, add_water}
use Rattle.kept_rows.specs.KeptRows.{index_fits, mark_fits, amount_fits, water_fits, storages_fit, record_fits, row_fits, rows_fit}
use Rattle.reopening.specs.Before.{decided, opens_before, calendar_back, shown_from}
use Rattle.report.specs.Report.{same, change_of, changes, reported}
use Rattle.reworking.specs.Reworked.{again, reworked, reworked_from}
use Rattle.repair.specs.Repair.{repair_refusal, repair_outcomes, repair}
use Rattle.demands.specs.Months.{Ask, water, State, standing, after_all, Accepted}
use Rattle.demands.specs.Recorded.{month_at}
use Rattle.demands.specs.Repairs.{Stand, repair_in}

-- the run, and lists of one place
abbrev dry : State
dry =
    standing
    (record {
      months = 0;
      opens = 0;
      calendar = 1;
      soil = run_for_z.soil;
      values = record { x1 = pos 0; x2 = pos 0; x3 = minus 3000; v = pos 0 };
      constants = run_for_z.constants;
    })
    (book (pos 0 ∷ []) (pos 0 ∷ []) (pos 0 ∷ []) (pos 0 ∷ []) (0 ∷ []) (replicate 14 (pos 0) ∷ []) (pos 0 ∷ []))

abbrev none : Reading
none = Whole (pos 0)

abbrev month : List Ask
month = water none none ∷ []

abbrev report : List (List ℤ)
report = replicate 5 (pos 0) ∷ []

is-added : Accepted dry month
unfolding length_fits z_fits whole reading calendar_fits next_calendar soil_fits sizes_fit signs_fit v_fits is_run is_run_for ends_meet amounts lengths_fit run_refusal room_refusal water_refusal taken taken_water add_outcomes add_water nearest nearest_ℕ limit_of constant_fits constants_fit_to constants_at zero_k_within surface_holds underlying_holds under_loss loss_surface loss_underlying dry_month to_surface to_underlying wet_month balance_of potential_surface potential_underlying potentials_of n_of cafec_of z_of expected_of month_of next_of turn u_of v_of e_of q_of ending_of percent_of raised lowered larger_in_size provisional steady_month abating_values abating_month founded unfounded tried no_spell ending_month in_force step_of mixed side leaning modified_by modified_in modified_of
is-added = (refl, tt)

-- the readings stand there, the repair is done, and one month is reported
stands : let t = after_all dry month in Stand none none (month_at t 0) × ((repair_in t 0 none none report).answer.number ≡ 0) × ((repair_in t 0 none none report).answer.changed ≡ 1)
unfolding length_fits z_fits whole reading calendar_fits next_calendar soil_fits sizes_fit signs_fit v_fits is_run is_run_for ends_meet amounts lengths_fit run_refusal room_refusal water_refusal taken taken_water add_outcomes add_water nearest nearest_ℕ limit_of constant_fits constants_fit_to constants_at zero_k_within surface_holds underlying_holds under_loss loss_surface loss_underlying dry_month to_surface to_underlying wet_month balance_of potential_surface potential_underlying potentials_of n_of cafec_of z_of expected_of month_of next_of turn u_of v_of e_of q_of ending_of percent_of raised lowered larger_in_size provisional steady_month abating_values abating_month founded unfounded tried no_spell ending_month in_force step_of mixed side leaning modified_by modified_in modified_of index_fits mark_fits amount_fits water_fits storages_fit record_fits row_fits rows_fit decided opens_before calendar_back shown_from same change_of changes reported again reworked reworked_from repair_refusal repair_outcomes repair
stands = ((refl, refl, refl), refl, refl)

pub start-needed :
    ((s : State) (asks : List Ask) (i : ℕ) (p pe : Reading) (report : List (List ℤ)) → s.run.months ≡ 0 → Accepted s asks
    → let t = after_all s asks in
    Stand p pe (month_at t i) → (repair_in t i p pe report).answer.number ≡ 0 → (repair_in t i p pe report).answer.changed ≡ 0) → ⊥
start-needed h =
    let e = sym stands.2 ∙ h dry month 0 none none report refl is-added stands.0 stands.1 in
    omega arith
