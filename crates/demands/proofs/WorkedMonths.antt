-- Document 01's worked months, W1 to W4 and S1 to S6, with thin soils, a K of 0, the outline's numbers, the modified index and whole answers: one table, one
-- claim, by computation. Assumes nothing.
use mathlib.Core.Path.{◌≡◌, refl}
use mathlib.Core.Bool.{true}
use Rattle.exact.specs.Nearest.{nearest, nearest_ℕ}
use Rattle.exact.specs.Next.{next_of}
use Rattle.exact.specs.Worked.{agree}
use Rattle.outline.specs.Numbers.{length_fits, z_fits}
use Rattle.door.specs.Exact.{within, above_zero, nearest_to}
use Rattle.door.specs.Readings.{whole, converted, inches, millimetres, reading, month}
use Rattle.water.specs.Layers.{surface_holds, underlying_holds}
use Rattle.water.specs.Balance.{under_loss, loss_surface, loss_underlying, dry_month, to_surface, to_underlying, wet_month, balance_of}
use Rattle.water.specs.Expected.{potential_surface, potential_underlying, potentials_of, n_of, cafec_of, z_of, expected_of, month_of}
use Rattle.ranges.specs.Ranges.{limit_of, constant_fits, constants_fit_to, calendar_fits}
use Rattle.calendar.specs.Calendar.{constants_at, zero_k_within, next_calendar}
use Rattle.runs.specs.Runs.{soil_fits, sizes_fit, signs_fit, v_fits, is_run}
use Rattle.records.specs.Ends.{amounts, ends_meet}
use Rattle.starts.specs.Start.{capacity_fits, storages_fit, month_fits, start_refusal, start_of}
use Rattle.series.specs.Series.{lists_fit, series_refusal, whole_series}
use Rattle.refusals.specs.Book.{lengths_fit}
use Rattle.refusals.specs.Refusals.{is_run_for, run_refusal, room_refusal, water_refusal, z_refusal, row_refusal}
use Rattle.adding.specs.Taken.{taken, taken_water}
use Rattle.drought.specs.Calls.{add_outcomes, add_water, add_inches, add_z, row_of_run}
use Rattle.season_month.specs.Listed.{listed}
use Rattle.season.specs.Season.{add_each, season_refusal, add_season}
use Rattle.spells.specs.Spells.{raised, lowered, larger_in_size, provisional, steady_month, abating_values, abating_month, founded, unfounded, tried, no_spell, ending_month, in_force, step_of}
use Rattle.ending.specs.Ending.{turn, u_of, v_of, e_of, q_of, ending_of, percent_of}
use Rattle.modified.specs.Modified.{mixed, side, leaning, modified_by, modified_in, modified_of}
use Rattle.spell_laws.specs.Worked.{s1, s23, s4-first, s4-second, s4-third, s56}
use Rattle.demands.specs.Answered.{march, march_inches, october, november, december, january, season, refused, series}
use Rattle.demands.specs.Worked.{worked_table, months}

pub worked : agree worked_table ≡ true
unfolding length_fits z_fits within above_zero nearest_to whole converted inches millimetres reading month calendar_fits next_calendar soil_fits sizes_fit signs_fit v_fits is_run is_run_for ends_meet amounts start_of lists_fit series_refusal whole_series lengths_fit run_refusal room_refusal water_refusal z_refusal row_refusal taken taken_water add_outcomes add_water add_inches add_z row_of_run listed add_each season_refusal add_season march march_inches october november december january season refused series nearest nearest_ℕ limit_of constant_fits constants_fit_to constants_at zero_k_within capacity_fits storages_fit month_fits start_refusal surface_holds underlying_holds under_loss loss_surface loss_underlying dry_month to_surface to_underlying wet_month balance_of potential_surface potential_underlying potentials_of n_of cafec_of z_of expected_of month_of next_of turn u_of v_of e_of q_of ending_of percent_of raised lowered larger_in_size provisional steady_month abating_values abating_month founded unfounded tried no_spell ending_month in_force step_of mixed side leaning modified_by modified_in modified_of s1 s23 s4-first s4-second s4-third s56 months
worked = refl
