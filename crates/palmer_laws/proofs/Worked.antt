-- Worked inputs, computed from the definition alone: document 01's own, an empty one, a blank line, and the last line that gives a month. An input and what is printed of it are written
-- as their bytes. Assumes nothing.
use mathlib.Core.Path.{◌≡◌, refl}
use mathlib.Core.List.{[], ◌∷◌}
use Rattle.outline.specs.Numbers.{length_fits, z_fits}
use Rattle.exact.specs.Nearest.{nearest, nearest_ℕ}
use Rattle.exact.specs.Next.{next_of}
use Rattle.text.specs.Bytes.{is_digit, all_digits, negative, body, natural}
use Rattle.text.specs.Lines.{last_line, cut, lines_of}
use Rattle.water.specs.Layers.{surface_holds, underlying_holds}
use Rattle.ending.specs.Ending.{turn, u_of, v_of, e_of, q_of, ending_of, percent_of}
use Rattle.spells.specs.Spells.{raised, lowered, larger_in_size, provisional, steady_month, abating_values, abating_month, founded, unfounded, tried, no_spell, ending_month, in_force, step_of}
use Rattle.ranges.specs.Ranges.{limit_of, constant_fits, constants_fit_to, calendar_fits}
use Rattle.calendar.specs.Calendar.{constants_at, zero_k_within, next_calendar}
use Rattle.runs.specs.Runs.{soil_fits, sizes_fit, signs_fit, v_fits, is_run}
use Rattle.lines.specs.Line.{one_or_more, well_formed, signed, value, ranged, judged}
use Rattle.rows.specs.Text.{digits_within, numeral, integer, letter, row_text, refused_text}
use Rattle.records.specs.Ends.{amounts, ends_meet}
use Rattle.refusals.specs.Book.{lengths_fit}
use Rattle.refusals.specs.Refusals.{is_run_for, run_refusal, room_refusal, z_refusal, row_refusal}
use Rattle.adding.specs.Taken.{taken}
use Rattle.drought.specs.Calls.{add_z, row_of_run}
use Rattle.palmer_input.specs.ByLines.{with_z, heard}
use Rattle.palmer_output.specs.Printed.{percent_at, row_at, rows_text}
use Rattle.palmer_laws.specs.Palmer.{printed_from, palmer_of}
use Rattle.palmer_laws.specs.Refused.{line_refusal}

-- "Input -3000, 1040, 0 prints": "1 0 0 -1000 0 -1000 S", "2 347 0 -550 99 347 S" and "3 311 0 0 100 311 S"
pub outlined : palmer_of (45 ∷ 51 ∷ 48 ∷ 48 ∷ 48 ∷ 10 ∷ 49 ∷ 48 ∷ 52 ∷ 48 ∷ 10 ∷ 48 ∷ 10 ∷ []) ≡ (49 ∷ 32 ∷ 48 ∷ 32 ∷ 48 ∷ 32 ∷ 45 ∷ 49 ∷ 48 ∷ 48 ∷ 48 ∷ 32 ∷ 48 ∷ 32 ∷ 45 ∷ 49 ∷ 48 ∷ 48 ∷ 48 ∷ 32 ∷ 83 ∷ 10 ∷ 50 ∷ 32 ∷ 51 ∷ 52 ∷ 55 ∷ 32 ∷ 48 ∷ 32 ∷ 45 ∷ 53 ∷ 53 ∷ 48 ∷ 32 ∷ 57 ∷ 57 ∷ 32 ∷ 51 ∷ 52 ∷ 55 ∷ 32 ∷ 83 ∷ 10 ∷ 51 ∷ 32 ∷ 51 ∷ 49 ∷ 49 ∷ 32 ∷ 48 ∷ 32 ∷ 48 ∷ 32 ∷ 49 ∷ 48 ∷ 48 ∷ 32 ∷ 51 ∷ 49 ∷ 49 ∷ 32 ∷ 83 ∷ 10 ∷ [])
unfolding last_line cut lines_of is_digit negative body one_or_more all_digits well_formed natural signed value z_fits ranged judged nearest nearest_ℕ next_of turn u_of v_of e_of q_of ending_of percent_of raised lowered larger_in_size provisional steady_month abating_values abating_month founded unfounded tried no_spell ending_month in_force step_of surface_holds underlying_holds limit_of constant_fits constants_fit_to constants_at zero_k_within calendar_fits next_calendar length_fits soil_fits sizes_fit signs_fit v_fits is_run amounts ends_meet lengths_fit is_run_for run_refusal room_refusal z_refusal row_refusal taken add_z row_of_run with_z heard percent_at row_at rows_text printed_from palmer_of digits_within numeral integer letter row_text refused_text
outlined = refl

-- "Empty input prints nothing"
pub empty : palmer_of [] ≡ []
unfolding lines_of cut last_line rows_text printed_from palmer_of
empty = refl

-- "a blank line is refusal 13": "refused 1 13"
pub blank : palmer_of (10 ∷ []) ≡ (114 ∷ 101 ∷ 102 ∷ 117 ∷ 115 ∷ 101 ∷ 100 ∷ 32 ∷ 49 ∷ 32 ∷ 49 ∷ 51 ∷ 10 ∷ [])
unfolding last_line cut lines_of is_digit negative body one_or_more all_digits well_formed natural signed value z_fits ranged judged with_z heard rows_text printed_from palmer_of digits_within numeral integer letter row_text refused_text
blank = refl

-- "Its columns are 2,400 long": a 0 at line 2,400 gives a month, and at line 2,401 is refused with 10
pub last-line : (line_refusal 2399 (48 ∷ []) ≡ 0) × (line_refusal 2400 (48 ∷ []) ≡ 10)
unfolding is_digit negative body one_or_more all_digits well_formed natural signed value z_fits ranged judged room_refusal line_refusal
last-line = (refl, refl)
