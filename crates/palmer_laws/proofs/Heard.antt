-- What a line makes of what the program holds, where each line before it gave a month: `hears`. It is refused with the number that it has by itself
-- and by its place, and then the run is as it was; or it gives a month more. Assumes nothing.
use mathlib.Core.Path.{◌≡◌, refl, ap, ◌∙◌}
use mathlib.Core.Bool.{Bool, true, false}
use mathlib.Core.List.{List}
use Prim.Native.Nat.{ℕ, zero, suc, ◌≤◌}
use native.Mathlib.Omega.{arith}
use lib.IntN.{ℤ, pos}
use Rattle.outline.specs.Numbers.{length_fits, z_fits}
use Rattle.outline.specs.Refusals.{bad_z, not_a_number, or_else}
use Rattle.water.specs.Layers.{least_capacity}
use Rattle.runs.specs.declared.Run.{Run}
use Rattle.starts.specs.Start.{ones}
use Rattle.starts.proofs.Theorems.{start-is-run, z-starts}
use Rattle.lines.specs.Line.{well_formed, value, ranged, judged}
use Rattle.modified.specs.Modified.{modified_of}
use Rattle.records.specs.Record.{z_record}
use Rattle.records.specs.declared.Record.{Record}
use Rattle.records.proofs.Meeting.{after_none}
use Rattle.refusals.specs.Book.{Book, long, lengths_fit, columns_fit}
use Rattle.refusals.specs.Good.{Good}
use Rattle.refusals.specs.Refusals.{is_run_of, room_refusal, z_refusal}
use Rattle.refusals.proofs.Refused.{good-passes, parts-run, z-passes}
use Rattle.adding.specs.Figures.{no_water}
use Rattle.adding.specs.Taken.{taken}
use Rattle.adding.proofs.Readiness.{run_is}
use Rattle.drought.specs.Calls.{add_z}
use Rattle.run_laws.proofs.Keeps.{long_kept, good-taken}
use Rattle.palmer_input.specs.ByLines.{State, with_z, heard_with, heard}
use Rattle.palmer_output.specs.Printed.{most_lines}
use Rattle.palmer_laws.specs.Palmer.{start}
use Rattle.palmer_laws.specs.Refused.{line_refusal}

-- ---- n lines were heard, and each gave a month
pub record Sound (n : ℕ) (t : State) : Type 0 where
  pub none_refused : t.session.refused ≡ 0
  pub months : t.session.run.months ≡ n
  pub columns_long : long t.columns ≡ most_lines
  pub good : Good t.session.run t.columns

pub at_most : (n : ℕ) (t : State) → Sound n t → n ≤ most_lines
at_most n t s = omega (arith, s.months, s.columns_long, (run_is t.session.run t.columns s.good).months)

-- before the first line
blank-fits : columns_fit start.columns ≡ true
unfolding lengths_fit length_fits
blank-fits = refl

begins-run : is_run_of start.columns start.session.run ≡ true
begins-run =
    parts-run start.session.run start.columns (start-is-run ones (pos least_capacity) (pos 0) (pos 0) (pos 1) z-starts (long start.columns))
    (after_none start.session.run.soil start.columns.records 0 refl)

pub begins : Sound 0 start
begins =
    record {
      none_refused = refl;
      months = refl;
      columns_long = refl;
      good = record { fit = blank-fits; run = begins-run };
    }

-- ---- what a heard line leaves, by its refusal
pub record Heard (n k : ℕ) (u : State) : Type 0 where
  pub number : u.session.refused ≡ k
  pub taken : k ≡ 0 → Sound (suc n) u
  pub stays : (k ≡ 0 → ⊥) → u.session.run.months ≡ n

-- a Z that a line says is in the range
ranged-fits : (v : ℤ) (b : Bool) → z_fits v ≡ b → (ranged v).number ≡ 0 → z_fits (ranged v).z ≡ true
unfolding ranged
ranged-fits v true e h = rw e e
ranged-fits v false e h = absurd (let g : bad_z ≡ 0 = rw e at h in omega arith)

judged-fits : (line : List ℕ) (b : Bool) → well_formed line ≡ b → (judged line).number ≡ 0 → z_fits (judged line).z ≡ true
unfolding judged
judged-fits line true e h = rw e (ranged-fits (value line) (z_fits (value line)) refl (rw e at h))
judged-fits line false e h = absurd (let g : not_a_number ≡ 0 = rw e at h in omega arith)

module _ (n : ℕ) (t : State) (s : Sound n t) where
  abbrev run : Run
  run = t.session.run

  abbrev cs : Book
  cs = t.columns

  z-refused : (z : ℤ) → z_fits z ≡ true → z_refusal run z cs ≡ room_refusal most_lines n
  unfolding z_refusal
  z-refused z f = rw (good-passes run cs s.good, f, s.columns_long, s.months)

  added : (z : ℤ) (k : ℕ) → z_refusal run z cs ≡ k → Heard n k (with_z run z cs t.percents)
  unfolding with_z add_z taken
  added z zero e =
      let g = z-passes run cs z e in
      let f = (run_is run cs s.good).soil in
      let kept : Record = z_record run.soil z (modified_of run.values z) in
      rw e
      (record {
        number = refl;
        taken =
            λ _. record {
              none_refused = refl;
              months = ap suc s.months;
              columns_long = long_kept run cs s.good g.1 run.soil f no_water z g.2 kept ∙ s.columns_long;
              good = good-taken run cs s.good g.1 run.soil f no_water z g.2 kept refl refl;
            };
        stays = λ h. absurd (h refl);
      })
  added z (suc k) e = rw e (record { number = refl; taken = λ h. absurd (omega (arith, h)); stays = λ _. s.months })

  by_number : (z : ℤ) (k : ℕ) → (k ≡ 0 → z_fits z ≡ true) → Heard n (or_else k (room_refusal most_lines n)) (heard_with k z run cs t.percents)
  by_number z zero f = added z (room_refusal most_lines n) (z-refused z (f refl))
  by_number z (suc k) f = record { number = refl; taken = λ h. absurd (omega (arith, h)); stays = λ _. s.months }

  pub hears : (line : List ℕ) → Heard n (line_refusal n line) (heard t line)
  unfolding heard line_refusal
  hears line = rw s.none_refused (by_number (judged line).z (judged line).number (judged-fits line (well_formed line) refl))
