-- A run that holds a K of 0 is refused with 7, by every add and by a row, and so no month that counts for nothing is ever added; a start's
-- numbers, 21 among them, are given exactly when. Of a season: Seasons. Assumes nothing.
use mathlib.Core.Path.{◌≡◌, ap, ◌∙◌}
use mathlib.Core.Bool.{Bool, true, false, cond}
use mathlib.Core.Logic.{◌↔◌}
use mathlib.Core.List.{List}
use Prim.Native.Nat.{ℕ, ◌*◌, ◌≤◌}
use native.Mathlib.Nat.{pos_of_ne-zero}
use native.Mathlib.Omega.{arith}
use lib.Dec.{ltb}
use lib.IntN.{ℤ, pos, ◌-ℤ◌, zero-*ℤ}
use Rattle.outline.specs.Refusals.{bad_lists, not_a_run, no_such_row, or_else}
use Rattle.outline.proofs.Refusals.{or-first, is-refused}
use Rattle.exact.specs.Nearest.{nearest}
use Rattle.exact.proofs.Nearest.{near-zero}
use Rattle.water.specs.Expected.{potentials_of, n_of, z_of, expected_of, month_of}
use Rattle.water.specs.declared.Soil.{Soil}
use Rattle.water.specs.declared.Constants.{Constants}
use Rattle.calendar.specs.Calendar.{constants_at, ZeroK}
use Rattle.calendar.proofs.CalendarLaws.{no-zero-k-exactly}
use Rattle.ranges.proofs.RangeLaws.{is-calendar}
use Rattle.runs.specs.declared.Run.{Run}
use Rattle.runs.proofs.RunLaws.{zero-k-no-run}
use Rattle.starts.specs.Start.{start_of}
use Rattle.starts.specs.Given.{StartGives}
use Rattle.starts.proofs.StartLaws.{given-exactly}
use Rattle.refusals.specs.Book.{Book, long, columns_fit}
use Rattle.refusals.specs.Refusals.{is_run_for, run_refusal, water_refusal, z_refusal, row_refusal}
use Rattle.adding.proofs.Readiness.{run_is}
use Rattle.drought.specs.Calls.{shown, not_shown, row_of_run}
use Rattle.drought.specs.declared.Shown.{Shown}
use Rattle.demands.specs.Months.{Ask, water, inches, anomaly, asked}
use Rattle.demands.specs.Demands.{number_of}
use Rattle.demands.proofs.Took.{took}
use Rattle.demands.proofs.Shown.{refused-add, refused-start}

pub starts_exactly : (constants : List ℤ) (c ss su m : ℤ) (n : ℕ) → ((start_of constants c ss su m).number ≡ n) ↔ StartGives constants c ss su m n
starts_exactly constants c ss su m n = rw (refused-start constants c ss su m).0 (given-exactly constants c ss su m n)

-- the number of what is no run, and 1 before it
abbrev pub unless-lists : Bool → ℕ
unless-lists t = cond t not_a_run bad_lists

pub not_done : (t : Bool) → unless-lists t ≡ 0 → ⊥
not_done true e = omega arith
not_done false e = omega arith

module _ (r : Run) (cs : Book) (z : ZeroK r.constants) where
  pub run-refused : run_refusal r cs ≡ unless-lists (columns_fit cs)
  unfolding run_refusal is_run_for
  run-refused = rw (zero-k-no-run (long cs) r z)

  -- whatever is asked next
  first-refused : (n : ℕ) → or_else (run_refusal r cs) n ≡ unless-lists (columns_fit cs)
  first-refused n = rw run-refused (or-first (unless-lists (columns_fit cs)) n (not_done (columns_fit cs)))

  add-refused : (a : Ask) → number_of r a cs ≡ unless-lists (columns_fit cs)
  unfolding water_refusal z_refusal
  add-refused (water p pe) = first-refused _
  add-refused (inches q) = first-refused _
  add-refused (anomaly x) = first-refused _

  row-refused : (i : ℕ) → (row_of_run r i cs).number ≡ unless-lists (columns_fit cs)
  unfolding row_of_run row_refusal
  row-refused i =
      let k = unless-lists (columns_fit cs) in
      rw (first-refused (cond (ltb i r.months) 0 no_such_row)) (ap (λ (s : Shown). s.number) (is-refused k (shown i cs) (not_shown k) (not_done (columns_fit cs))))

  pub zero-k : ((a : Ask) → (asked r a cs).answer.number ≡ unless-lists (columns_fit cs)) × ((i : ℕ) → (row_of_run r i cs).number ≡ unless-lists (columns_fit cs))
  zero-k = (λ a. (refused-add r a cs).0 ∙ add-refused a, row-refused)

-- a month that counts for nothing
pub nothing-counts : (s : Soil) (p pe : ℕ) (k : Constants) → k.k ≡ 0 → (month_of s p pe k).z ≡ pos 0
unfolding month_of expected_of n_of z_of nearest
nothing-counts s p pe k e = rw (e, zero-*ℤ (pos (10000 * p) -ℤ n_of k pe (potentials_of s pe))) (ap pos (near-zero 100000000))

-- no such month is added
pub counts : (r : Run) (a : Ask) (cs : Book) → (asked r a cs).answer.number ≡ 0 → 1 ≤ (constants_at r.constants r.calendar).k
counts r a cs h =
    let f = run_is r cs (took r cs a h).good in
    let none = (no-zero-k-exactly r.constants).0 f.all_count in
    pos_of_ne-zero (λ e. none (record { month = r.calendar; one_of_twelve = is-calendar r.calendar f.first_month f.last_month; nothing = e }))
