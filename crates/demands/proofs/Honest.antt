-- What a start gives and each add keeps is a run again: on columns that nobody else writes no call is ever refused 1 or 7, whatever was asked
-- before, accepted or refused. Assumes nothing.
use mathlib.Core.Path.{◌≡◌, refl, sym, ◌∙◌, subst}
use mathlib.Core.Bool.{true}
use mathlib.Core.Logic.{⊎_elim}
use mathlib.Core.List.{List, [], ◌∷◌}
use Prim.Native.Nat.{ℕ}
use native.Mathlib.Omega.{arith}
use Rattle.runs.specs.declared.Run.{Run}
use Rattle.starts.proofs.Theorems.{start-is-run}
use Rattle.records.proofs.Meeting.{after_none}
use Rattle.refusals.specs.Book.{Book, long, columns_fit}
use Rattle.refusals.specs.Good.{Good}
use Rattle.refusals.proofs.Refused.{parts-run}
use Rattle.drought.specs.Calls.{row_of_run}
use Rattle.demands.specs.Months.{Ask, asked, State, after, after_all}
use Rattle.demands.specs.Given.{AddGives, add_0, add_1, add_7, add_8, add_9, add_10, add_12, RowGives, row_0, row_1, row_7, row_11}
use Rattle.demands.specs.Demands.{number_of, Honest, Fresh, first, now}
use Rattle.demands.proofs.Took.{took, good-kept}
use Rattle.demands.proofs.Shown.{refused-add}
use Rattle.demands.proofs.Given.{zero_or, not-both-ways, adds_exactly, rows_exactly}

-- an add leaves what is good good
pub good-after : (s : State) (a : Ask) → Good s.run s.columns → Good (after s a).run (after s a).columns
good-after s a g =
    let b = refused-add s.run a s.columns in
    ⊎_elim
    (λ z. good-kept s.run a s.columns (took s.run s.columns a (b.0 ∙ z)))
    (λ n. let c = b.1 n in subst (λ (r : Run). Good r (after s a).columns) (sym c.0) (subst (Good s.run) (sym c.1) g))
    (zero_or (number_of s.run a s.columns))

pub good-always : (s : State) (asks : List Ask) → Good s.run s.columns → Good (after_all s asks).run (after_all s asks).columns
good-always s [] g = g
good-always s (a ∷ later) g = good-always (after s a) later (good-after s a g)

-- the number of a call on a good run is neither 1 nor 7: the cases of these two say that the columns do not fit, or that the run is none
module _ (r : Run) (cs : Book) (g : Good r cs) where
  add-honest : (a : Ask) (n : ℕ) → AddGives r a cs n → Honest n
  add-honest a n (add_1 f) = absurd (not-both-ways g.fit f)
  add-honest a n (add_7 f h) = absurd (not-both-ways g.run h)
  add-honest a n (add_0 h o l) = ((λ e. omega arith), (λ e. omega arith))
  add-honest a n (add_8 h o) = ((λ e. omega arith), (λ e. omega arith))
  add-honest a n (add_9 h o) = ((λ e. omega arith), (λ e. omega arith))
  add-honest a n (add_10 h o l) = ((λ e. omega arith), (λ e. omega arith))
  add-honest a n (add_12 h o) = ((λ e. omega arith), (λ e. omega arith))

  row-honest : (i n : ℕ) → RowGives r i cs n → Honest n
  row-honest i n (row_1 f) = absurd (not-both-ways g.fit f)
  row-honest i n (row_7 f h) = absurd (not-both-ways g.run h)
  row-honest i n (row_0 h l) = ((λ e. omega arith), (λ e. omega arith))
  row-honest i n (row_11 h l) = ((λ e. omega arith), (λ e. omega arith))

  pub never-refused : (a : Ask) → Honest (asked r a cs).answer.number
  never-refused a = add-honest a _ ((adds_exactly r a cs _).0 refl)

  row-never-refused : (i : ℕ) → Honest (row_of_run r i cs).number
  row-never-refused i = row-honest i _ ((rows_exactly r i cs _).0 refl)

-- from a start on: on columns that nobody else writes no sequence of calls is ever refused 1 or 7
module _ (f : Fresh) (fit : columns_fit f.columns ≡ true) (asks : List Ask) where
  pub good-now : Good (now f asks).run (now f asks).columns
  good-now = good-always (first f) asks (record { fit = fit; run = parts-run (first f).run f.columns (start-is-run f.constants f.capacity f.surface f.underlying f.month f.started (long f.columns)) (after_none (first f).run.soil f.columns.records 0 refl) })

  pub never-refused-7 : (a : Ask) → Honest (asked (now f asks).run a (now f asks).columns).answer.number
  never-refused-7 a = never-refused (now f asks).run (now f asks).columns good-now a

  pub rows-honest : (i : ℕ) → Honest (row_of_run (now f asks).run i (now f asks).columns).number
  rows-honest i = row-never-refused (now f asks).run (now f asks).columns good-now i
