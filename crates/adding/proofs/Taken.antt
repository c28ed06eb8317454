-- What `add_spells` leaves is `Spells`: the step, the row that hindsight adds, and the columns that it leaves; and what `month_added` puts
-- together of it is `taken`. Assumes nothing.
use mathlib.Core.Path.{◌≡◌, ap}
use mathlib.Core.List.{List}
use Prim.Native.Nat.{ℕ, suc, ◌+◌, ◌≤◌}
use native.Mathlib.Omega.{arith}
use lib.IntN.{ℤ}
use lib.ListN.{set}
use Rattle.water.specs.declared.Soil.{Soil}
use Rattle.spells.specs.Spells.{step_of}
use Rattle.spells.specs.declared.Running.{Running}
use Rattle.spells.specs.declared.SpellMonth.{SpellMonth}
use Rattle.modified.specs.Modified.{modified_of}
use Rattle.hindsight.specs.Rule.{Row}
use Rattle.hindsight.specs.Adding.{add_as, add_month, settled_as, settled_count, History}
use Rattle.hindsight.specs.Coded.{Adds}
use Rattle.hindsight.specs.Months.{row_for, mark_for}
use Rattle.runs.specs.declared.Progress.{Progress}
use Rattle.records.specs.Record.{numbers_of}
use Rattle.records.specs.declared.Record.{Record}
use Rattle.refusals.specs.Columns.{Columns, columns}
use Rattle.refusals.specs.Book.{Book, columns_of, book_of}
use Rattle.adding.specs.Taken.{held_in, taken}
use Rattle.adding.specs.Progress.{month_added, Takes}
use Rattle.adding.specs.Spelled.{Spells}
use Rattle.adding.specs.declared.Spelled.{Spelled}
use Rattle.adding.specs.declared.WaterFigures.{WaterFigures}
use Rattle.std.specs.Prelude.{Option, None, Some}
use Rattle.spells.specs.declared.With.{With}

-- what an add settles and what it leaves open are together at most one more than were open
counts-as : (d : Option With) (run : History) (r : Row) → settled_as d run.opens + (add_as d run r).opens ≤ suc run.opens
counts-as None run r = omega arith
counts-as (Some w) run r = omega arith

pub counts-most : (run : History) (r : Row) → settled_count run r + (add_month run r).opens ≤ suc run.opens
counts-most run r = counts-as r.decision run r

pub opens-most : (run : History) (r : Row) → (add_month run r).opens ≤ suc run.opens
opens-most run r = omega (arith, counts-most run r)

pub settled-most : (run : History) (r : Row) → settled_count run r ≤ suc run.opens
settled-most run r = omega (arith, counts-most run r)

module _ (months opens : ℕ) (cs : Columns) (s : SpellMonth) where
  -- what hindsight's add leaves in the columns, and its two counts
  abbrev pub Wrote : List ℤ → List ℤ → List ℤ → List ℤ → List ℕ → ℕ → ℕ → Type 0
  Wrote x1 x2 x3 index mark left settled =
      (x1 ≡ set cs.x1 months s.after.x1)
      × (x2 ≡ set cs.x2 months s.after.x2)
      × (x3 ≡ set cs.x3 months s.after.x3)
      × Adds (held_in months opens cs) (row_for s) months cs.index index cs.mark mark left settled

  pub spelled_is : (values : Running) (z : ℤ) (x1 x2 x3 index : List ℤ) (mark : List ℕ) (left settled m : ℕ) (x : ℤ)
      → s ≡ step_of values z
      → Wrote x1 x2 x3 index mark left settled
      → m ≡ mark_for s.decision
      → x ≡ modified_of values z
      → Spells months opens values z cs (record { settled = settled; opens = left; percent = s.percent; index = s.index; mark = m; modified = x; values = s.after }) (columns x1 x2 x3 index mark)
  spelled_is values z x1 x2 x3 index mark left settled m x e g h i =
      let a = g.3 in
      record {
        values_are = ap (λ (m : SpellMonth). m.after) e;
        opens_are = rw (← e) a.opens_is;
        settled_are = rw (← e) a.settled_is;
        percent_is = ap (λ (m : SpellMonth). m.percent) e;
        index_is = ap (λ (m : SpellMonth). m.index) e;
        mark_is = rw (← e) h;
        modified_is = i;
        columns_are = rw (← e, g.0, g.1, g.2, a.index_is, a.mark_is);
      }

-- put together with the run's storages, calendar and constants, and with its record and V written, it is `taken`
pub taken_is : (at : Progress) (soil : Soil) (w : WaterFigures) (z : ℤ) (kept : Record) (cs : Book) (t : Spelled) (after : Columns) (records : List (List ℤ)) (v : List ℤ)
    → Spells at.months at.opens at.values z (columns_of cs) t after → records ≡ set cs.records at.months (numbers_of kept) → v ≡ set cs.v at.months t.values.v
    → Takes at soil w z kept cs (month_added at soil w z t) (book_of after records v)
unfolding taken
taken_is at soil w z kept cs t after records v p e f k =
    rw (e, f, p.values_are, p.opens_are, p.settled_are, p.percent_is, p.index_is, p.mark_is, p.modified_is, p.columns_are)
