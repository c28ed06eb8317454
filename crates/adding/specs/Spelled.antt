-- What a month of spells leaves, beside the run's storages, calendar and constants: the parts of `taken` (Taken.antt) that `add_spells`
-- works out and `month_added` puts together. Assumes nothing.
use Rattle.std.specs.Prelude.{◌≡◌, ℕ, ℤ}
use Rattle.spells.specs.Spells.{step_of}
use Rattle.spells.specs.declared.Running.{Running}
use Rattle.modified.specs.Modified.{modified_of}
use Rattle.hindsight.specs.Adding.{add_month, settled_count}
use Rattle.hindsight.specs.Months.{row_for, mark_for}
use Rattle.refusals.specs.Columns.{Columns}
use Rattle.adding.specs.Taken.{held_in, written}
use Rattle.adding.specs.declared.Spelled.{Spelled}

pub record Spells (months opens : ℕ) (values : Running) (z : ℤ) (cs : Columns) (t : Spelled) (after : Columns) : Type 0 where
  pub values_are : t.values ≡ (step_of values z).after
  pub opens_are : t.opens ≡ (add_month (held_in months opens cs) (row_for (step_of values z))).opens
  pub settled_are : t.settled ≡ settled_count (held_in months opens cs) (row_for (step_of values z))
  pub percent_is : t.percent ≡ (step_of values z).percent
  pub index_is : t.index ≡ (step_of values z).index
  pub mark_is : t.mark ≡ mark_for (step_of values z).decision
  pub modified_is : t.modified ≡ modified_of values z
  pub columns_are : after ≡ written cs months (step_of values z) (add_month (held_in months opens cs) (row_for (step_of values z)))
